-- The queue's invariant: kept by each step, and the oldest waiting ticket's run is free.
use Rattle.std.proofs.Common.{◌≡◌, ℕ, Bool, true, false, cond, eqb, List, [], ◌∷◌, Some, sym, refl, ap, ◌∙◌, subst, inl}
use mathlib.Core.Bool.{false≢true}
use Rattle.std.proofs.lemmas.Bool.{not-true, not_from_false, and_parts, and_from, both_ways, eqb-true, eq-eqb}
use Rattle.device.specs.declared.interface.Kind.{Kind}
use Rattle.device.specs.declared.interface.Kind.TheVariants.{Read}
use Rattle.device.specs.Meaning.{is_flush}
use Rattle.queue.specs.Queue.{Entry, waits, mine, of_run, answered, serve, served, All, Pairs, Clear, Free, Kinded}
use Rattle.queue.specs.Sound.{Fits, Leaves, UnbrokenFrom, Unbroken, Rowed, Sound, oldest}

mine_waits : (r : ℕ) (e : Entry) → mine r e ≡ true → waits e ≡ true
mine_waits r e m = (and_parts (waits e) (eqb e.run r) m).0

mine_run : (r : ℕ) (e : Entry) → mine r e ≡ true → e.run ≡ r
mine_run r e m = eqb-true e.run r (and_parts (waits e) (eqb e.run r) m).1

own : (e : Entry) → waits e ≡ true → mine e.run e ≡ true
own e w = and_from (waits e) (eqb e.run e.run) w (eq-eqb e.run e.run refl)

-- THE OLDEST WAITING TICKET'S RUN IS FREE

-- behind a waiting h, whose run this is, every pair is clear
behind : (h : Entry) (es : List Entry) → waits h ≡ true → All (Fits h) es → Pairs Fits es → UnbrokenFrom h es → Free h.run es
behind h [] w a p u = tt
behind h (e ∷ es) w a p u = (each es a.1 p.0 u.0, behind h es w a.1 p.1 u.1)
  where
    each : (xs : List Entry) → All (Fits h) xs → All (Fits e) xs → (waits h ≡ true → waits e ≡ true → is_flush e.kind ≡ true → All (Leaves h) xs) → All (Clear h.run e) xs
    each [] b q v = tt
    each (x ∷ xs) b q v = (
      record {
        apart = λ we _ mx. q.0.clean we (mine_waits h.run x mx) (b.0.fellow w (mine_waits h.run x mx) (sym (mine_run h.run x mx))).0;
        last = λ _ _ mx. let k = b.0.fellow w (mine_waits h.run x mx) (sym (mine_run h.run x mx)) in ap is_flush (sym k.1) ∙ k.2;
        passes = λ we _ mx. not_flush (is_flush e.kind) (λ fl. (v w we fl).0 (mine_waits h.run x mx) (sym (mine_run h.run x mx)));
      },
      each xs b.1 q.1 (λ wh we fl. (v wh we fl).1),
    )
      where
        not_flush : (b : Bool) → (b ≡ true → ⊥) → b ≡ false
        not_flush true n = absurd (n refl)
        not_flush false n = refl

-- what is ready, or of run r itself, stands in no way
ready_clear : (r : ℕ) (e : Entry) (xs : List Entry) → e.ready ≡ true → All (Clear r e) xs
ready_clear r e [] q = tt
ready_clear r e (x ∷ xs) q = (
  record {
    apart = λ w _ _. absurd (both_ways e.ready (not-true e.ready w) q);
    passes = λ w _ _. absurd (both_ways e.ready (not-true e.ready w) q);
    last = λ w _ _. absurd (both_ways e.ready (not-true e.ready w) q);
  },
  ready_clear r e xs q,
)

own_clear : (r : ℕ) (e : Entry) (xs : List Entry) → mine r e ≡ true → All (Clear r e) xs
own_clear r e [] q = tt
own_clear r e (x ∷ xs) q = (
  record {
    apart = λ _ m _. absurd (both_ways (mine r e) m q);
    passes = λ _ m _. absurd (both_ways (mine r e) m q);
    last = λ _ m _. absurd (both_ways (mine r e) m q);
  },
  own_clear r e xs q,
)

pub oldest_free : (es : List Entry) (h : Entry) → Sound es → oldest es ≡ Some h → Free h.run es
oldest_free es h s o = walk es s.pairs s.unbroken o
  where
    walk : (xs : List Entry) → Pairs Fits xs → Unbroken xs → oldest xs ≡ Some h → Free h.run xs
    walk [] p u k = tt
    walk (e ∷ xs) p u k = go (walk xs p.1 u.1) e.ready refl k
      where
        go : (oldest xs ≡ Some h → Free h.run xs) → (b : Bool) → e.ready ≡ b → cond b (oldest xs) (Some e) ≡ Some h → Free h.run (e ∷ xs)
        go ih true q k = (ready_clear h.run e xs q, ih k)
        go ih false q k =
            let same : e ≡ h = cc in
            let w : waits e ≡ true = not_from_false e.ready q in
            subst (λ x. Free x.run (e ∷ xs)) same (own_clear e.run e xs (own e w), behind e xs w p.0 p.1 u.0)

-- A RUN IS OF ONE KIND

pub alike : (r : ℕ) (es : List Entry) → Pairs Fits es → (k : Kind) × Kinded r k es
alike r [] p = (Read, tt)
alike r (e ∷ es) p = go (alike r es p.1) (mine r e) refl
  where
    with_head : (xs : List Entry) → mine r e ≡ true → All (Fits e) xs → Kinded r e.kind xs
    with_head [] m a = tt
    with_head (x ∷ xs) m a =
        (λ mx. sym (a.0.fellow (mine_waits r e m) (mine_waits r x mx) (mine_run r e m ∙ sym (mine_run r x mx))).1, with_head xs m a.1)

    go : (k : Kind) × Kinded r k es → (b : Bool) → mine r e ≡ b → (k : Kind) × Kinded r k (e ∷ es)
    go ih true m = (e.kind, (λ _. refl, with_head es m p.0))
    go ih false m = (ih.0, (λ n. absurd (both_ways (mine r e) m n), ih.1))

-- SERVING KEEPS IT

module _ (r : ℕ) (answer : Entry → List ℕ) where
  fits_served : (e x : Entry) → Fits e x → Clear r e x → Fits (serve r answer e) (serve r answer x)
  fits_served e x h c = go (mine r e) (mine r x) refl refl
    where
      late : mine r e ≡ false → mine r x ≡ true → is_flush x.kind ≡ true → (b : Bool) → e.ready ≡ b → e.ready ≡ true
      late m n f true q = q
      late m n f false q = absurd (both_ways (is_flush x.kind) (c.last (not_from_false e.ready q) m n) f)

      go : (a b : Bool) → mine r e ≡ a → mine r x ≡ b → Fits (cond a (answered e (answer e)) e) (cond b (answered x (answer x)) x)
      go true true m n =
          record { other = h.other; after = λ _ _. refl; held = λ w _. absurd (false≢true w); clean = λ w _ _. absurd (false≢true w); fellow = λ w _ _. absurd (false≢true w) }
      go true false m n =
          record { other = h.other; after = λ _ _. refl; held = λ w _. absurd (false≢true w); clean = λ w _ _. absurd (false≢true w); fellow = λ w _ _. absurd (false≢true w) }
      go false true m n =
          record {
            other = h.other;
            held = λ w f. absurd (both_ways (is_flush e.kind) (c.passes w m n) f);
            after = λ _ f. late m n f e.ready refl;
            clean = λ _ w _. absurd (false≢true w);
            fellow = λ _ w _. absurd (false≢true w);
          }
      go false false m n = h

  all_served : (e : Entry) (xs : List Entry) → All (Fits e) xs → All (Clear r e) xs → All (Fits (serve r answer e)) (served r answer xs)
  all_served e [] h c = tt
  all_served e (x ∷ xs) h c = (fits_served e x h.0 c.0, all_served e xs h.1 c.1)

  pairs_served : (xs : List Entry) → Pairs Fits xs → Free r xs → Pairs Fits (served r answer xs)
  pairs_served [] p f = tt
  pairs_served (e ∷ xs) p f = (all_served e xs p.0 f.0, pairs_served xs p.1 f.1)

  waits_served : (e : Entry) → waits (serve r answer e) ≡ true → serve r answer e ≡ e
  waits_served e = go (mine r e)
    where
      go : (b : Bool) → waits (cond b (answered e (answer e)) e) ≡ true → cond b (answered e (answer e)) e ≡ e
      go true w = absurd (false≢true w)
      go false w = refl

  leaves_served : (e : Entry) (xs : List Entry) → All (Leaves e) xs → All (Leaves e) (served r answer xs)
  leaves_served e [] h = tt
  leaves_served e (x ∷ xs) h =
      (λ w k. let s = waits_served x w in h.0 (ap waits (sym s) ∙ w) (k ∙ ap (λ z. z.run) s), leaves_served e xs h.1)

  unbroken_from_served : (e : Entry) (xs : List Entry) → UnbrokenFrom e xs → UnbrokenFrom (serve r answer e) (served r answer xs)
  unbroken_from_served e [] h = tt
  unbroken_from_served e (f ∷ xs) h = (first, unbroken_from_served e xs h.1)
    where
      first : waits (serve r answer e) ≡ true → waits (serve r answer f) ≡ true → is_flush (serve r answer f).kind ≡ true → All (Leaves (serve r answer e)) (served r answer xs)
      first we wf fl =
          let se = waits_served e we in
          let sf = waits_served f wf in
          subst (λ z. All (Leaves z) (served r answer xs)) (sym se)
          (leaves_served e xs (h.0 (ap waits (sym se) ∙ we) (ap waits (sym sf) ∙ wf) (ap (λ z. is_flush z.kind) (sym sf) ∙ fl)))

  unbroken_served : (xs : List Entry) → Unbroken xs → Unbroken (served r answer xs)
  unbroken_served [] h = tt
  unbroken_served (e ∷ xs) h = (unbroken_from_served e xs h.0, unbroken_served xs h.1)

  -- the served run has no waiting ticket left, and the others have theirs
  served_none : (xs : List Entry) → of_run r (served r answer xs) ≡ []
  served_none [] = refl
  served_none (e ∷ xs) = go (served_none xs) (mine r e) refl
    where
      go : of_run r (served r answer xs) ≡ [] → (b : Bool) → mine r e ≡ b →
          cond (mine r (cond b (answered e (answer e)) e)) (cond b (answered e (answer e)) e ∷ of_run r (served r answer xs)) (of_run r (served r answer xs)) ≡ []
      go ih true m = ih
      go ih false m = ap (λ b. cond b (e ∷ of_run r (served r answer xs)) (of_run r (served r answer xs))) m ∙ ih

  served_others : (q : ℕ) (xs : List Entry) → (q ≡ r → ⊥) → of_run q (served r answer xs) ≡ of_run q xs
  served_others q [] n = refl
  served_others q (e ∷ xs) n = go (served_others q xs n) (mine r e) refl
    where
      other : mine r e ≡ true → (b : Bool) → mine q e ≡ b → b ≡ false
      other m true k = absurd (n (sym (mine_run q e k) ∙ mine_run r e m))
      other m false k = refl

      go : of_run q (served r answer xs) ≡ of_run q xs → (b : Bool) → mine r e ≡ b →
          cond (mine q (cond b (answered e (answer e)) e)) (cond b (answered e (answer e)) e ∷ of_run q (served r answer xs)) (of_run q (served r answer xs))
          ≡ cond (mine q e) (e ∷ of_run q xs) (of_run q xs)
      go ih true m = ih ∙ sym (ap (λ b. cond b (e ∷ of_run q xs) (of_run q xs)) (other m (mine q e) refl))
      go ih false m = ap (λ l. cond (mine q e) (e ∷ l) l) ih

  pub serve_sound : (es : List Entry) → Sound es → Free r es → Sound (served r answer es)
  serve_sound es s f =
      record {
        pairs = pairs_served es s.pairs f;
        unbroken = unbroken_served es s.unbroken;
        rows = λ q. rows q (eqb q r) refl;
      }
    where
      rows : (q : ℕ) (b : Bool) → eqb q r ≡ b → Rowed (of_run q (served r answer es))
      rows q true e = inl (ap (λ z. of_run z (served r answer es)) (eqb-true q r e) ∙ served_none es)
      rows q false e = subst Rowed (sym (served_others q es (λ k. both_ways (eqb q r) e (eq-eqb q r k)))) (s.rows q)

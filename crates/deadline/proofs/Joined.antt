-- The run that a new ticket joins, and what is kept of the waiting tickets when it is taken.
use Rattle.std.proofs.Common.{◌≡◌, ℕ, ◌+◌, ◌≤◌, Bool, true, false, cond, not, ◌&&◌, eqb, leb, ◌⊎◌, List, [], ◌∷◌, ◌++◌, sym, refl, ◌∙◌, subst, inl, inr, append_assoc, arith}
pub use Rattle.std.specs.List.{AllByRecursion as Each}
use Rattle.std.proofs.lemmas.Bool.{both_ways, eqb-true, eq-eqb, or_from, or_left, or_right, or_parts, and_parts, and_from, and_left, and_right, and_cases, not-true, not-false, not_from_true, not_from_false, cases_Bool}
use Rattle.device.specs.Meaning.{is_flush, longest_run}
use Rattle.deadline.specs.Settings.{Settings}
use Rattle.deadline.specs.Waiting.{Queued, Run, any, those, same, end, ends, is_in, is_head, has_tag, conflict, run_of, runs, runs_headed_in}
use Rattle.deadline.specs.Joining.{has_flush, past_flushes, has_room, joinable, name_of_first, run_for, in_run}
use Rattle.deadline.specs.Laws.{In}
use Rattle.deadline.proofs.KindFacts.{same_is, same_self}
use Rattle.deadline.proofs.Lists.{onto, any_onto_false, any_onto, any_fewer, any_joined, any_in, not_in}
use Rattle.deadline.proofs.Members.{in_back}
use Rattle.deadline.proofs.Sound.{newest, heads, unsplit, strange, Fine, SoundFrom, sound_front, sound_back, fresh_heads, newest_onto}

-- ── runs and their heads ──

-- what holds of each run of a list, and with the test of each that is taken
pub each_those : (P Q : Run → Type 0) (p : Run → Bool) → ((r : Run) → P r → p r ≡ true → Q r) → (rs : List Run) → Each P rs → Each Q (those p rs)
each_those P Q p f [] e = tt
each_those P Q p f (r ∷ rs) e = go (p r) refl (each_those P Q p f rs e.1)
  where
    go : (b : Bool) → p r ≡ b → Each Q (those p rs) → Each Q (cond b (r ∷ those p rs) (those p rs))
    go true t ih = (f r e.0 t, ih)
    go false t ih = ih

each_append : (P : Run → Type 0) (rs qs : List Run) → Each P rs → Each P qs → Each P (rs ++ qs)
each_append P [] qs e f = f
each_append P (r ∷ rs) qs e f = (e.0, each_append P rs qs e.1 f)

-- the run of a head that waits
pub record OfHead (ws : List Queued) (q : Run) : Type 0 where
  pub older : List Queued
  pub head : Queued
  pub younger : List Queued
  pub stands : ws ≡ older ++ (head ∷ younger)
  pub heads : is_head head ≡ true
  pub run_is : q ≡ run_of ws head

each_headed : (ws pre xs : List Queued) → ws ≡ pre ++ xs → Each (OfHead ws) (runs_headed_in ws xs)
each_headed ws pre [] e = tt
each_headed ws pre (x ∷ xs) e = go (is_head x) refl (each_headed ws (pre ++ (x ∷ [])) xs (e ∙ sym (append_assoc pre (x ∷ []) xs)))
  where
    go : (b : Bool) → is_head x ≡ b → Each (OfHead ws) (runs_headed_in ws xs) → Each (OfHead ws) (cond b (run_of ws x ∷ runs_headed_in ws xs) (runs_headed_in ws xs))
    go true h rest = (record { older = pre; head = x; younger = xs; stands = e; heads = h; run_is = refl }, rest)
    go false h rest = rest

pub each_run : (ws : List Queued) → Each (OfHead ws) (runs ws)
unfolding runs
each_run ws = each_headed ws [] ws refl

-- the head is found in the list
pub head_waits : (ws : List Queued) (q : Run) → OfHead ws q → any (heads q.name) ws ≡ true
unfolding run_of
head_waits ws q o =
    let own = (and_parts (eqb o.head.tag o.head.head) (not (is_flush o.head.kind)) o.heads).0 in
    rw o.run_is (subst (λ vs. any (heads o.head.head) vs ≡ true) (sym o.stands)
    (any_in (heads o.head.head) o.head (o.older ++ (o.head ∷ o.younger)) (in_back o.head o.older (o.head ∷ o.younger) (inl refl))
    (and_from (eqb o.head.tag o.head.head) (eqb o.head.head o.head.head) own (eq-eqb o.head.head o.head.head refl))))

-- ── the tickets of a run are of its head's kind ──

module _ (h : Queued) (solid : is_flush h.kind ≡ false) where
  -- a younger ticket of the run is of the kind
  kin_one : (o : List Queued) (z : Queued) → In h o → Fine o z → strange h.head h.kind z ≡ false
  kin_one o z i f = go (is_in h.head z) refl
    where
      go : (b : Bool) → is_in h.head z ≡ b → (b && not (same z.kind h.kind && not (is_flush h.kind))) ≡ false
      go false e = refl
      go true e =
          let own : is_in z.head h ≡ true = eq-eqb h.head z.head (sym (eqb-true z.head h.head e)) in
          let n = not_in (strange z.head z.kind) h o i f.alike in
          let m : not (same h.kind z.kind && not (is_flush z.kind)) ≡ false = rw own at n in
          let s = and_parts (same h.kind z.kind) (not (is_flush z.kind)) (not-false (same h.kind z.kind && not (is_flush z.kind)) m) in
          let k : h.kind ≡ z.kind = same_is h.kind z.kind s.0 in
          not_from_true (same z.kind h.kind && not (is_flush h.kind))
          (and_from (same z.kind h.kind) (not (is_flush h.kind)) (subst (λ j. same j h.kind ≡ true) k (same_self h.kind)) (not_from_false (is_flush h.kind) solid))

  kin_after : (o xs : List Queued) → In h o → SoundFrom o xs → any (strange h.head h.kind) xs ≡ false
  kin_after o [] i s = refl
  kin_after o (z ∷ zs) i s =
      or_from (strange h.head h.kind z) (any (strange h.head h.kind) zs) (kin_one o z i s.0) (kin_after (z ∷ o) zs (inr i) s.1)

-- so no waiting ticket is strange to a run whose head waits
pub kin : (ws : List Queued) (q : Run) → SoundFrom [] ws → OfHead ws q → any (strange q.name q.kind) ws ≡ false
unfolding run_of
kin ws q s o = subst (λ vs. any (strange q.name q.kind) vs ≡ false) (sym o.stands) (rw o.run_is whole)
  where
    h : Queued
    h = o.head

    parts : (eqb h.tag h.head ≡ true) × (not (is_flush h.kind) ≡ true)
    parts = and_parts (eqb h.tag h.head) (not (is_flush h.kind)) o.heads

    own : h.tag ≡ h.head
    own = eqb-true h.tag h.head parts.0

    solid : is_flush h.kind ≡ false
    solid = not-true (is_flush h.kind) parts.1

    sound : SoundFrom [] (o.older ++ (h ∷ o.younger))
    sound = rw o.stands at s

    rest : SoundFrom (onto o.older []) (h ∷ o.younger)
    rest = sound_back [] o.older (h ∷ o.younger) sound

    none_before : any (is_in h.head) o.older ≡ false
    none_before =
        subst (λ n. any (is_in n) o.older ≡ false) own
        (fresh_heads h.tag [] o.older (sound_front [] o.older (h ∷ o.younger) sound) refl (unused o.older rest.0.fresh))
      where
        unused : (pre : List Queued) → has_tag h.tag (onto pre []) ≡ false → has_tag h.tag pre ≡ false
        unused pre k = elim (cases_Bool (has_tag h.tag pre)) [
          | inl e ↦ absurd (both_ways (has_tag h.tag (onto pre [])) k (any_onto (λ y. eqb y.tag h.tag) pre [] e))
          | inr e ↦ e
        ]

    self : strange h.head h.kind h ≡ false
    self =
        and_right (is_in h.head h) (not (same h.kind h.kind && not (is_flush h.kind)))
        (not_from_true (same h.kind h.kind && not (is_flush h.kind)) (and_from (same h.kind h.kind) (not (is_flush h.kind)) (same_self h.kind) parts.1))

    whole : any (strange h.head h.kind) (o.older ++ (h ∷ o.younger)) ≡ false
    whole =
        any_joined (strange h.head h.kind) o.older (h ∷ o.younger)
        (any_fewer (strange h.head h.kind) (is_in h.head) (λ z e. (and_parts (is_in h.head z) (not (same z.kind h.kind && not (is_flush h.kind))) e).0) o.older none_before)
        (or_from (strange h.head h.kind h) (any (strange h.head h.kind) o.younger) self (kin_after h solid (h ∷ onto o.older []) o.younger (inl refl) rest.1))

-- ── the run that a new ticket joins ──

-- a run with room for x, at one of whose ends x lies
abbrev pub FitsIn : List Queued → Queued → Run → Type 0
FitsIn ws x q = OfHead ws q × (has_room ws x q ≡ true) × ((ends q ≡ x.first) ⊎ (end x ≡ q.begins))

each_joinable : (st : Settings) (ws : List Queued) (x : Queued) → Each (FitsIn ws x) (joinable st ws x)
unfolding joinable runs
each_joinable st ws x =
    each_append (FitsIn ws x) _ _
    (each_those (OfHead ws) (FitsIn ws x) (λ q. has_room ws x q && eqb (ends q) x.first)
    (λ q o t. let p = and_parts (has_room ws x q) (eqb (ends q) x.first) t in (o, p.0, inl (eqb-true (ends q) x.first p.1))) (runs ws) (each_run ws))
    (each_those (OfHead ws) (FitsIn ws x) (λ q. has_room ws x q && (st.front_merges && eqb (end x) q.begins))
    (λ q o t.
    let p = and_parts (has_room ws x q) (st.front_merges && eqb (end x) q.begins) t in
    (o, p.0, inr (eqb-true (end x) q.begins (and_parts st.front_merges (eqb (end x) q.begins) p.1).1))) (runs ws) (each_run ws))

-- a run of its own, or one that it fits in
abbrev pub Joins : List Queued → Queued → ℕ → Type 0
Joins ws x r = (r ≡ x.tag) ⊎ ((any (conflict x) ws ≡ false) × ((q : Run) × (r ≡ q.name) × FitsIn ws x q))

pub joins : (st : Settings) (ws : List Queued) (x : Queued) → Joins ws x (run_for st ws x)
unfolding run_for
joins st ws x = go (any (conflict x) ws) refl (joinable st ws x) (each_joinable st ws x)
  where
    go : (b : Bool) → any (conflict x) ws ≡ b → (rs : List Run) → Each (FitsIn ws x) rs → Joins ws x (cond b x.tag (name_of_first rs x.tag))
    go true e rs all = inl refl
    go false e [] all = inl refl
    go false e (r ∷ rs) all = inr (e, (r, refl, all.0))

-- ── no flush stands between two tickets of a run ──

unsplit_none : (r : ℕ) (o : List Queued) → any (is_in r) o ≡ false → unsplit r o ≡ true
unsplit_none r [] h = refl
unsplit_none r (y ∷ o) h =
    let rest = (or_parts (is_in r y) (any (is_in r) o) h).1 in
    and_from (not (is_flush y.kind && any (is_in r) o)) (unsplit r o) (not_from_false (is_flush y.kind && any (is_in r) o) (and_right (is_flush y.kind) (any (is_in r) o) rest)) (unsplit_none r o rest)

unsplit_onto : (r : ℕ) (ws o : List Queued) → past_flushes r ws ≡ true → unsplit r o ≡ true → (has_flush ws ≡ true → any (is_in r) o ≡ false) → unsplit r (onto ws o) ≡ true
unsplit_onto r [] o p u f = u
unsplit_onto r (x ∷ xs) o p u f = unsplit_onto r xs (x ∷ o) parts.1 (and_from (not (is_flush x.kind && any (is_in r) o)) (unsplit r o) (not_from_false (is_flush x.kind && any (is_in r) o) here) u) later
  where
    parts : (not (is_in r x && has_flush xs) ≡ true) × (past_flushes r xs ≡ true)
    parts = and_parts (not (is_in r x && has_flush xs)) (past_flushes r xs) p

    here : (is_flush x.kind && any (is_in r) o) ≡ false
    here = elim (cases_Bool (is_flush x.kind)) [
      | inl e ↦ and_right (is_flush x.kind) (any (is_in r) o) (f (or_left (is_flush x.kind) (has_flush xs) e))
      | inr e ↦ and_left (is_flush x.kind) (any (is_in r) o) e
    ]

    outside : has_flush xs ≡ true → (is_in r x ≡ false) ⊎ (has_flush xs ≡ false) → is_in r x ≡ false
    outside h (inl e) = e
    outside h (inr e) = absurd (both_ways (has_flush xs) e h)

    later : has_flush xs ≡ true → any (is_in r) (x ∷ o) ≡ false
    later h =
        or_from (is_in r x) (any (is_in r) o) (outside h (and_cases (is_in r x) (has_flush xs) (not-true (is_in r x && has_flush xs) parts.0)))
        (f (or_right (is_flush x.kind) (has_flush xs) h))

-- ── a new ticket is fine ──

pub fine_new : (st : Settings) (ws : List Queued) (x : Queued) → SoundFrom [] ws → has_tag x.tag ws ≡ false → newest ws ≤ x.tick →
    Fine (onto ws []) (in_run x (run_for st ws x))
unfolding conflict
fine_new st ws x s a l = fine (run_for st ws x) (joins st ws x)
  where
    unused : any (is_in x.tag) ws ≡ false
    unused = fresh_heads x.tag [] ws s refl a

    fine : (r : ℕ) → Joins ws x r → Fine (onto ws []) (in_run x r)
    fine r (inl e) =
        let none : any (is_in r) (onto ws []) ≡ false = any_onto_false (is_in r) ws [] (rw e unused) refl in
        record {
          fresh = any_onto_false (λ y. eqb y.tag x.tag) ws [] a refl;
          headed = inl (sym e);
          apart = λ k. absurd (both_ways (any (is_in r) (onto ws [])) none k);
          later = newest_onto ws [] x.tick l (omega arith);
          unsplit = unsplit_none r (onto ws []) none;
          alike = any_fewer (strange r x.kind) (is_in r) (λ z t. (and_parts (is_in r z) (not (same z.kind x.kind && not (is_flush x.kind))) t).0) (onto ws []) none;
        }
    fine r (inr j) = joined j.1.0 j.1.1 j.1.2
      where
        joined : (q : Run) → r ≡ q.name → FitsIn ws x q → Fine (onto ws []) (in_run x r)
        joined q e fits =
            let room = and_parts (same q.kind x.kind) (leb (q.count + x.count) longest_run && past_flushes q.name ws) fits.1 in
            let past : past_flushes r ws ≡ true = rw e (and_parts (leb (q.count + x.count) longest_run) (past_flushes q.name ws) room.1).1 in
            let kind_is : q.kind ≡ x.kind = same_is q.kind x.kind room.0 in
            record {
              fresh = any_onto_false (λ y. eqb y.tag x.tag) ws [] a refl;
              headed = inr (any_onto (heads r) ws [] (rw e (head_waits ws q fits.0)));
              apart = λ k. any_onto_false (conflict x) ws [] j.0 refl;
              later = newest_onto ws [] x.tick l (omega arith);
              unsplit = unsplit_onto r ws [] past refl (λ t. refl);
              alike = any_onto_false (strange r x.kind) ws [] (rw (e, ← kind_is) (kin ws q s fits.0)) refl;
            }

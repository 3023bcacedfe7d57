-- Collecting a ready ticket keeps the queue's invariant, the disk, and what the others are due.
use Rattle.std.proofs.Common.{◌≡◌, ℕ, ◌-◌, Bool, true, false, cond, not, ◌&&◌, eqb, List, [], ◌∷◌, sym, refl, ap, subst}
use Rattle.std.proofs.lemmas.Bool.{eqb-true}
use Rattle.device.specs.Meaning.{Contents, is_write, part}
use Rattle.device.specs.Collect.{without}
use Rattle.queue.specs.Queue.{Entry, hits, put, overlay, ticket, tickets_of, mine, of_run, All, Pairs}
use Rattle.queue.specs.Sound.{Fits, Leaves, UnbrokenFrom, Unbroken, Rowed, Sound, gone, ReadyAt}

all_gone : (P : Entry → Type 0) (t : ℕ) (es : List Entry) → All P es → All P (gone t es)
all_gone P t [] h = tt
all_gone P t (e ∷ es) h = go (eqb t e.tag) (all_gone P t es h.1)
  where
    go : (b : Bool) → All P (gone t es) → All P (cond b es (e ∷ gone t es))
    go true ih = h.1
    go false ih = (h.0, ih)

pairs_gone : (P : Entry → Entry → Type 0) (t : ℕ) (es : List Entry) → Pairs P es → Pairs P (gone t es)
pairs_gone P t [] h = tt
pairs_gone P t (e ∷ es) h = go (eqb t e.tag) (pairs_gone P t es h.1)
  where
    go : (b : Bool) → Pairs P (gone t es) → Pairs P (cond b es (e ∷ gone t es))
    go true ih = h.1
    go false ih = (all_gone (P e) t es h.0, ih)

unbroken_from_gone : (e : Entry) (t : ℕ) (es : List Entry) → UnbrokenFrom e es → UnbrokenFrom e (gone t es)
unbroken_from_gone e t [] h = tt
unbroken_from_gone e t (x ∷ es) h = go (eqb t x.tag) (unbroken_from_gone e t es h.1)
  where
    go : (b : Bool) → UnbrokenFrom e (gone t es) → UnbrokenFrom e (cond b es (x ∷ gone t es))
    go true ih = h.1
    go false ih = (λ we wx fl. all_gone (Leaves e) t es (h.0 we wx fl), ih)

unbroken_gone : (t : ℕ) (es : List Entry) → Unbroken es → Unbroken (gone t es)
unbroken_gone t [] h = tt
unbroken_gone t (e ∷ es) h = go (eqb t e.tag) (unbroken_gone t es h.1)
  where
    go : (b : Bool) → Unbroken (gone t es) → Unbroken (cond b es (e ∷ gone t es))
    go true ih = h.1
    go false ih = (unbroken_from_gone e t es h.0, ih)

of_run_gone : (q t : ℕ) (es : List Entry) → ReadyAt t es → of_run q (gone t es) ≡ of_run q es
of_run_gone q t [] h = refl
of_run_gone q t (e ∷ es) h = go (eqb t e.tag) refl (of_run_gone q t es h.1)
  where
    go : (b : Bool) → eqb t e.tag ≡ b → of_run q (gone t es) ≡ of_run q es → of_run q (cond b es (e ∷ gone t es)) ≡ of_run q (e ∷ es)
    go true k ih = ap (λ b. cond (not b && eqb e.run q) (e ∷ of_run q es) (of_run q es)) (sym (h.0 (eqb-true t e.tag k)))
    go false k ih = ap (λ l. cond (mine q e) (e ∷ l) l) ih

pub collect_sound : (t : ℕ) (es : List Entry) → Sound es → ReadyAt t es → Sound (gone t es)
collect_sound t es s h =
    record { pairs = pairs_gone Fits t es s.pairs; unbroken = unbroken_gone t es s.unbroken; rows = λ q. subst Rowed (sym (of_run_gone q t es h)) (s.rows q) }

put_ready : (bad : ℕ → Bool) (e : Entry) (d : Contents) → e.ready ≡ true → put bad e d ≡ d
put_ready bad e d h = ap (λ b. λ (s : ℕ). cond ((not b && is_write e.kind) && (hits e s && not (bad s))) (part e.bytes (s - e.first)) (d s)) h

pub collect_disk : (bad : ℕ → Bool) (t : ℕ) (es : List Entry) (d : Contents) → ReadyAt t es → overlay bad (gone t es) d ≡ overlay bad es d
collect_disk bad t [] d h = refl
collect_disk bad t (e ∷ es) d h = go (eqb t e.tag) refl (collect_disk bad t es (put bad e d) h.1)
  where
    go : (b : Bool) → eqb t e.tag ≡ b → overlay bad (gone t es) (put bad e d) ≡ overlay bad es (put bad e d) →
        overlay bad (cond b es (e ∷ gone t es)) d ≡ overlay bad es (put bad e d)
    go true k ih = ap (overlay bad es) (sym (put_ready bad e d (h.0 (eqb-true t e.tag k))))
    go false k ih = ih

pub collect_tickets : (bad : ℕ → Bool) (t : ℕ) (es : List Entry) (d : Contents) → ReadyAt t es → tickets_of bad (gone t es) d ≡ without t (tickets_of bad es d)
collect_tickets bad t [] d h = refl
collect_tickets bad t (e ∷ es) d h = go (eqb t e.tag) refl (collect_tickets bad t es (put bad e d) h.1)
  where
    go : (b : Bool) → eqb t e.tag ≡ b → tickets_of bad (gone t es) (put bad e d) ≡ without t (tickets_of bad es (put bad e d)) →
        tickets_of bad (cond b es (e ∷ gone t es)) d ≡ cond b (tickets_of bad es (put bad e d)) (ticket bad e d ∷ without t (tickets_of bad es (put bad e d)))
    go true k ih = ap (tickets_of bad es) (sym (put_ready bad e d (h.0 (eqb-true t e.tag k))))
    go false k ih = ap (λ ts. ticket bad e d ∷ ts) ih

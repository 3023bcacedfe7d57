-- A turn of a mirror, by its two sides run dry.
use Rattle.std.proofs.Common.{◌≡◌, ℕ, ◌+◌, min, max, Bool, true, false, cond, List, [], ◌∷◌, sym, refl, ap, ◌∙◌, subst, ap₂, ⊎_elim, arith}
use Rattle.std.proofs.lemmas.Bool.{cases_Bool}
use Rattle.device.specs.Meaning.{Meaning, Ticket, Contents, is_flush}
use Rattle.device.specs.Turns.{Turned, Readied, Flushed, waiting, made_ready, flush_order, open_write_at, waiting_write_at}
use Rattle.dry.proofs.DryFacts.{Dried, all_ready_now, made_same}
use Rattle.mirror.specs.Means.{both, either, paired, all_paired, mirrored, Level}
use Rattle.mirror.specs.SoundFacts.{Pairs, pairs, agree, pairs_paired}

-- Tickets that are all ready

now_readied : (ts : List Ticket) → Readied ts (all_ready_now ts)
now_readied [] = Readied.none
now_readied (t ∷ ts) =
    ⊎_elim
    (λ r. subst (λ u. Readied (t ∷ ts) (u ∷ all_ready_now ts)) (made_same t r) (Readied.stays (now_readied ts)))
    (λ r. Readied.turns r (now_readied ts))
    (cases_Bool t.ready)

now_order : (ts : List Ticket) → flush_order (all_ready_now ts) ≡ true
now_order [] = refl
now_order (t ∷ ts) = now_order ts

now_waiting : (ts : List Ticket) → waiting (all_ready_now ts) ≡ 0
now_waiting [] = refl
now_waiting (t ∷ ts) = let r = now_waiting ts in omega arith

now_alike : {xs ys : List Ticket} → Pairs xs ys → Pairs (all_ready_now xs) (all_ready_now ys)
now_alike Pairs.none = Pairs.none
now_alike (Pairs.more l h) = Pairs.more (record { tag = l.tag; kind = l.kind; first = l.first; count = l.count; ready = refl }) (now_alike h)

now_paired : (p q : ℕ → Bool) {xs ys : List Ticket} → Pairs xs ys → all_paired p q (all_ready_now xs) (all_ready_now ys) ≡ all_ready_now (all_paired p q xs ys)
now_paired p q Pairs.none = refl
now_paired p q (Pairs.more {x} {y} l h) = ap (λ r. made_ready (paired p q x y) ∷ r) (now_paired p q h)

-- What lists of the same requests have in common

waiting_alike : {xs ys : List Ticket} → Pairs xs ys → waiting ys ≡ waiting xs
waiting_alike Pairs.none = refl
waiting_alike (Pairs.more l h) = cc (waiting_alike h)

waiting_write_alike : (s : ℕ) {xs ys : List Ticket} → Pairs xs ys → waiting_write_at s ys ≡ waiting_write_at s xs
waiting_write_alike s Pairs.none = refl
waiting_write_alike s (Pairs.more l h) = cc (waiting_write_alike s h)

open_write_alike : (s : ℕ) {xs ys : List Ticket} → Pairs xs ys → open_write_at s ys ≡ open_write_at s xs
open_write_alike s Pairs.none = refl
open_write_alike s (Pairs.more l h) = cc (open_write_alike s h)

-- a flush that is ready on both sides has settled both
module _ (p q : ℕ → Bool) (disk medium disk₂ medium₂ : Contents) (bad : ℕ → Bool) where
  flushed_paired : {xs ys : List Ticket} → Pairs xs ys → Flushed disk medium xs (all_ready_now xs) → Flushed disk₂ medium₂ ys (all_ready_now ys)
      → Flushed (either bad disk disk₂) (either bad medium medium₂) (all_paired p q xs ys) (all_ready_now (all_paired p q xs ys))
  flushed_paired Pairs.none f g = tt
  flushed_paired (Pairs.more l h) f g = (
    (λ k w r s o.
        let left = sym (open_write_alike s (now_alike (pairs_paired p q h))) ∙ o in
        let right = open_write_alike s (now_alike h) ∙ left in
        ap₂ (λ u v. cond (bad s) u v) (g.0 (ap is_flush l.kind ∙ k) (l.ready ∙ w) refl s right) (f.0 k w refl s left)),
    flushed_paired h f.1 g.1,
  )

settles : (c c' : Bool) {xm xd ym yd xm' xd' ym' yd' : List ℕ} → c' ≡ c → cond c ym xm ≡ cond c yd xd → (xm ≡ xd → xm' ≡ xd') → (ym ≡ yd → ym' ≡ yd')
    → cond c' ym' xm' ≡ cond c' yd' xd'
settles true c' e h a b = rw e (b h)
settles false c' e h a b = rw e (a h)

pub record BothTurn (a b a' b' : Meaning) (ticks : ℕ) : Type 0 where
  pub level : Level a' b'
  pub turned : Turned (mirrored a b) (mirrored a' b') ticks

pub turns_both : (a b : Meaning) {a' b' : Meaning} {r t : ℕ} → Level a b → Dried a a' r → Dried b b' t → BothTurn a b a' b' (max r t)
turns_both a b {a'} {b'} l f g =
    let h = pairs a.tickets b.tickets l in
    let m = pairs_paired a.bad b.bad h in
    let before = all_paired a.bad b.bad a.tickets b.tickets in
    let after : all_paired a'.bad b'.bad a'.tickets b'.tickets ≡ all_ready_now before
    = rw (f.shape.bad, g.shape.bad, f.tickets, g.tickets) (now_paired a.bad b.bad h) in
    record {
      level = rw (f.tickets, g.tickets) (agree (now_alike h));
      turned = record {
        shape = record {
          size = ap₂ min f.shape.size g.shape.size;
          capacity = ap₂ min f.shape.capacity g.shape.capacity;
          height = ap₂ (λ x y. min (max x y + 1) 255) f.shape.height g.shape.height;
          bad = ap₂ both f.shape.bad g.shape.bad;
          home = ap₂ (λ x y. λ s. record { height = min (max x y + 1) 255; sector = s }) f.shape.height g.shape.height;
        };
        disk = rw (f.shape.bad, f.disk, g.disk);
        idle = λ w.
            let u = sym (waiting_alike m) ∙ w in
            let i = f.idle u in
            let j = g.idle (waiting_alike h ∙ u) in
            (ap₂ mirrored i.0 j.0, (let x = i.1 in let y = j.1 in omega arith));
        progress = λ w. let z = ap waiting after ∙ now_waiting before in omega arith;
        readied = rw after (now_readied before);
        flush_order = rw after (now_order before);
        settled = λ s d w.
            let left = sym (waiting_write_alike s m) ∙ w in
            let right = waiting_write_alike s h ∙ left in
            settles (a.bad s) (a'.bad s) (ap (λ p. p s) f.shape.bad) d (λ x. f.settled s x left) (λ y. g.settled s y right);
        flushed = rw after
            (flushed_paired a.bad b.bad a'.disk a'.medium b'.disk b'.medium a'.bad h (rw (← f.tickets) f.flushed) (rw (← g.tickets) g.flushed));
        bounded = (let x = f.bounded in let y = g.bounded in omega arith);
      };
    }

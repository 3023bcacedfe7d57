-- A collect of a mirror, by that of both sides.
use Rattle.std.proofs.Common.{◌≡◌, ℕ, ◌+◌, ◌*◌, ◌/◌, ◌≤◌, Bool, true, false, cond, eqb, ltb, List, ◌∷◌, ◌++◌, length, drop, replicate, Some, Ok, Err, Option, Result, bit_and, sym, refl, ap, ◌∙◌, ap₂, arith}
use Rattle.std.specs.Result.{MatchResult, IsErrAnd}
use Rattle.std.proofs.lemmas.List.{drop_at, length-replicate}
use Rattle.std.proofs.lemmas.Bool.{ltb-false, le-ltb}
use Rattle.device.specs.declared.interface.Kind.{Kind}
use Rattle.device.specs.declared.interface.Kind.TheVariants.{Read, Write, Flush}
use Rattle.device.specs.declared.interface.Cause.{Cause}
use Rattle.device.specs.declared.interface.Cause.TheVariants as causes
use Rattle.device.specs.declared.interface.Refusal.{Refusal}
use Rattle.device.specs.Meaning.{Meaning, Ticket, is_read, mask_of, with_disk}
use Rattle.device.specs.Submit.{fair_count}
use Rattle.device.specs.Collect.{without, due_as, due, collect_answer, collected, buffer_after}
use Rattle.device.specs.Sound.{Sound, WellFormed}
use Rattle.gate.specs.Means.{gated}
use Rattle.gate.specs.SoundFacts.{gated_sound}
use Rattle.mirror.specs.Means.{picked, bit, mixed, either, paired, all_paired, mirrored, Alike, Level, room_due, answered}
use Rattle.mirror.specs.SoundFacts.{Pairs, pairs, agree}
use Rattle.mirror.proofs.Masks.{mask_both, mask_bit}
use Rattle.mirror.proofs.Rows.{picked_same, picked_front}
use Rattle.mirror.proofs.Admission.{ok_before}
use Rattle.mirror.proofs.Tickets.{Looked, look, length_pair, length_other, well_short}

-- a ticket that is due is ready, and its bytes fit
due_ok : (t : Ticket) (space n : ℕ) → room_due (due_as (Some t) space) ≡ Ok n → (t.ready ≡ true) × (length t.bytes ≤ space) × (length t.bytes ≡ n)
due_ok t space n e = by_tests t.ready (ltb space (length t.bytes)) refl e
  where
    by_tests : (r s : Bool) → ltb space (length t.bytes) ≡ s → room_due (cond r (cond s (Err causes.ShortBuffer) (Ok t)) (Err causes.Waits)) ≡ Ok n
        → (r ≡ true) × (length t.bytes ≤ space) × (length t.bytes ≡ n)
    by_tests true true s h = absurd cc
    by_tests true false s h = (refl, ltb-false space (length t.bytes) s, cc)
    by_tests false f s h = absurd cc

due_from : (t : Ticket) (space : ℕ) → t.ready ≡ true → length t.bytes ≤ space → due_as (Some t) space ≡ Ok t
due_from t space r le = rw (r, le-ltb space (length t.bytes) le)

-- what a ticket that is due on the mirror is on both sides
record Handed (sa sb : ℕ) (p q : ℕ → Bool) (o₁ o₂ o₃ : Option Ticket) (space n : ℕ) : Type 0 where
  x : Ticket
  y : Ticket
  alike : Alike x y
  well_x : WellFormed sa p x
  well_y : WellFormed sb q y
  left : due_as o₁ space ≡ Ok x
  right : due_as o₂ 1024 ≡ Ok y
  mirror : due_as o₃ space ≡ Ok (paired p q x y)
  size_x : length x.bytes ≡ n
  size_y : length y.bytes ≡ n
  size_z : length (paired p q x y).bytes ≡ n

module _ (sa sb : ℕ) (p q : ℕ → Bool) where
  handed : {o₁ o₂ o₃ : Option Ticket} (space n : ℕ) → Looked sa sb p q o₁ o₂ o₃ → room_due (due_as o₃ space) ≡ Ok n → Handed sa sb p q o₁ o₂ o₃ space n
  handed space n Looked.nothing e = absurd cc
  handed space n (Looked.there {x} {y} l v w) e =
      let r = due_ok (paired p q x y) space n e in
      let z = length_pair sa sb p q l v w in
      let o = length_other sa sb p q l v w in
      record {
        x = x;
        y = y;
        alike = l;
        well_x = v;
        well_y = w;
        left = due_from x space r.0 (omega arith);
        right = due_from y 1024 (l.ready ∙ r.0) (well_short y w);
        mirror = due_from (paired p q x y) space r.0 r.1;
        size_x = sym z ∙ r.2;
        size_y = o ∙ (sym z ∙ r.2);
        size_z = r.2;
      }

-- The bytes that a collect puts together

mixed_bytes : (k : Kind) (first count n : ℕ) (bad : ℕ → Bool) (xs ys rest rest' : List ℕ) → (is_read k ≡ true → length xs ≡ count * 128) → (is_read k ≡ false → length xs ≡ 0)
    → fair_count k first count ≡ true → length xs ≡ n → length ys ≡ n
    → picked (bit (mask_of bad first count)) (n / 128) (xs ++ rest) (ys ++ rest') ++ drop (n / 128 * 128) (xs ++ rest) ≡ mixed k (λ i. bad (first + i)) count xs ys ++ rest
mixed_bytes Read first count n bad xs ys rest rest' r o f a b =
    let len = r refl in
    let w : n / 128 ≡ count = omega arith in
    rw w (ap₂ (λ u z. u ++ z)
    (picked_same (bit (mask_of bad first count)) (λ i. bad (first + i)) count (xs ++ rest) (ys ++ rest') (mask_bit bad first count)
    ∙ picked_front (λ i. bad (first + i)) count xs ys rest rest' (omega arith) (omega arith))
    (drop_at xs rest (count * 128) len))
mixed_bytes Write first count n bad xs ys rest rest' r o f a b =
    let len = o refl in let w : n / 128 ≡ 0 = omega arith in rw w (drop_at xs rest 0 len)
mixed_bytes Flush first count n bad xs ys rest rest' r o f a b =
    let len = o refl in let w : n / 128 ≡ 0 = omega arith in rw w (drop_at xs rest 0 len)

paired_bytes : {sa : ℕ} (p q : ℕ → Bool) (x y : Ticket) (n : ℕ) (buffer rest : List ℕ) → WellFormed sa p x → length x.bytes ≡ n → length y.bytes ≡ n → length (paired p q x y).bytes ≡ n
    → picked (bit (mask_of p x.first x.count)) (n / 128) (x.bytes ++ drop (length x.bytes) buffer) (y.bytes ++ rest) ++ drop (n / 128 * 128) (x.bytes ++ drop (length x.bytes) buffer)
    ≡ (paired p q x y).bytes ++ drop (length (paired p q x y).bytes) buffer
paired_bytes p q x y n buffer rest v a b c =
    mixed_bytes x.kind x.first x.count n p x.bytes y.bytes (drop (length x.bytes) buffer) rest v.read v.other v.count a b
    ∙ ap (λ z. (paired p q x y).bytes ++ drop z buffer) (a ∙ sym c)

-- The tickets that are left

without_paired : (p q : ℕ → Bool) (t : ℕ) {xs ys : List Ticket} → Pairs xs ys
    → Pairs (without t xs) (without t ys) × (all_paired p q (without t xs) (without t ys) ≡ without t (all_paired p q xs ys))
without_paired p q t Pairs.none = (Pairs.none, refl)
without_paired p q t (Pairs.more {x} {y} {xs} {ys} l h) =
    let e : eqb t y.tag ≡ eqb t x.tag = ap (eqb t) l.tag in
    let r = without_paired p q t h in
    rw e (by_tag (eqb t x.tag) r.0 r.1)
  where
    by_tag : (b : Bool) {us vs zs : List Ticket} → Pairs us vs → all_paired p q us vs ≡ zs
        → Pairs (cond b xs (x ∷ us)) (cond b ys (y ∷ vs)) × (all_paired p q (cond b xs (x ∷ us)) (cond b ys (y ∷ vs)) ≡ cond b (all_paired p q xs ys) (paired p q x y ∷ zs))
    by_tag true g i = (h, refl)
    by_tag false g i = (Pairs.more l g, ap (λ r. paired p q x y ∷ r) i)

pub record BothCollect (a b a' b' : Meaning) (tag : ℕ) (buffer left right : List ℕ) (r s : Result ℕ Refusal) (n : ℕ) : Type 0 where
  pub level : Level a' b'
  pub answer : Ok (bit_and (answered r) (answered s)) ≡ collect_answer (mirrored a b) tag (length buffer)
  pub leaves : mirrored a' b' ≡ collected (mirrored a b) tag (length buffer)
  pub hands : picked (bit (answered r)) (n / 128) left right ++ drop (n / 128 * 128) left ≡ buffer_after (mirrored a b) tag buffer

-- neither side refuses what the mirror has ready
collects_both : (a b : Meaning) {a' b' : Meaning} (tag : ℕ) (buffer other : List ℕ) {left right : List ℕ} {r s : Result ℕ Refusal} (n : ℕ) → length other ≡ 1024
    → Sound a → Sound b → Level a b → room_due (due (mirrored a b) tag (length buffer)) ≡ Ok n
    → r ≡ collect_answer a tag (length buffer) → left ≡ buffer_after a tag buffer → a' ≡ collected a tag (length buffer)
    → s ≡ collect_answer b tag (length other) → right ≡ buffer_after b tag other → b' ≡ collected b tag (length other)
    → BothCollect a b a' b' tag buffer left right r s n
collects_both a b tag buffer other n len v w l e ra ha la sb hb lb =
    let h = pairs a.tickets b.tickets l in
    let f = handed a.size b.size a.bad b.bad (length buffer) n (look a.size b.size a.bad b.bad tag h v.tickets w.tickets) e in
    let g = without_paired a.bad b.bad tag h in
    let mask = f.well_y.mask ∙ ap₂ (mask_of b.bad) f.alike.first f.alike.count in
    record {
      level = rw (la, lb, len, f.left, f.right) (agree g.0);
      answer = rw (ra, sb, len, f.left, f.right, f.mirror, f.well_x.mask, mask) (ap Ok (mask_both a.bad b.bad f.x.first f.x.count));
      leaves = rw (la, lb, len, f.left, f.right, f.mirror) (ap (with_disk (mirrored a b) (either a.bad a.disk b.disk)) g.1);
      hands = rw (ra, ha, hb, len, f.left, f.right, f.mirror, f.well_x.mask) (paired_bytes a.bad b.bad f.x f.y n buffer (drop (length f.y.bytes) other) f.well_x f.size_x f.size_y f.size_z);
    }

-- the same, from what the code has asked and collected
pub collects : (s t : Bool) {a b a' b' : Meaning} {tag : ℕ} (buffer : List ℕ) {left right : List ℕ} {x y : Result ℕ Refusal} {n : ℕ} {r : Result ℕ Cause} {r' : Result ℕ Refusal} (Q : Cause → Refusal → Type 0)
    → Sound a → Sound b → Level (gated s a) (gated t b)
    → r ≡ room_due (due (mirrored (gated s a) (gated t b)) tag (length buffer)) → MatchResult r (λ m. r' ≡ Ok m) (λ e. IsErrAnd r' (Q e)) → r' ≡ Ok n
    → x ≡ collect_answer (gated s a) tag (length buffer) → left ≡ buffer_after (gated s a) tag buffer → a' ≡ collected (gated s a) tag (length buffer)
    → y ≡ collect_answer (gated t b) tag (length {A = ℕ} (replicate 1024 0)) → right ≡ buffer_after (gated t b) tag (replicate 1024 0) → b' ≡ collected (gated t b) tag (length {A = ℕ} (replicate 1024 0))
    → BothCollect (gated s a) (gated t b) a' b' tag buffer left right x y n
collects s t {a} {b} {tag} buffer {n} {r} {r'} Q v w l i m o =
    collects_both (gated s a) (gated t b) tag buffer (replicate 1024 0) n (length-replicate {A = ℕ} 1024 0) (gated_sound s a v) (gated_sound t b w) l (sym i ∙ ok_before r r' Q n m o)

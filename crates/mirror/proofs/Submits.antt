-- A submit of a mirror, by that of both sides.
use Rattle.std.proofs.Common.{◌≡◌, ℕ, ◌+◌, ◌-◌, ◌≤◌, min, Bool, true, false, cond, not, ◌&&◌, List, [], ◌∷◌, ◌++◌, length, Ok, Result, sym, refl, ap, ◌∙◌, arith}
use mathlib.Core.Path.{fun_ext}
use Rattle.std.proofs.lemmas.Bool.{eqb-false, ne_eqb}
use Rattle.device.specs.declared.interface.Kind.{Kind}
use Rattle.device.specs.declared.interface.Kind.TheVariants.{Read, Write, Flush}
use Rattle.device.specs.declared.interface.Request.{Request}
use Rattle.device.specs.declared.interface.Cause.{Cause}
use Rattle.device.specs.declared.interface.Refusal.{Refusal}
use Rattle.std.specs.Result.{MatchResult, IsErrAnd}
use Rattle.device.specs.Meaning.{Meaning, Ticket, covers, mask_of, part}
use Rattle.device.specs.Submit.{form, admitted, due_bytes, ticket_of, disk_after, accepted, submitted}
use Rattle.device.specs.Sound.{Sound}
use Rattle.device.proofs.Forms.{form_ok, form_from, form_kind}
use Rattle.gate.specs.Means.{gated}
use Rattle.gate.specs.SoundFacts.{gated_sound}
use Rattle.mirror.specs.Means.{mixed, both, either, paired, all_paired, mirrored, Level}
use Rattle.mirror.specs.SoundFacts.{Pairs, pairs, agree, pairs_paired, length_alike, open_alike}
use Rattle.mirror.proofs.Rows.{picked_bytes}
use Rattle.mirror.proofs.Admission.{admitted_from, admitted_ok, ok_before}

form_wider : (size size' : ℕ) (q : Request) (given : ℕ) (k : Kind) → size ≤ size' → form size q given ≡ Ok k → form size' q given ≡ Ok k
form_wider size size' q given k le e =
    let f = form_ok size q given k e in let i = f.1 in form_from size' q given k (form_kind size q given k e) f.0 (omega arith) f.2

-- the mirror's disk after a write
disk_both : (k : Kind) (a b : Meaning) (q : Request) (d : List ℕ) (s : ℕ)
    → either a.bad (disk_after k a q d) (disk_after k b q d) s ≡ disk_after k (mirrored a b) q d s
disk_both Read a b q d s = refl
disk_both Write a b q d s = by_test (covers q.first q.count s) (a.bad s) (b.bad s) (part d (s - q.first)) (a.disk s) (b.disk s)
  where
    by_test : (c p q : Bool) (z x y : List ℕ) → cond p (cond (c && not q) z y) (cond (c && not p) z x) ≡ cond (c && not (p && q)) z (cond p y x)
    by_test c true q z x y = refl
    by_test c false q z x y = refl
disk_both Flush a b q d s = refl

bytes_both : (k : Kind) (a b : Meaning) (q : Request) → Sound a → Sound b → q.first + q.count ≤ min a.size b.size
    → mixed k (λ i. a.bad (q.first + i)) q.count (due_bytes k a.disk q.first q.count) (due_bytes k b.disk q.first q.count)
    ≡ due_bytes k (either a.bad a.disk b.disk) q.first q.count
bytes_both Read a b q v w le =
    picked_bytes a.bad a.disk b.disk q.first q.count q.count (λ s lt. v.disk s (omega arith)) (λ s lt. w.disk s (omega arith)) (omega arith)
bytes_both Write a b q v w le = refl
bytes_both Flush a b q v w le = refl

pairs_more : {xs ys : List Ticket} (k : Kind) (a b : Meaning) (q : Request) → Pairs xs ys → Pairs (xs ++ (ticket_of a q k ∷ [])) (ys ++ (ticket_of b q k ∷ []))
pairs_more k a b q Pairs.none = Pairs.more (record { tag = refl; kind = refl; first = refl; count = refl; ready = refl }) Pairs.none
pairs_more k a b q (Pairs.more l h) = Pairs.more l (pairs_more k a b q h)

paired_more : (p q : ℕ → Bool) {xs ys : List Ticket} (x y : Ticket) → Pairs xs ys → all_paired p q (xs ++ (x ∷ [])) (ys ++ (y ∷ [])) ≡ all_paired p q xs ys ++ (paired p q x y ∷ [])
paired_more p q x y Pairs.none = refl
paired_more p q x y (Pairs.more {x = u} {y = z} l h) = ap (λ r. paired p q u z ∷ r) (paired_more p q x y h)

accepted_both : (a b : Meaning) (q : Request) (k : Kind) (d : List ℕ) → Sound a → Sound b → Pairs a.tickets b.tickets → q.first + q.count ≤ min a.size b.size
    → mirrored (accepted a q k d) (accepted b q k d) ≡ accepted (mirrored a b) q k d
accepted_both a b q k d v w h le =
    let bytes = bytes_both k a b q v w le in
    let ticket : paired a.bad b.bad (ticket_of a q k) (ticket_of b q k) ≡ ticket_of (mirrored a b) q k
    = λ i. record { tag = q.tag; kind = k; first = q.first; count = q.count; mask = mask_of (both a.bad b.bad) q.first q.count; bytes = bytes i; ready = false } in
    let tickets = paired_more a.bad b.bad (ticket_of a q k) (ticket_of b q k) h ∙ ap (λ t. all_paired a.bad b.bad a.tickets b.tickets ++ (t ∷ [])) ticket in
    let disk = fun_ext (disk_both k a b q d) in
    λ i. record (mirrored a b) { disk = disk i; tickets = tickets i }

pub record BothSubmit (a b a' b' : Meaning) (q : Request) (d : List ℕ) : Type 0 where
  pub level : Level a' b'
  pub leaves : mirrored a' b' ≡ submitted (mirrored a b) q d

-- neither side refuses what the mirror admits
submits_both : (a b : Meaning) {a' b' : Meaning} (q : Request) (d : List ℕ) (k : Kind) → Sound a → Sound b → Level a b
    → admitted (mirrored a b) q (length d) ≡ Ok k → a' ≡ submitted a q d → b' ≡ submitted b q d → BothSubmit a b a' b' q d
submits_both a b q d k v w l e x y =
    let h = pairs a.tickets b.tickets l in
    let g = pairs_paired a.bad b.bad h in
    let j = admitted_ok (mirrored a b) q (length d) k e in
    let many = length_alike g in
    let other = length_alike h in
    let va = v.room in
    let vb = w.room in
    let ne = eqb-false _ _ j.2 in
    let on_left = admitted_from a q (length d) k false false (form_wider _ a.size q (length d) k (omega arith) j.0) (sym (open_alike q.tag g) ∙ j.1) (ne_eqb _ _ (λ z. ne (omega arith))) in
    let on_right = admitted_from b q (length d) k false false (form_wider _ b.size q (length d) k (omega arith) j.0) (open_alike q.tag h ∙ (sym (open_alike q.tag g) ∙ j.1)) (ne_eqb _ _ (λ z. ne (omega arith))) in
    record {
      level = rw (x, y, on_left, on_right) (agree (pairs_more k a b q h));
      leaves = rw (x, y, on_left, on_right, e) (accepted_both a b q k d v w h (form_ok _ q (length d) k j.0).1);
    }

-- a mirror that admits a request is open
admits_open : (s t : Bool) (a b : Meaning) (q : Request) (given : ℕ) (k : Kind) → admitted (mirrored (gated s a) (gated t b)) q given ≡ Ok k → s ≡ false
admits_open true t a b q given k e = absurd (eqb-false 0 (min 0 (gated t b).capacity) (admitted_ok (mirrored (gated true a) (gated t b)) q given k e).2 (omega arith))
admits_open false t a b q given k e = refl

-- the same, from what the code has asked and sent
pub submits : (s t : Bool) {a b a' b' : Meaning} (q : Request) (d : List ℕ) {k : Kind} {r : Result Kind Cause} {r' : Result Kind Refusal} (Q : Cause → Refusal → Type 0)
    → Sound a → Sound b → Level (gated s a) (gated t b)
    → r ≡ admitted (mirrored (gated s a) (gated t b)) q (length d) → MatchResult r (λ y. r' ≡ Ok y) (λ e. IsErrAnd r' (Q e)) → r' ≡ Ok k
    → a' ≡ submitted (gated s a) q d → b' ≡ submitted (gated t b) q d → BothSubmit (gated s a) (gated t b) a' b' q d × (s ≡ false)
submits s t {a} {b} q d {k} {r} {r'} Q v w l i m o x y =
    let e = sym i ∙ ok_before r r' Q k m o in
    (submits_both (gated s a) (gated t b) q d k (gated_sound s a v) (gated_sound t b w) l e x y, admits_open s t a b q (length d) k e)

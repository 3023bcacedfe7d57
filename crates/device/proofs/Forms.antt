-- What an accepted form says of a request. Assumes nothing.
use Rattle.std.proofs.Common.{◌≡◌, ℕ, ◌+◌, ◌≤◌, Bool, true, false, cond, eqb, ltb, leb, Some, None, Ok, Err, Option, Result, sym, refl, ap, ◌∙◌, arith}
use Rattle.std.proofs.lemmas.Bool.{and_parts, leb-true, ltb-false, eqb-true, eq-eqb, le-ltb, cond-true, cond-false}
use Rattle.device.specs.declared.interface.Kind.{Kind}
use Rattle.device.specs.declared.interface.Kind.TheVariants.{Read, Write, Flush}
use Rattle.device.specs.declared.interface.Cause.{Cause}
use Rattle.device.specs.declared.interface.Cause.TheVariants as causes
use Rattle.device.specs.declared.interface.Request.{Request}
use Rattle.device.specs.Numbers.{kind_of}
use Rattle.device.specs.Submit.{fair_count, due_length, form_as, form}

never_ok : (A : Type 0) (c : Cause) (k : Kind) → ◌≡◌ {A = Result Kind Cause} (Err c) (Ok k) → A
never_ok A c k e = let z : ◌≡◌ {A = ℕ} 0 1 = cc in absurd (omega arith)

formed_by : (f p g : Bool) (k k' : Kind)
    → ◌≡◌ {A = Result Kind Cause} (cond f (cond p (Err causes.PastEnd) (cond g (Ok k) (Err causes.BadLength))) (Err causes.BadCount)) (Ok k')
    → (f ≡ true) × (p ≡ false) × (g ≡ true) × (k ≡ k')
formed_by true false true k k' e = (refl, refl, refl, cc)
formed_by true false false k k' e = never_ok _ causes.BadLength k' e
formed_by true true g k k' e = never_ok _ causes.PastEnd k' e
formed_by false p g k k' e = never_ok _ causes.BadCount k' e

form_by : (o : Option Kind) (size : ℕ) (q : Request) (given : ℕ) (k : Kind)
    → form_as o size q given ≡ Ok k
    → (fair_count k q.first q.count ≡ true) × (q.first + q.count ≤ size) × (given ≡ due_length k q.count)
form_by None size q given k e = never_ok _ causes.BadKind k e
form_by (Some j) size q given k e =
    let r = formed_by (fair_count j q.first q.count) (ltb size (q.first + q.count)) (eqb given (due_length j q.count)) j k e in (
      ap (λ x. fair_count x q.first q.count) (sym r.3) ∙ r.0,
      ltb-false size (q.first + q.count) r.1,
      eqb-true given (due_length j q.count) r.2 ∙ ap (λ x. due_length x q.count) r.3,
    )

-- a request that has a form has a fair run inside the size, and comes with the bytes of its kind
pub form_ok : (size : ℕ) (q : Request) (given : ℕ) (k : Kind) → form size q given ≡ Ok k
    → (fair_count k q.first q.count ≡ true) × (q.first + q.count ≤ size) × (given ≡ due_length k q.count)
form_ok size q given k e = form_by (kind_of q.kind) size q given k e

pub fair_short : (k : Kind) (first count : ℕ) → fair_count k first count ≡ true → count ≤ 8
fair_short Read first count h = leb-true count 8 (and_parts (leb 1 count) (leb count 8) h).1
fair_short Write first count h = leb-true count 8 (and_parts (leb 1 count) (leb count 8) h).1
fair_short Flush first count h = let e = eqb-true count 0 (and_parts (eqb first 0) (eqb count 0) h).1 in omega arith

pub due_short : (k : Kind) (count : ℕ) → count ≤ 8 → due_length k count ≤ 1024
due_short Read count h = omega arith
due_short Write count h = omega arith
due_short Flush count h = omega arith

kind_by : (o : Option Kind) (size : ℕ) (q : Request) (given : ℕ) (k : Kind) → form_as o size q given ≡ Ok k → o ≡ Some k
kind_by None size q given k e = never_ok _ causes.BadKind k e
kind_by (Some j) size q given k e =
    ap Some (formed_by (fair_count j q.first q.count) (ltb size (q.first + q.count)) (eqb given (due_length j q.count)) j k e).3

-- and it is of the kind that its number names
pub form_kind : (size : ℕ) (q : Request) (given : ℕ) (k : Kind) → form size q given ≡ Ok k → kind_of q.kind ≡ Some k
form_kind size q given k e = kind_by (kind_of q.kind) size q given k e

-- a request of a known kind with a fair run inside the size and the bytes due has a form
pub form_from : (size : ℕ) (q : Request) (given : ℕ) (k : Kind) → kind_of q.kind ≡ Some k → fair_count k q.first q.count ≡ true
    → q.first + q.count ≤ size → given ≡ due_length k q.count → form size q given ≡ Ok k
form_from size q given k e f le g =
    ap (λ o. form_as o size q given) e
    ∙ (cond-true (fair_count k q.first q.count) _ (Err causes.BadCount) f
    ∙ (cond-false (ltb size (q.first + q.count)) (Err causes.PastEnd) _ (le-ltb size (q.first + q.count) le)
    ∙ cond-true (eqb given (due_length k q.count)) (Ok k) (Err causes.BadLength) (eq-eqb given (due_length k q.count) g)))

-- What any device admits, by its answers to questions.
use Rattle.std.proofs.Common.{◌≡◌, ℕ, Bool, true, false, cond, not, ◌||◌, eqb, List, [], ◌∷◌, length, Some, Ok, Err, Option, Result, sym, refl, ap, ◌∙◌, subst}
use Rattle.std.specs.Result.{MatchResult, IsErrAnd}
use denote.Enum.Bare.{sameb}
use Rattle.device.specs.contracts.interface.State as state
use Rattle.device.specs.declared.interface.Kind.{Kind}
use Rattle.device.specs.declared.interface.State.{State}
use Rattle.device.specs.declared.interface.State.TheVariants as states
use Rattle.device.specs.declared.interface.Cause.{Cause}
use Rattle.device.specs.declared.interface.Cause.TheVariants as causes
use Rattle.device.specs.declared.interface.Request.{Request}
use Rattle.device.specs.Meaning.{Meaning, Ticket}
use Rattle.device.specs.Submit.{form, tag_is_open, admitted_as, admitted}
use Rattle.device.specs.Collect.{found}
use Rattle.device.specs.Questions.{state_by, state_as, state_of}

-- the test `!= State::NotOpen`
abbrev pub differs : State → Bool
differs s = not (sameb state.the_type s states.NotOpen)

pub open_differs : (t : ℕ) (ts : List Ticket) → tag_is_open t ts ≡ differs (state_of t ts)
open_differs t [] = refl
open_differs t (x ∷ xs) = by_tag (eqb t x.tag) (found t xs) (tag_is_open t xs) (open_differs t xs)
  where
    by_ready : (r : Bool) → true ≡ differs (state_by r)
    by_ready true = refl
    by_ready false = refl

    by_tag : (b : Bool) (o : Option Ticket) (c : Bool) → c ≡ differs (state_as o) → (b || c) ≡ differs (state_as (cond b (Some x) o))
    by_tag true o c e = by_ready x.ready
    by_tag false o c e = e

pub admitted_from : (m : Meaning) (q : Request) (given : ℕ) (k : Kind) (o f : Bool) → form m.size q given ≡ Ok k → tag_is_open q.tag m.tickets ≡ o
    → eqb (length m.tickets) m.capacity ≡ f → admitted m q given ≡ cond o (Err causes.TagOpen) (cond f (Err causes.Full) (Ok k))
admitted_from m q given k o f e p r = rw (e, p, r)

-- the same from what the code has asked
pub admitted_asked : (m : Meaning) (q : Request) (given : ℕ) (k : Kind) (o f : Bool) {size : ℕ} {r : Result Kind Cause} {s : State}
    → size ≡ m.size → r ≡ form size q given → r ≡ Ok k → s ≡ state_of q.tag m.tickets → differs s ≡ o
    → eqb (length m.tickets) m.capacity ≡ f → cond o (Err causes.TagOpen) (cond f (Err causes.Full) (Ok k)) ≡ admitted m q given
admitted_asked m q given k o f {size} {r} {s} a b c d e h =
    let x : form m.size q given ≡ Ok k = cc in
    let y : tag_is_open q.tag m.tickets ≡ o = open_differs q.tag m.tickets ∙ (ap differs (sym d) ∙ e) in
    sym (admitted_from m q given k o f x y h)

-- the parts of an admission
pub admitted_ok : (m : Meaning) (q : Request) (given : ℕ) (k : Kind) → admitted m q given ≡ Ok k
    → (form m.size q given ≡ Ok k) × (tag_is_open q.tag m.tickets ≡ false) × (eqb (length m.tickets) m.capacity ≡ false)
admitted_ok m q given k e = by_form (form m.size q given) e
  where
    by_tag : (j : Kind) (o f : Bool) → cond o (Err causes.TagOpen) (cond f (Err causes.Full) (Ok j)) ≡ Ok k → ◌≡◌ {A = Result Kind Cause} (Ok j) (Ok k) × (o ≡ false) × (f ≡ false)
    by_tag j true f h = absurd cc
    by_tag j false true h = absurd cc
    by_tag j false false h = (h, refl, refl)

    by_form : (r : Result Kind Cause) → admitted_as r m q.tag ≡ Ok k → (r ≡ Ok k) × (tag_is_open q.tag m.tickets ≡ false) × (eqb (length m.tickets) m.capacity ≡ false)
    by_form (Err c) h = absurd cc
    by_form (Ok j) h = by_tag j (tag_is_open q.tag m.tickets) (eqb (length m.tickets) m.capacity) h

-- what `map_err` leaves as it is
pub ok_before : {T E F : Type 0} (r : Result T E) (r' : Result T F) (Q : E → F → Type 0) (x : T) → MatchResult r (λ y. r' ≡ Ok y) (λ e. IsErrAnd r' (Q e)) → r' ≡ Ok x → r ≡ Ok x
ok_before (Ok y) r' Q x c e = cc
ok_before (Err y) r' Q x c e = absurd (subst (λ z. IsErrAnd z (Q y)) e c)

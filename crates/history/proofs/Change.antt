-- The four things that a call sent to a device can be.
use Rattle.std.proofs.Common.{◌≡◌, ℕ, ◌+◌, ◌≤◌, Bool, true, false, cond, eqb, ltb, List, [], ◌∷◌, ◌++◌, length, drop, Some, None, Ok, Err, Option, Result, sym, refl, subst}
use Rattle.device.specs.declared.interface.Cause.{Cause}
use Rattle.device.specs.declared.interface.Cause.TheVariants as causes
use Rattle.device.specs.declared.interface.Kind.{Kind}
use Rattle.device.specs.declared.interface.Request.{Request}
use Rattle.device.specs.declared.interface.Refusal.{Refusal}
use Rattle.device.specs.Told.{Told}
use Rattle.device.specs.Told as told
use Rattle.device.specs.Meaning.{Meaning, Ticket, with_disk}
use Rattle.device.specs.Numbers.{kind_of}
use Rattle.device.specs.Submit.{due_length, form, tag_is_open, admitted_as, admitted, ticket_of, disk_after, submitted_as, submit_answer_as}
use Rattle.device.specs.Collect.{found, without, due_as, due, collect_answer_as, collected_as, buffer_as}
use Rattle.device.specs.Turns.{Turned}
use Rattle.device.proofs.Forms.{form_ok, form_kind}
use Rattle.history.specs.History.{accepts, answers, writes, is_turn}
use Rattle.history.specs.Steps.{Sent}

-- what an accepted request is
pub record Fit (m : Meaning) (q : Request) (given : ℕ) (k : Kind) : Type 0 where
  pub is_kind : kind_of q.kind ≡ Some k
  pub inside : q.first + q.count ≤ m.size
  pub long : given ≡ due_length k q.count
  pub fresh : tag_is_open q.tag m.tickets ≡ false

admitted_by : (r : Result Kind Cause) (m : Meaning) (t : ℕ) (k : Kind) → admitted_as r m t ≡ Ok k → (r ≡ Ok k) × (tag_is_open t m.tickets ≡ false)
admitted_by (Err c) m t k e = cc
admitted_by (Ok j) m t k e = go (tag_is_open t m.tickets) (eqb (length m.tickets) m.capacity) e
  where
    go : (a b : Bool) → ◌≡◌ {A = Result Kind Cause} (cond a (Err causes.TagOpen) (cond b (Err causes.Full) (Ok j))) (Ok k) → (◌≡◌ {A = Result Kind Cause} (Ok j) (Ok k)) × (a ≡ false)
    go true b e = cc
    go false true e = cc
    go false false e = (e, refl)

fits : (m : Meaning) (q : Request) (n : ℕ) (k : Kind) → admitted m q n ≡ Ok k → Fit m q n k
fits m q n k e =
    let a = admitted_by (form m.size q n) m q.tag k e in
    let f = form_ok m.size q n k a.0 in
    record { is_kind = form_kind m.size q n k a.0; inside = f.1; long = f.2; fresh = a.1 }

pub data Change : Meaning → Told → Meaning → Type 0 where
  ignored : {m : Meaning} {e : Told} → ((t : ℕ) → accepts t e ≡ false) → ((t : ℕ) → answers t e ≡ false) → ((s : ℕ) → writes s e ≡ None) → is_turn e ≡ 0 → Change m e m
  turned : {m m' : Meaning} {k n : ℕ} → Turned m m' n → Change m (told.turn k n) m'
  takes : {m : Meaning} {q : Request} {d : List ℕ} {t : ℕ} (k : Kind) → Fit m q (length d) k → Change m (told.submit q d t (Ok tt)) (with_disk m (disk_after k m q d) (m.tickets ++ (ticket_of m q k ∷ [])))
  gives : {m : Meaning} {t mask : ℕ} {g b : List ℕ} (x : Ticket) → found t m.tickets ≡ Some x → mask ≡ x.mask → b ≡ x.bytes ++ drop (length x.bytes) g → Change m (told.collect t g (Ok mask) b) (with_disk m m.disk (without t m.tickets))

submit_change : (m : Meaning) (q : Request) (d : List ℕ) (k : ℕ) (r : Result (Unit {0}) Refusal) (a : Result Kind Cause) → admitted m q (length d) ≡ a → r ≡ submit_answer_as a m → Change m (told.submit q d k r) (submitted_as a m q d)
submit_change m q d k (Ok u) (Err c) f e = cc
submit_change m q d k (Err x) (Ok j) f e = cc
submit_change m q d k (Err x) (Err c) f e = ignored (λ t. refl) (λ t. refl) (λ s. refl) refl
submit_change m q d k (Ok u) (Ok j) f e = takes j (fits m q (length d) j f)

due_found : (o : Option Ticket) (room : ℕ) (x : Ticket) → due_as o room ≡ Ok x → o ≡ Some x
due_found None room x e = cc
due_found (Some y) room x e = go y.ready (ltb room (length y.bytes)) e
  where
    go : (a b : Bool) → ◌≡◌ {A = Result Ticket Cause} (cond a (cond b (Err causes.ShortBuffer) (Ok y)) (Err causes.Waits)) (Ok x) → Some y ≡ Some x
    go true true e = cc
    go true false e = cc
    go false b e = cc

collect_change : (m : Meaning) (t : ℕ) (g b : List ℕ) (r : Result ℕ Refusal) (w : Result Ticket Cause) → due m t (length g) ≡ w → r ≡ collect_answer_as w m → b ≡ buffer_as w g → Change m (told.collect t g r b) (collected_as w m t)
collect_change m t g b (Ok a) (Err c) f e h = cc
collect_change m t g b (Err a) (Ok x) f e h = cc
collect_change m t g b (Err a) (Err c) f e h = ignored (λ t. refl) (λ t. refl) (λ s. refl) refl
collect_change m t g b (Ok a) (Ok x) f e h = let z : a ≡ x.mask = cc in gives x (due_found (found t m.tickets) (length g) x f) z h

pub changes : (m : Meaning) (e : Told) (m' : Meaning) → Sent m e m' → Change m e m'
changes m (told.submit q d k r) m' s = subst (λ (n : Meaning). Change m (told.submit q d k r) n) (sym s.1) (submit_change m q d k r (admitted m q (length d)) refl s.0)
changes m (told.turn k n) m' s = turned s
changes m (told.collect t g r b) m' s = subst (λ (n : Meaning). Change m (told.collect t g r b) n) (sym s.2) (collect_change m t g b r (due m t (length g)) refl s.0 s.1)

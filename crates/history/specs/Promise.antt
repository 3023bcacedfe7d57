-- What every device promises of every history, if it had no open ticket at set-up.
use Rattle.std.specs.Prelude.{◌≡◌, ℕ, ◌+◌, ◌<◌, ◌≤◌, Bool, true, false, List, ◌∷◌, ◌++◌, map, Ok}
use Rattle.device.specs.declared.interface.Kind.TheVariants.{Read}
use Rattle.device.specs.declared.interface.Request.{Request}
use Rattle.device.specs.Meaning.{Meaning, Ticket, Contents, part, mask_of}
use Rattle.device.specs.Numbers.{kind_number}
use Rattle.device.specs.Told.{Told, submit, collect}
use Rattle.device.specs.Turns.{waiting}
use Rattle.device.specs.Sound.{distinct}
use Rattle.history.specs.History.{turns, NoneAccepted, NotAccepted, NotAnswered, unanswered, last_written}
use Rattle.history.specs.Steps.{Ran}

abbrev pub tags : List Ticket → List ℕ
tags ts = map (λ (x : Ticket). x.tag) ts

-- The ticket that an answer is for: the last one accepted under the tag before it, and not answered before. The answer is
-- the mask of the ticket's run and, where the ticket is a read, shows at each good sector the last write accepted before the
-- read was submitted, or the contents at set-up where there was none.
pub record TicketFor (bad : ℕ → Bool) (disk : Contents) (before : List Told) (tag mask : ℕ) (buffer : List ℕ) : Type 0 where
  pub earlier : List Told
  pub request : Request
  pub given : List ℕ
  pub tick : ℕ
  pub since : List Told
  pub accepted : before ≡ earlier ++ (submit request given tick (Ok tt) ∷ since)
  pub same_tag : request.tag ≡ tag
  pub last : NotAccepted tag since
  pub first_answer : NotAnswered tag since
  pub due_mask : mask ≡ mask_of bad request.first request.count
  pub shows : request.kind ≡ kind_number Read → (i : ℕ) → i < request.count → bad (request.first + i) ≡ false → part buffer i ≡ last_written disk earlier (request.first + i)

-- among these calls a submit under the tag was accepted
pub record AcceptedIn (tag : ℕ) (h : List Told) : Type 0 where
  pub earlier : List Told
  pub request : Request
  pub given : List ℕ
  pub tick : ℕ
  pub since : List Told
  pub accepted : h ≡ earlier ++ (submit request given tick (Ok tt) ∷ since)
  pub same_tag : request.tag ≡ tag

-- m is the meaning at set-up, h the history since, m' the meaning now
pub record Promise (m : Meaning) (h : List Told) (m' : Meaning) : Type 0 where
  -- each answer is for an accepted ticket, and an answered read shows the last write
  pub reads_see_the_last_write : (before after : List Told) (t mask : ℕ) (g b : List ℕ)
      → before ++ (collect t g (Ok mask) b ∷ after) ≡ h → TicketFor m.bad m.disk before t mask b
  -- no two answers are for the same ticket: between two under one tag a new ticket was accepted under it
  pub answered_once : (before between after : List Told) (t mask mask' : ℕ) (g g' b b' : List ℕ)
      → before ++ (collect t g (Ok mask) b ∷ (between ++ (collect t g' (Ok mask') b' ∷ after))) ≡ h → AcceptedIn t between
  -- at any time between, the device had a meaning to which the calls before led and from which the calls behind went on
  pub midway : (earlier later : List Told) → earlier ++ later ≡ h → (mid : Meaning) × Ran m earlier mid × Ran mid later m'
  -- and then it names as open the tickets accepted and not answered, the oldest first
  pub open_is_accepted_and_unanswered : (earlier later : List Told) (mid : Meaning) → earlier ++ later ≡ h → Ran m earlier mid → Ran mid later m'
      → tags mid.tickets ≡ unanswered earlier
  -- each once
  pub each_once : (earlier later : List Told) (mid : Meaning) → earlier ++ later ≡ h → Ran m earlier mid → Ran mid later m'
      → distinct mid.tickets ≡ true
  -- where n tickets wait, the next n turns leave none waiting if no submit is accepted between
  pub turns_settle : (earlier between later : List Told) (mid mid' : Meaning) → earlier ++ (between ++ later) ≡ h → Ran m earlier mid → Ran mid between mid' → Ran mid' later m'
      → NoneAccepted between → waiting mid.tickets ≤ turns between → waiting mid'.tickets ≡ 0

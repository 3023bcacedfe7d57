-- A log of the calls that were sent to a device: how it is tied to the device, and what it promises.
use Rattle.std.specs.Prelude.{◌≡◌, ◌≤◌, List, [], ◌∷◌, ◌++◌, map, flat_map, vec_items, Vec}
use Rattle.std.specs.declared.alloc.Global.{Global}
use Rattle.device.specs.Meaning.{Meaning}
use Rattle.device.specs.Told.{Told, submit, turn, collect}
use Rattle.device.specs.Questions.{home_at}
use Rattle.device.specs.Fault.{fault_of}
use Rattle.history.specs.declared.call.Event.{Event}
use Rattle.history.specs.declared.call.Event.TheVariants as events
use Rattle.history.specs.declared.call.Call.{Call}
use Rattle.history.specs.declared.call.Call.TheVariants as calls
use Rattle.history.specs.declared.call.OpenTicket.{OpenTicket}
use Rattle.history.specs.History.{turns, NoneAccepted, unanswered}
use Rattle.history.specs.Steps.{Sent}
use Rattle.history.specs.Promise.{Promise}
use Rattle.history.specs.Questions.{open_list, tags_in, waiting_in}

-- the call of an entry
abbrev pub call_of : Event → Call
call_of (events.Submitted q d k r) = calls.Submit q d k
call_of (events.Turned k n) = calls.Turn k
call_of (events.Collected t g r b) = calls.Collect t g
call_of (events.Opened v) = calls.Open
call_of (events.Homed s h) = calls.Home s
call_of (events.Faulted f k x) = calls.Fault f k

abbrev pub calls_of : List Event → List Call
calls_of es = map call_of es

-- what an entry adds to the history; a question adds nothing
abbrev pub told : Event → List Told
told (events.Submitted q d k r) = submit q (vec_items d) k r ∷ []
told (events.Turned k n) = turn k n ∷ []
told (events.Collected t g r b) = collect t (vec_items g) r (vec_items b) ∷ []
told (events.Opened v) = []
told (events.Homed s h) = []
told (events.Faulted f k x) = []

abbrev pub history_of : List Event → List Told
history_of es = flat_map told es

-- the device went from d to d' by the call, as it was told, with that answer; by a question it stays as it is
abbrev pub Step : {D : Type 0} → (D → Meaning) → (D → Told → D → Type 0) → D → Event → D → Type 0
Step meaning does d (events.Submitted q b k r) d' = Sent (meaning d) (submit q (vec_items b) k r) (meaning d') × does d (submit q (vec_items b) k r) d'
Step meaning does d (events.Turned k n) d' = Sent (meaning d) (turn k n) (meaning d') × does d (turn k n) d'
Step meaning does d (events.Collected t g r b) d' = Sent (meaning d) (collect t (vec_items g) r (vec_items b)) (meaning d') × does d (collect t (vec_items g) r (vec_items b)) d'
Step meaning does d (events.Opened v) d' = (vec_items v ≡ open_list (meaning d).tickets) × (d' ≡ d)
Step meaning does d (events.Homed s h) d' = (h ≡ home_at (meaning d) s) × (d' ≡ d)
Step meaning does d (events.Faulted f k x) d' = (x ≡ fault_of (meaning d) f k) × (d' ≡ d)

-- and so by each call of a log, one after the other
pub data Went {D : Type 0} (meaning : D → Meaning) (does : D → Told → D → Type 0) : D → List Event → D → Type 0 where
  stays : {d : D} → Went meaning does d [] d
  goes : {d d₁ d₂ : D} {e : Event} {es : List Event} → Step meaning does d e d₁ → Went meaning does d₁ es d₂ → Went meaning does d (e ∷ es) d₂

-- What a log shows of itself, if the device had no open ticket at set-up: each open list that it holds names the tickets
-- accepted and not answered in the history before it; and between two open lists, the first with n tickets that wait, n turns
-- and no accepted submit leave none waiting.
pub record Shown (log : List Event) : Type 0 where
  pub open_lists : (before after : List Event) (v : Vec OpenTicket Global) → before ++ (events.Opened v ∷ after) ≡ log
      → tags_in (vec_items v) ≡ unanswered (history_of before)
  pub settled : (before between after : List Event) (v w : Vec OpenTicket Global)
      → before ++ (events.Opened v ∷ (between ++ (events.Opened w ∷ after))) ≡ log
      → NoneAccepted (history_of between) → waiting_in (vec_items v) ≤ turns (history_of between) → waiting_in (vec_items w) ≡ 0

pub record Heard {D : Type 0} (meaning : D → Meaning) (does : D → Told → D → Type 0) (d : D) (log : List Event) (d' : D) : Type 0 where
  pub went : Went meaning does d log d'
  pub promise : (meaning d).tickets ≡ [] → Promise (meaning d) (history_of log) (meaning d')
  pub shown : (meaning d).tickets ≡ [] → Shown log

-- all calls were sent
pub record SentAll {D : Type 0} (meaning : D → Meaning) (does : D → Told → D → Type 0) (d : D) (calls : List Call) (log : List Event) (d' : D) : Type 0 where
  pub all : calls_of log ≡ calls
  pub heard : Heard meaning does d log d'

-- memory ran out: some of the calls were sent, the first ones
pub record SentSome {D : Type 0} (meaning : D → Meaning) (does : D → Told → D → Type 0) (d : D) (calls : List Call) (d' : D) : Type 0 where
  pub log : List Event
  pub rest : List Call
  pub front : calls_of log ++ rest ≡ calls
  pub heard : Heard meaning does d log d'

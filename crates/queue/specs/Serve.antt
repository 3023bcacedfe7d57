-- One run or flush served by the device below: one submit, one turn and one collect, under tag 0 and at one tick.
use Rattle.std.specs.Prelude.{◌≡◌, ℕ, ◌+◌, ◌<◌, ◌≤◌, true, false, ◌&&◌, List, [], ◌++◌, length, take, drop, Ok, Result}
use Rattle.std.specs.Result.{result_unwrap_or}
use Rattle.device.specs.declared.interface.Kind.{Kind}
use Rattle.device.specs.declared.interface.Request.{Request}
use Rattle.device.specs.declared.interface.Refusal.{Refusal}
use Rattle.device.specs.Meaning.{Meaning, is_write, is_flush, covers, mask_of, sector_bytes}
use Rattle.device.specs.Numbers.{kind_number}
use Rattle.device.specs.Submit.{fair_count, due_length, disk_after, due_bytes, submitted, submit_answer}
use Rattle.device.specs.Collect.{collected, collect_answer, buffer_after}
use Rattle.device.specs.Told.{Told, submit, turn, collect}
use Rattle.device.specs.Turns.{SameShape, Turned, most_ticks}

abbrev pub asked : Kind → (first count : ℕ) → Request
asked k first count = record { tag = 0; kind = kind_number k; first = first; count = count }

-- the data that goes down: the front of the buffer for a write, and none otherwise
abbrev pub sent : Kind → ℕ → List ℕ → List ℕ
sent k count buffer = take (due_length k count) buffer

-- The three calls, each accepted or refused: what each answered, and what it left below. The mask is 0 where the collect is refused.
pub record Tried {D : Type 0} (meaning : D → Meaning) (does : D → Told → D → Type 0) (d d' : D) (k : Kind) (first count : ℕ) (before after : List ℕ) (tick ticks mask : ℕ) : Type 0 where
  pub entered : D
  pub turned : D
  pub accepts : Result (Unit {0}) Refusal
  pub gives : Result ℕ Refusal
  pub submit_answers : accepts ≡ submit_answer (meaning d) (asked k first count) (length (sent k count before))
  pub submit_leaves : meaning entered ≡ submitted (meaning d) (asked k first count) (sent k count before)
  pub submits : does d (submit (asked k first count) (sent k count before) tick accepts) entered
  pub turn_leaves : Turned (meaning entered) (meaning turned) ticks
  pub turns : does entered (turn tick ticks) turned
  pub collect_answers : gives ≡ collect_answer (meaning turned) 0 (length before)
  pub collect_hands : after ≡ buffer_after (meaning turned) 0 before
  pub collect_leaves : meaning d' ≡ collected (meaning turned) 0 (length before)
  pub collects : does turned (collect 0 before gives after) d'
  pub mask_or_none : mask ≡ result_unwrap_or gives 0

-- nothing is open below, there is a place, and the run is one that is accepted
pub record Servable (m : Meaning) (k : Kind) (first count : ℕ) : Type 0 where
  pub idle : m.tickets ≡ []
  pub place : 0 < m.capacity
  pub counted : fair_count k first count ≡ true
  pub inside : first + count ≤ m.size
  pub sized : (s : ℕ) → s < m.size → length (m.disk s) ≡ sector_bytes

-- what is left below, and handed out
pub record Served (m m' : Meaning) (k : Kind) (first count : ℕ) (before after : List ℕ) (ticks mask : ℕ) : Type 0 where
  pub disk : m'.disk ≡ disk_after k m (asked k first count) (sent k count before)
  pub idle : m'.tickets ≡ []
  pub shape : SameShape m m'
  pub answers : mask ≡ mask_of m.bad first count
  pub hands : after ≡ due_bytes k m.disk first count ++ drop (length (due_bytes k m.disk first count)) before
  pub settled : (s : ℕ) → m.medium s ≡ m.disk s → (is_write k && covers first count s) ≡ false → m'.medium s ≡ m'.disk s
  pub flushed : is_flush k ≡ true → (s : ℕ) → m'.medium s ≡ m'.disk s
  pub bounded : ticks ≤ most_ticks

-- the three calls, each as it was told and with what it answered
pub record Called {D : Type 0} (does : D → Told → D → Type 0) (d d' : D) (k : Kind) (first count : ℕ) (before after : List ℕ) (tick ticks mask : ℕ) : Type 0 where
  pub submitted : D
  pub turned : D
  pub submits : does d (submit (asked k first count) (sent k count before) tick (Ok tt)) submitted
  pub turns : does submitted (turn tick ticks) turned
  pub collects : does turned (collect 0 before (Ok mask) after) d'

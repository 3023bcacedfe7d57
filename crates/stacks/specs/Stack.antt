-- An offset over a mirror of a drive and a memory disk: what it means at set-up, and what it promises of a list of calls.
use Rattle.std.specs.Prelude.{◌≡◌, ℕ, List}
use Rattle.device.specs.Meaning.{Meaning}
use Rattle.drive.specs.Means as drive
use Rattle.memory_disk.specs.Means as disk
use Rattle.mirror.specs.Means as mirror
use Rattle.offset.specs.Means as offset
use Rattle.history.specs.declared.call.Call.{Call}
use Rattle.history.specs.declared.call.Event.{Event}
use Rattle.history.specs.Log.{calls_of, history_of, Shown}
use Rattle.history.specs.Promise.{Promise}

abbrev pub set_up : List ℕ → (base most : ℕ) → List ℕ → List ℕ → Meaning
set_up named base most left right = offset.set_up base most (mirror.set_up (drive.set_up named left) (disk.set_up named right))

pub record Promised (named : List ℕ) (base most : ℕ) (left right : List ℕ) (calls : List Call) (log : List Event) : Type 0 where
  pub all : calls_of log ≡ calls
  pub after : Meaning
  pub promise : Promise (set_up named base most left right) (history_of log) after
  pub shown : Shown log

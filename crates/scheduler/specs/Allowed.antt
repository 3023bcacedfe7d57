-- What a choice tells of the counts: no sum of a turn passes its limit.
use Rattle.std.specs.Prelude.{◌≡◌, ◌+◌, ◌*◌, ◌<◌, ◌≤◌, Bool, true}
use Rattle.device.specs.Meaning.{is_read}
use Rattle.device.specs.Sound.{most_sectors, most_tickets}
use Rattle.deadline.specs.declared.dispatch.Run.{Run}
use Rattle.deadline.specs.declared.dispatch.Choice.{Choice}
use Rattle.deadline.specs.declared.dispatch.Choice.TheVariants.{Idle, PassesDown, GoesOn, BeginsWith}
use Rattle.deadline.specs.Settings.{Settings}
use Rattle.deadline.specs.Waiting.{ends}
use Rattle.deadline.specs.Turn.{State}
use Rattle.scheduler.specs.Bounds.{served}

-- the run's end is a number of 32 bits: it begins within a device's sectors, and each of its tickets has no more than those
abbrev pub Short : Run → Type 0
Short r = ends r ≤ most_sectors + most_tickets * most_sectors

-- a batch that goes on has served fewer runs than it may; a read batch that begins while a free write waits is not one too many
abbrev pub Allowed : Settings → State → (writable : Bool) → Choice → Type 0
Allowed st s w Idle = Unit {0}
Allowed st s w (PassesDown t) = Unit {0}
Allowed st s w (GoesOn r) = (served s.batch < st.fifo_batch) × Short r
Allowed st s w (BeginsWith r) = (is_read r.kind ≡ true → w ≡ true → s.passed_over < st.writes_starved) × Short r

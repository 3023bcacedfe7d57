-- Whether a batch may go on with runs of a kind.
use Rattle.std.specs.Prelude.{Bool, false, ◌&&◌, nat_lt}
use Rattle.device.specs.declared.interface.Kind.{Kind}
use Rattle.device.specs.Meaning.{is_read, is_write}
use Rattle.deadline.specs.Settings.{Settings}
use Rattle.deadline.specs.declared.dispatch.Batch.{Batch}
use Rattle.deadline.specs.declared.dispatch.Batch.TheVariants.{Closed, Reading, Writing}

-- the batch is of the kind, and has served fewer runs than it may
abbrev pub may_go_on : Settings → Batch → Kind → Bool
may_go_on st Closed k = false
may_go_on st (Reading n) k = is_read k && nat_lt n st.fifo_batch
may_go_on st (Writing n) k = is_write k && nat_lt n st.fifo_batch

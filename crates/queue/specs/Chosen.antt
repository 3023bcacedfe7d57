-- What may be served of the open tickets.
use Rattle.std.specs.Prelude.{◌≡◌, ℕ, ◌*◌, ◌≤◌, true, List, length}
use Rattle.device.specs.declared.interface.Kind.{Kind}
use Rattle.device.specs.Meaning.{is_write, sector_bytes}
use Rattle.queue.specs.Queue.{Entry, of_run, Free, Kinded}
use Rattle.queue.specs.Runs.{Row, gathered}

-- a free run, or a flush, that makes up the stretch f, c, with the data of its writes in one buffer
pub record Chosen (es : List Entry) (r : ℕ) (k : Kind) (f c : ℕ) (before : List ℕ) : Type 0 where
  pub free : Free r es
  pub kinded : Kinded r k es
  pub row : Row (of_run r es) f c
  pub room : c * sector_bytes ≤ length before
  pub gathers : is_write k ≡ true → (buffer : List ℕ) × (c * sector_bytes ≤ length buffer) × (before ≡ gathered f (of_run r es) buffer)

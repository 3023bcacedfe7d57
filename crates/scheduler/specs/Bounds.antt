-- Limits that keep the sums of sector numbers within 32 bits.
use Rattle.std.specs.Prelude.{◌≡◌, ℕ, ◌+◌, ◌≤◌, Bool, false, List, length, nat_lt}
use Rattle.device.specs.Sound.{most_sectors, most_tickets}
use Rattle.deadline.specs.declared.dispatch.Queued.{Queued}
use Rattle.deadline.specs.declared.dispatch.Batch.{Batch}
use Rattle.deadline.specs.declared.dispatch.Batch.TheVariants.{Closed, Reading, Writing}
use Rattle.deadline.specs.Waiting.{any}

-- a ticket that reaches past the sectors that a device may have
abbrev pub beyond : Queued → Bool
beyond x = nat_lt most_sectors (x.first + x.count)

-- no more tickets than a device may have open, each within the sectors that it may have
pub record Bounded (ws : List Queued) : Type 0 where
  pub few : length ws ≤ most_tickets
  pub small : any beyond ws ≡ false

-- the runs that the batch has served
abbrev pub served : Batch → ℕ
served Closed = 0
served (Reading n) = n
served (Writing n) = n

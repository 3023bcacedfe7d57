-- Whether a request is taken in.
use Rattle.std.specs.Prelude.{ℕ, ◌+◌, cond, List, length, Ok, Err, Result, nat_lt}
use Rattle.device.specs.declared.interface.Cause.{Cause}
use Rattle.device.specs.declared.interface.Cause.TheVariants.{PastEnd, Full}
use Rattle.device.specs.Sound.{most_sectors, most_tickets}
use Rattle.deadline.specs.declared.dispatch.Queued.{Queued}

-- a place behind the waiting tickets, or the cause with the smaller number for which there is none: the request reaches past the
-- sectors that a device may have, or as many tickets wait as a device may have open
abbrev pub place_for : List Queued → (first count : ℕ) → Result (Unit {0}) Cause
place_for ws first count =
    cond (nat_lt most_sectors (first + count)) (Err PastEnd)
    (cond (nat_lt (length ws) most_tickets) (Ok tt) (Err Full))

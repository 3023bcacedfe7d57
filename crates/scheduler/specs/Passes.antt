-- Tests of one waiting ticket, which the code runs along the waiting tickets.
use Rattle.std.specs.Prelude.{ℕ, Bool, not, ◌&&◌, ◌||◌, List, take}
use Rattle.device.specs.Meaning.{is_flush}
use Rattle.deadline.specs.declared.dispatch.Queued.{Queued}
use Rattle.deadline.specs.Waiting.{any, conflict, is_in}

-- the ticket is outside the run
abbrev pub outside : ℕ → Queued → Bool
outside r x = not (is_in r x)

-- the ticket is no flush
abbrev pub no_flush : Queued → Bool
no_flush x = not (is_flush x.kind)

-- y is outside the run and conflicts with x
abbrev pub hinders : ℕ → Queued → Queued → Bool
hinders r x y = outside r y && conflict x y

-- the ticket at place i is outside the run, or none of the older ones hinders it
abbrev pub unhindered_at : ℕ → List Queued → ℕ × Queued → Bool
unhindered_at r ws (i, x) = outside r x || not (any (hinders r x) (take i ws))

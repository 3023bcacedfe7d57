-- What a mask says of a run: where its lowest bad sector has its home, and how many are bad.
use Rattle.std.specs.Prelude.{ℕ, ◌+◌, cond, Some, None, Option, ◌==◌, count_ones}
use Rattle.std.specs.Int.Count.{count_trailing_zeros}
use Rattle.device.specs.declared.fault.Fault.{Fault}
use Rattle.device.specs.Meaning.{Meaning}
use Rattle.device.specs.Questions.{home_at}

-- the mask 0 says that none is bad
abbrev pub fault_of : Meaning → (first mask : ℕ) → Option Fault
fault_of m first mask = cond (mask == 0) None (Some (record { lowest = home_at m (first + count_trailing_zeros 8 mask); bad = count_ones mask }))

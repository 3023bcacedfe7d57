-- What all layers share.
use Rattle.std.specs.Prelude.{ℕ, ◌+◌, min, Bool, ◌||◌, length, ◌==◌, nat_lt}
use Rattle.device.specs.Meaning.{Meaning}
use Rattle.device.specs.Sound.{most_height}

-- the height of a layer over a device, or over the highest of several
abbrev pub layer_height : ℕ → ℕ
layer_height below = min (below + 1) most_height

-- a layer over a device that has open tickets, or no room for any, only asks questions below
abbrev pub shut_over : Meaning → Bool
shut_over m = nat_lt 0 (length m.tickets) || m.capacity == 0

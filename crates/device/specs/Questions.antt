-- What the questions answer.
use Rattle.std.specs.Prelude.{ℕ, zero, suc, Bool, cond, List, [], ◌∷◌, length, Some, None, Option, nat_lt}
use Rattle.device.specs.declared.interface.Home.{Home}
use Rattle.device.specs.declared.interface.State.{State}
use Rattle.device.specs.declared.interface.State.TheVariants as states
use Rattle.device.specs.Meaning.{Meaning, Ticket}
use Rattle.device.specs.Collect.{found}

-- the tag of the i-th oldest ticket, from 0, or nothing
abbrev pub tag_at : ℕ → List Ticket → Option ℕ
tag_at i [] = None
tag_at zero (x ∷ xs) = Some x.tag
tag_at (suc i) (x ∷ xs) = tag_at i xs

-- the state of an open ticket
abbrev pub state_by : Bool → State
state_by ready = cond ready states.Ready states.Waiting

abbrev pub state_as : Option Ticket → State
state_as None = states.NotOpen
state_as (Some x) = state_by x.ready

abbrev pub state_of : ℕ → List Ticket → State
state_of t ts = state_as (found t ts)

abbrev pub byte_count_as : Option Ticket → ℕ
byte_count_as None = 0
byte_count_as (Some x) = length x.bytes

-- the bytes that a read of the tag gives, and 0 for any other tag
abbrev pub byte_count : ℕ → List Ticket → ℕ
byte_count t ts = byte_count_as (found t ts)

-- the home of a sector, or nothing beyond the last
abbrev pub home_at : Meaning → ℕ → Option Home
home_at m s = cond (nat_lt s m.size) (Some (m.home s)) None

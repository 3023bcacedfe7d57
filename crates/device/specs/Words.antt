-- How a person reads a home, a fault, a state and a refusal.
use Rattle.std.specs.Prelude.{ℕ, List, ◌++◌, Some, None, Option, codes}
use Rattle.std.specs.Fmt.{decimal}
use Rattle.device.specs.declared.fault.Fault.{Fault}
use Rattle.device.specs.declared.interface.Home.{Home}
use Rattle.device.specs.declared.interface.Refusal.{Refusal}
use Rattle.device.specs.declared.interface.State.{State}
use Rattle.device.specs.declared.interface.State.TheVariants as states
use Rattle.device.specs.Numbers.{cause_number}

abbrev pub state_words : State → List ℕ
state_words states.NotOpen = codes "not open"
state_words states.Waiting = codes "waiting"
state_words states.Ready = codes "ready"

abbrev pub home_words : Home → List ℕ
home_words h = codes "height " ++ (decimal h.height ++ (codes ", sector " ++ decimal h.sector))

-- a refusal by its number, and the height of the device that was called
abbrev pub refusal_words : Refusal → List ℕ
refusal_words r = codes "refused " ++ (decimal (cause_number r.cause) ++ (codes " at height " ++ decimal r.height))

abbrev pub fault_words_as : ℕ → Option Home → List ℕ
fault_words_as bad None = decimal bad ++ codes " bad, first beyond the end"
fault_words_as bad (Some h) = decimal bad ++ (codes " bad, first at " ++ home_words h)

-- how many are bad, and where the lowest is
abbrev pub fault_words : Fault → List ℕ
fault_words f = fault_words_as f.bad f.lowest

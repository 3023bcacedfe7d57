-- The one number of each kind, cause and state.
use Rattle.std.specs.Prelude.{ℕ, cond, Some, None, Option, Ok, Err, Result, ◌==◌}
use Rattle.device.specs.declared.interface.Kind.{Kind}
use Rattle.device.specs.declared.interface.Kind.TheVariants.{Read, Write, Flush}
use Rattle.device.specs.declared.interface.Cause.{Cause}
use Rattle.device.specs.declared.interface.Cause.TheVariants as causes
use Rattle.device.specs.declared.interface.State.{State}
use Rattle.device.specs.declared.interface.State.TheVariants as states

abbrev pub kind_number : Kind → ℕ
kind_number Read = 0
kind_number Write = 1
kind_number Flush = 2

-- the kind that a number names; one above 2 names none
abbrev pub kind_of : ℕ → Option Kind
kind_of n =
    cond (n == kind_number Read) (Some Read)
    (cond (n == kind_number Write) (Some Write)
    (cond (n == kind_number Flush) (Some Flush) None))

abbrev pub kind_or_cause : Option Kind → Result Kind Cause
kind_or_cause None = Err causes.BadKind
kind_or_cause (Some k) = Ok k

-- that kind, or the cause to refuse a number that names none
abbrev pub named_kind : ℕ → Result Kind Cause
named_kind n = kind_or_cause (kind_of n)

abbrev pub cause_number : Cause → ℕ
cause_number causes.BadKind = 1
cause_number causes.BadCount = 2
cause_number causes.PastEnd = 3
cause_number causes.BadLength = 4
cause_number causes.TagOpen = 5
cause_number causes.Full = 6
cause_number causes.NotOpen = 7
cause_number causes.Waits = 8
cause_number causes.ShortBuffer = 9

abbrev pub state_number : State → ℕ
state_number states.NotOpen = 0
state_number states.Waiting = 1
state_number states.Ready = 2

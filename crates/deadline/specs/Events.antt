-- Lists of events: what can happen to the waiting tickets, and what becomes of them.
use Rattle.std.specs.Prelude.{ℕ, suc, Bool, false, cond, ◌&&◌, List, [], ◌∷◌}
use Rattle.device.specs.declared.interface.Kind.{Kind}
use Rattle.device.specs.declared.interface.Kind.TheVariants.{Write}
use Rattle.device.specs.Meaning.{is_read, is_write}
use Rattle.deadline.specs.Settings.{Settings}
use Rattle.deadline.specs.Waiting.{free_runs}
use Rattle.deadline.specs.Turn.{State, Choice, idle, passes_down, goes_on, begins_with, some_of, submitted, turned, chosen}

-- a submit that is accepted, a turn, and a collect; the first two are told a tick
pub data Event : Type 0 where
  submit : (tag : ℕ) → Kind → (first count told : ℕ) → Event
  turn : (told : ℕ) → Event
  collect : (tag : ℕ) → Event

-- a collect answers a ticket that waits no more
abbrev pub step : Settings → State → Event → State
step st s (submit tag kind first count told) = submitted st s tag kind first count told
step st s (turn told) = turned st s told
step st s (collect tag) = s

abbrev pub following : Settings → State → List Event → State
following st s [] = s
following st s (e ∷ es) = following st (step st s e) es

abbrev pub turns_in : List Event → ℕ
turns_in [] = 0
turns_in (submit _ _ _ _ _ ∷ es) = turns_in es
turns_in (turn _ ∷ es) = suc (turns_in es)
turns_in (collect _ ∷ es) = turns_in es

-- a turn that serves nothing is not noted
abbrev pub noted : Choice → List Choice → List Choice
noted idle cs = cs
noted (passes_down t) cs = passes_down t ∷ cs
noted (goes_on r) cs = goes_on r ∷ cs
noted (begins_with r) cs = begins_with r ∷ cs

-- what the turns of a list of events serve, in order
abbrev pub dispatched : Settings → State → List Event → List Choice
dispatched st s [] = []
dispatched st s (submit tag kind first count told ∷ es) = dispatched st (submitted st s tag kind first count told) es
dispatched st s (turn told ∷ es) = noted (chosen st s told) (dispatched st (turned st s told) es)
dispatched st s (collect tag ∷ es) = dispatched st s es

-- the turn begins a batch of the kind that the test knows
abbrev pub begins : (Kind → Bool) → Choice → Bool
begins p idle = false
begins p (passes_down t) = false
begins p (goes_on r) = false
begins p (begins_with r) = p r.kind

-- the turn begins a write batch
abbrev pub begins_writing : Settings → State → ℕ → Bool
begins_writing st s told = begins is_write (chosen st s told)

-- the turn begins a read batch while a free write waits
abbrev pub passes_writes_over : Settings → State → ℕ → Bool
passes_writes_over st s told = begins is_read (chosen st s told) && some_of (free_runs Write s.waiting)

-- how many turns of a list of events do what is asked
abbrev pub how_many : (Settings → State → ℕ → Bool) → Settings → State → List Event → ℕ
how_many p st s [] = 0
how_many p st s (submit tag kind first count told ∷ es) = how_many p st (submitted st s tag kind first count told) es
how_many p st s (turn told ∷ es) = let rest = how_many p st (turned st s told) es in cond (p st s told) (suc rest) rest
how_many p st s (collect tag ∷ es) = how_many p st s es

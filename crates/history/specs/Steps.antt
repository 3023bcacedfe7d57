-- Each call of a history is one step of a device's meaning.
use Rattle.std.specs.Prelude.{◌≡◌, List, [], ◌∷◌, length}
use Rattle.device.specs.Meaning.{Meaning}
use Rattle.device.specs.Told.{Told, submit, turn, collect}
use Rattle.device.specs.Submit.{submitted, submit_answer}
use Rattle.device.specs.Collect.{collected, collect_answer, buffer_after}
use Rattle.device.specs.Turns.{Turned}

-- one call does what the interface says
abbrev pub Sent : Meaning → Told → Meaning → Type 0
Sent m (submit q d k r) m' = (r ≡ submit_answer m q (length d)) × (m' ≡ submitted m q d)
Sent m (turn k n) m' = Turned m m' n
Sent m (collect t g r b) m' = (r ≡ collect_answer m t (length g)) × (b ≡ buffer_after m t g) × (m' ≡ collected m t (length g))

-- and so does each call of a list, one after the other
pub data Ran : Meaning → List Told → Meaning → Type 0 where
  still : {m : Meaning} → Ran m [] m
  next : {m m₁ m₂ : Meaning} {e : Told} {es : List Told} → Sent m e m₁ → Ran m₁ es m₂ → Ran m (e ∷ es) m₂

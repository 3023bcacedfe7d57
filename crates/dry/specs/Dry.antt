-- A device that is turned until nothing waits there.
use Rattle.std.specs.Prelude.{◌≡◌, ℕ, ◌+◌, min}
use Rattle.device.specs.Meaning.{Meaning}
use Rattle.device.specs.Told.{Told, turn}
use Rattle.device.specs.Turns.{Turned, waiting, most_ticks}

-- turns one after the other, each told the tick, with the sum of what they answered
pub data Turning {D : Type 0} (meaning : D → Meaning) (does : D → Told → D → Type 0) (tick : ℕ) : D → D → ℕ → Type 0 where
  none : {d : D} → Turning meaning does tick d d 0
  more : {d d₁ d₂ : D} {sum t : ℕ} → Turning meaning does tick d d₁ sum → Turned (meaning d₁) (meaning d₂) t → does d₁ (turn tick t) d₂ → Turning meaning does tick d d₂ (sum + t)

-- turned until nothing waits; the answer is the sum, at most 60,000
pub record Dry {D : Type 0} (meaning : D → Meaning) (does : D → Told → D → Type 0) (tick : ℕ) (d d' : D) (ticks : ℕ) : Type 0 where
  pub sum : ℕ
  pub turned : Turning meaning does tick d d' sum
  pub answer : ticks ≡ min sum most_ticks
  pub done : waiting (meaning d').tickets ≡ 0

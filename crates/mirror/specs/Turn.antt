-- What a call of a mirror does beyond its meaning: a submit and a collect are one of each side, a turn runs both sides dry, and a
-- shut mirror calls neither.
use Rattle.std.specs.Prelude.{◌≡◌, ℕ, max, Bool, true, false, List, Ok, Err, Result}
use Rattle.device.specs.declared.interface.Refusal.{Refusal}
use Rattle.device.specs.Meaning.{Meaning}
use Rattle.device.specs.Told.{Told, submit, turn, collect}
use Rattle.dry.specs.Dry.{Dry}

module _ {L R : Type 0} (left_means : L → Meaning) (left_does : L → Told → L → Type 0) (right_means : R → Meaning) (right_does : R → Told → R → Type 0) where
  -- both sides run dry; the answer is the larger of the two sums, each at most 60,000
  pub record Sides (tick : ℕ) (x x' : L) (y y' : R) (ticks : ℕ) : Type 0 where
    pub left_ticks : ℕ
    pub right_ticks : ℕ
    pub left : Dry left_means left_does tick x x' left_ticks
    pub right : Dry right_means right_does tick y y' right_ticks
    pub answer : ticks ≡ max left_ticks right_ticks

  -- the same call of both sides, with what each answered
  pub record BothSubmitted (e : Result (Unit {0}) Refusal → Told) (x x' : L) (y y' : R) : Type 0 where
    pub left_answer : Result (Unit {0}) Refusal
    pub right_answer : Result (Unit {0}) Refusal
    pub left : left_does x (e left_answer) x'
    pub right : right_does y (e right_answer) y'

  pub record BothCollected (tag : ℕ) (given : List ℕ) (x x' : L) (y y' : R) : Type 0 where
    pub left_answer : Result ℕ Refusal
    pub right_answer : Result ℕ Refusal
    pub left_buffer : List ℕ
    pub right_given : List ℕ
    pub right_buffer : List ℕ
    pub left : left_does x (collect tag given left_answer left_buffer) x'
    pub right : right_does y (collect tag right_given right_answer right_buffer) y'

  abbrev pub Acts : Bool → L → R → Told → L → R → Type 0
  Acts shut x y (submit q b k (Ok u)) x' y' = BothSubmitted (submit q b k) x x' y y'
  Acts shut x y (submit q b k (Err r)) x' y' = (x' ≡ x) × (y' ≡ y)
  Acts shut x y (turn k n) x' y' = (shut ≡ true → (x' ≡ x) × (y' ≡ y)) × (shut ≡ false → Sides k x x' y y' n)
  Acts shut x y (collect t g (Ok m) b) x' y' = BothCollected t g x x' y y'
  Acts shut x y (collect t g (Err r) b) x' y' = (x' ≡ x) × (y' ≡ y)

-- What a call of a gate does beyond its meaning.
use Rattle.std.specs.Prelude.{◌≡◌, Bool, true, false, Ok, Err}
use Rattle.device.specs.Told.{Told, submit, turn, collect}

-- a submit or a collect that is not refused
abbrev pub is_granted : Told → Bool
is_granted (submit q d k (Ok u)) = true
is_granted (submit q d k (Err r)) = false
is_granted (turn k n) = false
is_granted (collect t g (Ok m) b) = true
is_granted (collect t g (Err r) b) = false

-- below it is the same call where the gate is open, and none where it is shut; a shut gate grants nothing; and the gate stays as it is
pub record Passed {D : Type 0} (does : D → Told → D → Type 0) (shut : Bool) (d : D) (e : Told) (shut' : Bool) (d' : D) : Type 0 where
  pub same : shut' ≡ shut
  pub passes : shut ≡ false → does d e d'
  pub rests : shut ≡ true → d' ≡ d
  pub refuses : shut ≡ true → is_granted e ≡ false

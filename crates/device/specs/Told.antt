-- A call as it was told, with what it answered; of a collect also the buffer as it was given and as it was left.
use Rattle.std.specs.Prelude.{ℕ, List, Result}
use Rattle.device.specs.declared.interface.Request.{Request}
use Rattle.device.specs.declared.interface.Refusal.{Refusal}

pub data Told : Type 0 where
  -- request, data, tick, answer
  submit : Request → List ℕ → ℕ → Result (Unit {0}) Refusal → Told
  -- tick, ticks answered
  turn : ℕ → ℕ → Told
  -- tag, buffer given, answer, buffer left
  collect : ℕ → List ℕ → Result ℕ Refusal → List ℕ → Told

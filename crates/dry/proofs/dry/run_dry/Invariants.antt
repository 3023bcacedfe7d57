use Rattle.std.proofs.Common.{◌≡◌, ℕ, ◌+◌, ◌≤◌, min}
use Rattle.device.specs.Turns.{waiting}
use Rattle.dry.specs.Dry.{Turning}
use Rattle.dry.proofs.dry.run_dry.Given as goal

abbrev pub invariant-loop : goal.invariant-loop
invariant-loop g l =
    g.D.Device.kept l.initial.device →
    g.D.Device.kept l.device
    × (waiting (g.D.Device.meaning l.device).tickets + l.counter ≤ l.end)
    × ((sum : ℕ) × (Turning g.D.Device.meaning g.D.Device.does l.tick l.initial.device l.device sum) × (l.ticks ≡ min sum 60000))

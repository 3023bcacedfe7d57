use Rattle.std.proofs.Common.{true, sym, refl, subst}
use Rattle.device.specs.Turns.{Turned}
use Rattle.device.proofs.TurnFacts.{idle_turned}
use Rattle.gate.specs.Means.{gated}
use Rattle.gate.proofs.calls.turn.Goals as goal

pub returns-then-shut-clause-turns : goal.returns-then-shut-clause-turns
returns-then-shut-clause-turns g c = λ _.
    let m = g.D.Device.meaning c.args.lower.now in
    subst (λ b. Turned (gated b m) (gated b m) 0) (sym c.if-shut.true) (idle_turned (gated true m) refl refl)

use Rattle.std.proofs.Common.{◌+◌, refl, arith}
use Rattle.dry.specs.Dry.{Turning}
use Rattle.dry.proofs.DryFacts.{fewer, waiting_short}
use Rattle.dry.proofs.dry.run_dry.Goals as goal

pub loop-init : goal.loop-init
loop-init g c = λ k. (let o = c.open_tickets-end.ensures k in (k, omega (arith, o, waiting_short), (0, Turning.none, refl)))

pub loop-preserved : goal.loop-preserved
loop-preserved g c = λ k.
    let i = c.loop.invariant k in
    let b = c.turn.ensures.turns i.0 in (
      c.turn.ensures.keeps i.0,
      fewer b i.1 c.loop-test.true,
      (i.2.0 + c.turn.result, Turning.more i.2.1 b (c.turn.ensures.did i.0), omega arith),
    )

use Rattle.stacks.proofs.Raising.{turn_raised}
use Rattle.stacks.proofs.examples.RaisedDevice.turn.Goals as goal

pub returns-clause-turns : goal.returns-clause-turns
returns-clause-turns g c = λ k. turn_raised c.args.self.now.height _ _ c.turn.result (c.turn.ensures.turns k)

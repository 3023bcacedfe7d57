use Rattle.offset.proofs.OffsetCalls.{turn_within, turn_over}
use Rattle.offset.proofs.as_device.OffsetDevice.turn.Goals as goal

pub returns-clause-keeps : goal.returns-clause-keeps
returns-clause-keeps g c = λ k.
    let d = c.args.self.now in
    (c.turn.ensures.keeps k.0, turn_within d.base d.most _ _ c.turn.result (c.turn.ensures.turns k.0) k.1)

pub returns-clause-turns : goal.returns-clause-turns
returns-clause-turns g c = λ k.
    let d = c.args.self.now in
    turn_over d.base d.most _ _ c.turn.result (c.turn.ensures.turns k.0) k.1

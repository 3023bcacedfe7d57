use Rattle.std.proofs.Common.{sym, ◌∙◌}
use Rattle.offset.proofs.OffsetCalls.{state_shifted}
use Rattle.offset.proofs.as_device.OffsetDevice.state.Goals as goal

pub returns : goal.returns
returns g c = λ k. c.state.ensures k.0 ∙ sym (state_shifted c.args.self.now.base c.args.tag _)

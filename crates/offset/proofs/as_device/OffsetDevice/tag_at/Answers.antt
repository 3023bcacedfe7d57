use Rattle.std.proofs.Common.{sym, ◌∙◌}
use Rattle.offset.proofs.OffsetCalls.{tag_at_shifted}
use Rattle.offset.proofs.as_device.OffsetDevice.tag_at.Goals as goal

pub returns : goal.returns
returns g c = λ k. c.tag_at.ensures k.0 ∙ sym (tag_at_shifted c.args.self.now.base c.args.i _)

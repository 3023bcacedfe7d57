use Rattle.std.proofs.Common.{sym, ◌∙◌}
use Rattle.offset.proofs.OffsetCalls.{count_shifted}
use Rattle.offset.proofs.as_device.OffsetDevice.byte_count.Goals as goal

pub returns : goal.returns
returns g c = λ k. c.byte_count.ensures k.0 ∙ sym (count_shifted c.args.self.now.base c.args.tag _)

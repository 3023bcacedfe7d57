use Rattle.std.proofs.Common.{◌∙◌}
use Rattle.tickets.proofs.KeptCalls.{count_kept}
use Rattle.drive.specs.SoundFacts.{kept_of}
use Rattle.drive.proofs.as_device.DriveDevice.byte_count.Goals as goal

pub returns : goal.returns
returns c = λ _. c.byte_count.ensures ∙ count_kept (kept_of c.args.self.now) c.args.tag

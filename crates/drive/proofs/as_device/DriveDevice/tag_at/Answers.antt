use Rattle.std.proofs.Common.{◌∙◌}
use Rattle.tickets.proofs.KeptCalls.{tag_kept}
use Rattle.drive.specs.SoundFacts.{kept_of}
use Rattle.drive.proofs.as_device.DriveDevice.tag_at.Goals as goal

pub returns : goal.returns
returns c = λ _. c.tag_at.ensures ∙ tag_kept (kept_of c.args.self.now) c.args.i

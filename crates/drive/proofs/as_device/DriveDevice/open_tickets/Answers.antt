use Rattle.std.proofs.Common.{◌∙◌}
use Rattle.tickets.proofs.KeptCalls.{length_kept}
use Rattle.drive.specs.SoundFacts.{kept_of}
use Rattle.drive.proofs.as_device.DriveDevice.open_tickets.Goals as goal

pub returns : goal.returns
returns c = λ _. c.open_tickets.ensures ∙ length_kept (kept_of c.args.self.now)

use Rattle.std.proofs.Common.{◌∙◌}
use Rattle.tickets.proofs.KeptCalls.{state_kept}
use Rattle.drive.specs.SoundFacts.{kept_of}
use Rattle.drive.proofs.as_device.DriveDevice.state.Goals as goal

pub returns : goal.returns
returns c = λ _. c.state.ensures ∙ state_kept (kept_of c.args.self.now) c.args.tag

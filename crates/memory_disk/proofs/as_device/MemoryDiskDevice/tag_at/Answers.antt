use Rattle.std.proofs.Common.{◌∙◌}
use Rattle.tickets.proofs.KeptCalls.{tag_kept}
use Rattle.memory_disk.specs.SoundFacts.{kept_of}
use Rattle.memory_disk.proofs.as_device.MemoryDiskDevice.tag_at.Goals as goal

pub returns : goal.returns
returns c = λ _. c.tag_at.ensures ∙ tag_kept (kept_of c.args.self.now) c.args.i

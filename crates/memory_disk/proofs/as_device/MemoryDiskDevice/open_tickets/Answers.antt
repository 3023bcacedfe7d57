use Rattle.std.proofs.Common.{◌∙◌}
use Rattle.tickets.proofs.KeptCalls.{length_kept}
use Rattle.memory_disk.specs.SoundFacts.{kept_of}
use Rattle.memory_disk.proofs.as_device.MemoryDiskDevice.open_tickets.Goals as goal

pub returns : goal.returns
returns c = λ _. c.open_tickets.ensures ∙ length_kept (kept_of c.args.self.now)

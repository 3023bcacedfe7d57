use Rattle.std.proofs.Common.{◌∙◌}
use Rattle.tickets.proofs.KeptCalls.{count_kept}
use Rattle.memory_disk.specs.SoundFacts.{kept_of}
use Rattle.memory_disk.proofs.as_device.MemoryDiskDevice.byte_count.Goals as goal

pub returns : goal.returns
returns c = λ _. c.byte_count.ensures ∙ count_kept (kept_of c.args.self.now) c.args.tag

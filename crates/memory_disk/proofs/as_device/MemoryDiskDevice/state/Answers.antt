use Rattle.std.proofs.Common.{◌∙◌}
use Rattle.tickets.proofs.KeptCalls.{state_kept}
use Rattle.memory_disk.specs.SoundFacts.{kept_of}
use Rattle.memory_disk.proofs.as_device.MemoryDiskDevice.state.Goals as goal

pub returns : goal.returns
returns c = λ _. c.state.ensures ∙ state_kept (kept_of c.args.self.now) c.args.tag

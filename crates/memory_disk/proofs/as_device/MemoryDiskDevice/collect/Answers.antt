use Rattle.std.proofs.Common.{refl, ◌∙◌}
use Rattle.tickets.proofs.KeptCalls.{collects_kept}
use Rattle.memory_disk.specs.SoundFacts.{kept_of}
use Rattle.memory_disk.proofs.as_device.MemoryDiskDevice.collect.Goals as goal

pub returns : goal.returns
returns c =
    let e = c.collect.ensures in
    let k = collects_kept (kept_of c.args.self.now) c.args.tag c.args.buffer.now in
    record { keeps = λ k. k; answers = λ _. e.answers ∙ k.answers; hands = λ _. e.hands ∙ k.hands; leaves = λ _. rw (e.shape.size, e.shape.capacity, e.shape.named, e.places) k.leaves; did = λ _. refl }

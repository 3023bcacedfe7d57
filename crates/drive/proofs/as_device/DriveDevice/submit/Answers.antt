use Rattle.std.proofs.Common.{refl, ◌∙◌}
use Rattle.tickets.proofs.KeptCalls.{submits_kept}
use Rattle.drive.specs.SoundFacts.{kept_of}
use Rattle.drive.proofs.as_device.DriveDevice.submit.Goals as goal

pub returns : goal.returns
returns c =
    let e = c.submit.ensures in
    let k = submits_kept (kept_of c.args.self.now) c.args.request c.args.bytes.now in
    record { keeps = λ k. k; answers = λ _. e.answers ∙ k.answers; leaves = λ _. rw (e.shape.size, e.shape.capacity, e.shape.named, e.places) k.leaves; did = λ _. (refl, refl, refl) }

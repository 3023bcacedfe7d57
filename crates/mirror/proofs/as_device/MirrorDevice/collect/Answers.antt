use Rattle.std.proofs.Common.{◌∙◌}
use Rattle.gate.specs.Means.{gated}
use Rattle.mirror.specs.Means.{Level}
use Rattle.mirror.proofs.Collects.{BothCollect, collects}
use Rattle.mirror.proofs.as_device.MirrorDevice.collect.Goals.{After-collect-2}
use Rattle.mirror.proofs.as_device.MirrorDevice.collect.Goals as goal

collected : (g : _) (c : After-collect-2 g) → let d = c.args.self.now in let x = c.collect.new.lower in let y = c.collect-2.new.lower in
    (g.L.Device.kept d.left × g.R.Device.kept d.right × Level (gated d.shut (g.L.Device.meaning d.left)) (gated d.shut (g.R.Device.meaning d.right)))
    → BothCollect (gated d.shut (g.L.Device.meaning d.left)) (gated d.shut (g.R.Device.meaning d.right)) (gated d.shut (g.L.Device.meaning x)) (gated d.shut (g.R.Device.meaning y))
    c.args.tag c.args.buffer.now c.collect.new.buffer c.collect-2.new.buffer c.collect.result c.collect-2.result c.in_ok-n.n
collected g c k =
    let d = c.args.self.now in
    let e = c.collect.ensures in
    let f = c.collect-2.ensures in
    collects d.shut d.shut c.args.buffer.now _ (g.L.Device.sound d.left k.0) (g.R.Device.sound d.right k.1) k.2
    (c.bytes_due.ensures.answers k) c.map_err.ensures.cases c.in_ok-n.was (e.answers k.0) (e.hands k.0) (e.leaves k.0) (f.answers k.1) (f.hands k.1) (f.leaves k.1)

pub returns-clause-keeps : goal.returns-clause-keeps
returns-clause-keeps g c = λ k. (
  c.collect.ensures.keeps k.0,
  c.collect-2.ensures.keeps k.1,
  (collected g (goal.at.returns-clause-keeps g c).After-collect-2 k).level,
)

pub returns-clause-answers : goal.returns-clause-answers
returns-clause-answers g c = λ k. rw (c.mask_in-first.ensures, c.mask_in-second.ensures) (collected g (goal.at.returns-clause-answers g c).After-collect-2 k).answer

pub returns-clause-hands : goal.returns-clause-hands
returns-clause-hands g c = λ k. c.patch.ensures ∙ rw c.mask_in-first.ensures (collected g (goal.at.returns-clause-hands g c).After-collect-2 k).hands

pub returns-clause-leaves : goal.returns-clause-leaves
returns-clause-leaves g c = λ k. (collected g (goal.at.returns-clause-leaves g c).After-collect-2 k).leaves

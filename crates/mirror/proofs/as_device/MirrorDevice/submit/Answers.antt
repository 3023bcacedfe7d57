use Rattle.std.proofs.Common.{◌≡◌, false}
use Rattle.gate.specs.Means.{gated}
use Rattle.mirror.specs.Means.{Level}
use Rattle.mirror.proofs.Submits.{BothSubmit, submits}
use Rattle.mirror.proofs.as_device.MirrorDevice.submit.Goals.{After-submit-2}
use Rattle.mirror.proofs.as_device.MirrorDevice.submit.Goals as goal

sent : (g : _) (c : After-submit-2 g) → let d = c.args.self.now in let x = c.submit.new.lower in let y = c.submit-2.new.lower in
    (g.L.Device.kept d.left × g.R.Device.kept d.right × Level (gated d.shut (g.L.Device.meaning d.left)) (gated d.shut (g.R.Device.meaning d.right)))
    → BothSubmit (gated d.shut (g.L.Device.meaning d.left)) (gated d.shut (g.R.Device.meaning d.right)) (gated d.shut (g.L.Device.meaning x)) (gated d.shut (g.R.Device.meaning y))
    c.args.request c.args.bytes.now × (d.shut ≡ false)
sent g c k =
    let d = c.args.self.now in
    submits d.shut d.shut c.args.request c.args.bytes.now _ (g.L.Device.sound d.left k.0) (g.R.Device.sound d.right k.1) k.2
    (c.admit.ensures k) c.map_err.ensures.cases c.in_ok-map_err.was (c.submit.ensures.leaves k.0) (c.submit-2.ensures.leaves k.1)

pub returns-clause-keeps : goal.returns-clause-keeps
returns-clause-keeps g c = λ k. (
  c.submit.ensures.keeps k.0,
  c.submit-2.ensures.keeps k.1,
  (sent g (goal.at.returns-clause-keeps g c).After-submit-2 k).0.level,
)

pub returns-clause-leaves : goal.returns-clause-leaves
returns-clause-leaves g c = λ k. (sent g (goal.at.returns-clause-leaves g c).After-submit-2 k).0.leaves

pub returns-clause-did : goal.returns-clause-did
returns-clause-did g c = λ k.
    let o = (sent g (goal.at.returns-clause-did g c).After-submit-2 k).1 in
    record {
      left_answer = c.submit.result;
      right_answer = c.submit-2.result;
      left = (c.submit.ensures.did k.0).passes o;
      right = (c.submit-2.ensures.did k.1).passes o;
    }

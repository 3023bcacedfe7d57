use Rattle.std.proofs.Common.{length, rules, refl, sym, ap, ◌∙◌, subst, ap₂}
use Rattle.device.specs.declared.interface.Request.{Request}
use Rattle.device.specs.Layers.{layer_height}
use Rattle.device.specs.Submit.{form}
use Rattle.gate.specs.Means.{gated}
use Rattle.gate.specs.Turn.{Passed}
use Rattle.offset.specs.Means.{Within, over}
use Rattle.offset.proofs.OffsetCalls.{acted, at_height, mapped, passed, Submits, submits, height_submitted}
use Rattle.offset.proofs.as_device.OffsetDevice.submit.Goals.{After-submit}
use Rattle.offset.proofs.as_device.OffsetDevice.submit.Goals as goal

sent : (g : _) (c : After-submit g)
    → g.D.Device.kept c.args.self.now.lower × Within c.args.self.now.base c.args.self.now.most (gated c.args.self.now.shut (g.D.Device.meaning c.args.self.now.lower))
    → Submits c.args.self.now.base c.args.self.now.most
    (gated c.args.self.now.shut (g.D.Device.meaning c.args.self.now.lower)) c.args.request
    (record { tag = c.args.request.tag; kind = c.args.request.kind; first = c.lowered-first.result; count = c.args.request.count }) c.args.bytes.now
sent g c k =
    let d = c.args.self.now in
    let q = c.args.request in
    submits d.base d.most (gated d.shut (g.D.Device.meaning d.lower)) q c.args.bytes.now c.in_ok-kind.kind
    (ap (λ z. form z q (length c.args.bytes.now)) (sym (c.size.ensures k)) ∙ (sym c.examine.ensures ∙ passed _ c.examine.result c.map_err.result c.in_ok-kind.kind c.map_err.ensures.cases c.in_ok-kind.was))
    c.lowered-first.result (g.D.Device.sound d.lower k.0).size c.lowered-first.ensures

pub returns-clause-keeps : goal.returns-clause-keeps
returns-clause-keeps g c = λ k.
    let d = c.args.self.now in
    (c.submit.ensures.keeps k.0, subst (Within d.base d.most) (sym (c.submit.ensures.leaves k.0)) ((sent g (goal.at.returns-clause-keeps g c).After-submit k).within k.1))

pub returns-clause-answers : goal.returns-clause-answers
returns-clause-answers g c = λ k.
    let d = c.args.self.now in
    let d' = c.submit.new.lower in
    let q = c.args.request in
    let m = gated d.shut (g.D.Device.meaning d.lower) in
    let m' = gated d.shut (g.D.Device.meaning d') in
    let low : Request = record { tag = q.tag; kind = q.kind; first = c.lowered-first.result; count = q.count } in
    let after : g.D.Device.kept d' × Within d.base d.most m' = (c.submit.ensures.keeps k.0, subst (Within d.base d.most) (sym (c.submit.ensures.leaves k.0)) ((sent g (goal.at.returns-clause-answers g c).After-submit k).within k.1)) in
    let h = height_submitted m m' low c.args.bytes.now (c.submit.ensures.leaves k.0) in
    mapped _ (layer_height m'.height) c.submit.result c.map_err-2.result c.map_err-2.ensures.cases (λ f y s. search (rules, after))
    ∙ (ap₂ at_height (ap layer_height h) (c.submit.ensures.answers k.0) ∙ (sent g (goal.at.returns-clause-answers g c).After-submit k).answers)

pub returns-clause-leaves : goal.returns-clause-leaves
returns-clause-leaves g c = λ k.
    let d = c.args.self.now in
    ap (over d.base d.most) (c.submit.ensures.leaves k.0) ∙ (sent g (goal.at.returns-clause-leaves g c).After-submit k).leaves

pub returns-clause-did : goal.returns-clause-did
returns-clause-did g c = λ k.
    let d = c.args.self.now in (
      refl,
      acted d.base (λ l. gated d.shut (g.D.Device.meaning l)) (λ l e x. Passed g.D.Device.does d.shut l e d.shut x) d.lower c.submit.new.lower c.args.request _ c.args.bytes.now c.args.tick (sent g (goal.at.returns-clause-did g c).After-submit k).sent
          _ c.submit.result c.map_err-2.result c.map_err-2.ensures.cases (c.submit.ensures.did k.0),
    )

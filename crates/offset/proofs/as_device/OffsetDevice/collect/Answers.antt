use Rattle.std.proofs.Common.{length, rules, sym, ap, ◌∙◌, subst, ap₂}
use Rattle.device.specs.Layers.{layer_height}
use Rattle.gate.specs.Means.{gated}
use Rattle.offset.specs.Means.{Within, over}
use Rattle.offset.proofs.OffsetCalls.{at_height, mapped, collect_answers, collect_hands, collect_leaves, collect_within, height_collected}
use Rattle.offset.proofs.as_device.OffsetDevice.collect.Goals as goal

pub returns-clause-keeps : goal.returns-clause-keeps
returns-clause-keeps g c = λ k.
    let d = c.args.self.now in
    let e = c.collect.ensures in
    (e.keeps k.0, subst (Within d.base d.most) (sym (e.leaves k.0)) (collect_within d.base d.most _ c.args.tag (length c.args.buffer.now) k.1))

pub returns-clause-answers : goal.returns-clause-answers
returns-clause-answers g c = λ k.
    let d = c.args.self.now in
    let d' = c.collect.new.lower in
    let m = gated d.shut (g.D.Device.meaning d.lower) in
    let m' = gated d.shut (g.D.Device.meaning d') in
    let after : g.D.Device.kept d' × Within d.base d.most m' = (c.collect.ensures.keeps k.0, subst (Within d.base d.most) (sym (c.collect.ensures.leaves k.0)) (collect_within d.base d.most _ c.args.tag (length c.args.buffer.now) k.1)) in
    let h = height_collected m m' c.args.tag (length c.args.buffer.now) (c.collect.ensures.leaves k.0) in
    mapped _ (layer_height m'.height) c.collect.result c.map_err.result c.map_err.ensures.cases (λ f y s. search (rules, after))
    ∙ (ap₂ at_height (ap layer_height h) (c.collect.ensures.answers k.0) ∙ collect_answers d.base d.most _ c.args.tag (length c.args.buffer.now))

pub returns-clause-hands : goal.returns-clause-hands
returns-clause-hands g c = λ k.
    let d = c.args.self.now in
    c.collect.ensures.hands k.0 ∙ collect_hands d.base d.most (gated d.shut (g.D.Device.meaning d.lower)) c.args.tag c.args.buffer.now

pub returns-clause-leaves : goal.returns-clause-leaves
returns-clause-leaves g c = λ k.
    let d = c.args.self.now in
    ap (over d.base d.most) (c.collect.ensures.leaves k.0) ∙ collect_leaves d.base d.most _ c.args.tag (length c.args.buffer.now)

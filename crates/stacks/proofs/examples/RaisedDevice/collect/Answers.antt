use Rattle.std.proofs.Common.{length, ap, ◌∙◌, rules}
use Rattle.offset.proofs.OffsetCalls.{at_height, mapped}
use Rattle.stacks.specs.Tall.{raised}
use Rattle.stacks.proofs.Raising.{collect_answers, collect_leaves}
use Rattle.stacks.proofs.examples.RaisedDevice.collect.Goals as goal

pub returns-clause-answers : goal.returns-clause-answers
returns-clause-answers g c = λ k.
    let d = c.args.self.now in
    mapped _ d.height c.collect.result c.map_err.result c.map_err.ensures.cases (λ f y s. search rules)
    ∙ (ap (at_height d.height) (c.collect.ensures.answers k) ∙ collect_answers d.height (g.D.Device.meaning d.lower) c.args.tag (length c.args.buffer.now))

pub returns-clause-leaves : goal.returns-clause-leaves
returns-clause-leaves g c = λ k.
    let d = c.args.self.now in
    ap (raised d.height) (c.collect.ensures.leaves k) ∙ collect_leaves d.height (g.D.Device.meaning d.lower) c.args.tag (length c.args.buffer.now)

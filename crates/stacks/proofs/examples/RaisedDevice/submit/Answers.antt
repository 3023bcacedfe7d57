use Rattle.std.proofs.Common.{length, ap, ◌∙◌, rules}
use Rattle.offset.proofs.OffsetCalls.{at_height, mapped}
use Rattle.stacks.specs.Tall.{raised}
use Rattle.stacks.proofs.Raising.{submit_answers, submit_leaves}
use Rattle.stacks.proofs.examples.RaisedDevice.submit.Goals as goal

pub returns-clause-answers : goal.returns-clause-answers
returns-clause-answers g c = λ k.
    let d = c.args.self.now in
    mapped _ d.height c.submit.result c.map_err.result c.map_err.ensures.cases (λ f y s. search rules)
    ∙ (ap (at_height d.height) (c.submit.ensures.answers k) ∙ submit_answers d.height (g.D.Device.meaning d.lower) c.args.request (length c.args.bytes.now))

pub returns-clause-leaves : goal.returns-clause-leaves
returns-clause-leaves g c = λ k.
    let d = c.args.self.now in
    ap (raised d.height) (c.submit.ensures.leaves k) ∙ submit_leaves d.height (g.D.Device.meaning d.lower) c.args.request c.args.bytes.now

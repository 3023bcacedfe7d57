use Rattle.std.proofs.Common.{Ok, length, sym, ap, ◌∙◌, arith, rules}
use Rattle.device.proofs.Lookup.{stands}
use Rattle.tickets.specs.Front.{rest_as}
use Rattle.tickets.specs.Open.{places_of, Due}
use Rattle.tickets.specs.Places.{by_tag}
use Rattle.tickets.proofs.Stands.{stands_less}
use Rattle.tickets.proofs.FrontFacts.{answer_fits, less_keeps, front_keeps}
use Rattle.tickets.proofs.front.Front.collect.Goals as goal

pub invariant_of-self : goal.invariant_of-self
invariant_of-self c =
    let s = c.args.self.now in
    let t = c.args.tag in
    let due : Due s t (length c.args.buffer.now) (Ok c.in_ok-i.i) = search rules in
    let at = stands by_tag t c.in_ok-i.i (places_of s) due.0 in
    let kept = less_keeps s t c.in_ok-i.i at in
    front_keeps s c.remove-done.new.self kept (c.remove-done.ensures.items ∙ stands_less at) (omega (arith, c.remove-done.ensures.capacity, s.room))

pub returns-clause-places : goal.returns-clause-places
returns-clause-places c =
    let s = c.args.self.now in
    let t = c.args.tag in
    let due : Due s t (length c.args.buffer.now) (Ok c.in_ok-i.i) = search rules in
    c.remove-done.ensures.items ∙ (stands_less (stands by_tag t c.in_ok-i.i (places_of s) due.0) ∙ sym (ap (λ r. rest_as r t (places_of s)) due.1))

pub hand_over-requires-clause-fits : goal.hand_over-requires-clause-fits
hand_over-requires-clause-fits c =
    let s = c.args.self.now in
    let room = length c.args.buffer.now in
    let due : Due s c.args.tag room (Ok c.in_ok-i.i) = search rules in
    omega (arith, answer_fits s c.args.tag c.in_ok-i.i room c.index.result.now due c.index.ensures)

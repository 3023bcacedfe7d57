use Rattle.std.proofs.Common.{◌≡◌, rules, arith}
use Rattle.std.proofs.lemmas.Fn.{filter_same}
use Rattle.deadline.specs.Turn.{without}
use Rattle.scheduler.proofs.Removing.{bounded_without}
use Rattle.scheduler.proofs.waiting.Waiting.take_out.Goals as goal

pub returns : goal.returns
returns c = filter_same _ _ _ (λ x b f k. search rules) _ _ c.retain.ensures.filtered

pub invariant_of-self : goal.invariant_of-self
invariant_of-self c =
    let e : c.retain.new.self.items ≡ without c.args.run c.args.self.now.tickets.items = filter_same _ _ _ (λ x b f k. search rules) _ _ c.retain.ensures.filtered in
    record {
      bounded = rw e (bounded_without c.args.run _ c.args.self.now.bounded);
      reserved = omega (arith, c.retain.ensures.capacity, c.args.self.now.reserved);
    }

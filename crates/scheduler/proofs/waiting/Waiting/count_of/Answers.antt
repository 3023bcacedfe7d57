use Rattle.std.proofs.Common.{rules, tests}
use Rattle.std.proofs.lemmas.Iterator.{YieldsList-from_map, YieldsList-from_slice}
use Rattle.std.proofs.lemmas.Iterator.Consumers.{YieldsList-at, YieldsList-from_filter, fits_from_yields_list}
use Rattle.deadline.specs.declared.dispatch.Queued.{Queued}
use Rattle.deadline.specs.Waiting.{is_in}
use Rattle.scheduler.proofs.Chains.{sum_fits}
use Rattle.scheduler.proofs.waiting.Waiting.count_of.Goals as goal

pub sum-requires-clause-fits : goal.sum-requires-clause-fits
sum-requires-clause-fits c =
    let ws = c.args.self.now.tickets.items in
    fits_from_yields_list c.map.result _
    (YieldsList-from_map _ (λ (x : Queued). x.count)
    (YieldsList-at c.map.ensures.source
    (YieldsList-from_filter _ (is_in c.args.run) (YieldsList-from_slice ws cc) c.filter.ensures.closure (λ x r q k. search (rules, tests))))
    c.map.ensures.closure (λ x r q k. search (rules, tests)))
    (sum_fits c.args.run ws c.args.self.now.bounded)

use Rattle.std.proofs.Common.{leb, ap, ◌∙◌, rules, tests}
use Rattle.std.specs.List.{reduce}
use Rattle.std.proofs.lemmas.Iterator.{YieldsList-from_map, YieldsList-from_slice}
use Rattle.std.proofs.lemmas.Iterator.Consumers.{YieldsList-at, YieldsList-from_filter}
use Rattle.deadline.specs.declared.dispatch.Run.{Run}
use Rattle.deadline.specs.Waiting.{those, run_of, free_runs}
use Rattle.scheduler.specs.Found.{heads_free}
use Rattle.scheduler.proofs.Heads.{lower_run, lowest_by, lowest_is, free_runs_are}
use Rattle.scheduler.proofs.waiting.Waiting.lowest.Goals as goal

pub returns : goal.returns
returns c =
    let ws = c.args.self.now.tickets.items in
    let is_past = λ (r : Run). leb c.args.position r.begins in
    lowest_by _ _ (λ r n f k. search (rules, tests)) _ _ _ _ c.min_by_key.ensures.ran
    (YieldsList-from_filter _ is_past
    (YieldsList-at c.filter-2.ensures.source
    (YieldsList-from_map _ (run_of ws)
    (YieldsList-at c.map.ensures.source
    (YieldsList-from_filter _ (heads_free c.args.kind ws) (YieldsList-from_slice ws cc) c.filter.ensures.closure (λ x r q k. search (rules, tests))))
    c.map.ensures.closure (λ x r q k. search (rules, tests))))
    c.filter-2.ensures.closure (λ x r q k. search (rules, tests))) ∙
    ap (λ rs. reduce lower_run (those is_past rs)) (free_runs_are c.args.kind ws) ∙ lowest_is c.args.position (free_runs c.args.kind ws)

use Rattle.std.proofs.Common.{ap, sym, ◌∙◌, rules, tests}
use Rattle.std.specs.List.{find}
use Rattle.std.proofs.lemmas.Iterator.{YieldsList-from_slice}
use Rattle.std.proofs.lemmas.Iterator.Consumers.{YieldsList-from_filter_map}
use Rattle.std.proofs.lemmas.Iterator.Search.{find_from_yields_List}
use Rattle.std.proofs.lemmas.Iterator.Adapters.{option_map_id}
use Rattle.scheduler.specs.Found.{run_at}
use Rattle.scheduler.proofs.Heads.{runs_is, first_is}
use Rattle.scheduler.proofs.waiting.Waiting.first_run.Goals as goal

pub returns : goal.returns
returns g c = λ p h.
    let ws = c.args.self.now.tickets.items in
    sym (option_map_id c.find.result) ∙
    find_from_yields_List p _ _ c.find.result c.find.ensures.ran
    (YieldsList-from_filter_map _ (run_at ws) (YieldsList-from_slice ws cc) c.filter_map.ensures.closure (λ x r q k. search (rules, tests))) h ∙
    ap (find p) (runs_is ws) ∙ first_is p _

use Rattle.std.proofs.Common.{sym, ◌∙◌, rules, tests}
use Rattle.std.proofs.lemmas.Iterator.{YieldsList-from_slice}
use Rattle.std.proofs.lemmas.Iterator.Search.{any_from_yields_List}
use Rattle.scheduler.specs.Found.{heads_free}
use Rattle.scheduler.proofs.Heads.{some_free_is}
use Rattle.scheduler.proofs.waiting.Waiting.has_free.Goals as goal

pub returns : goal.returns
returns c =
    let ws = c.args.self.now.tickets.items in
    any_from_yields_List (heads_free c.args.kind ws) _ _ c.any.result c.any.ensures.ran (YieldsList-from_slice ws cc) (λ x b q k. search (rules, tests)) ∙
    sym (some_free_is c.args.kind ws)

use Rattle.std.proofs.Common.{◌≡◌, Some, None, sym, ap, ◌∙◌, rules, tests}
use Rattle.std.specs.Option.{MatchOption, option_map}
use Rattle.std.proofs.lemmas.Iterator.{YieldsList-from_slice}
use Rattle.std.proofs.lemmas.Iterator.Search.{find_from_yields_List}
use Rattle.deadline.specs.Waiting.{run_of}
use Rattle.scheduler.specs.Found.{heads_free}
use Rattle.scheduler.proofs.Heads.{oldest_is, taken}
use Rattle.scheduler.proofs.waiting.Waiting.oldest.Goals as goal

pub returns : goal.returns
returns c =
    let ws = c.args.self.now.tickets.items in
    let first = find_from_yields_List (heads_free c.args.kind ws) _ _ c.find.result c.find.ensures.ran (YieldsList-from_slice ws cc) (λ x b q k. search (rules, tests)) in
    let made : MatchOption c.find.result (c.map.result ≡ None) (λ x. c.map.result ≡ Some (run_of ws x.now)) = search (rules, tests) in
    taken ws c.find.result c.map.result made ∙ (ap (option_map (run_of ws)) first ∙ sym (oldest_is c.args.kind ws))

use Rattle.std.proofs.Common.{◌∙◌, eqb, rules, tests}
use Rattle.std.proofs.lemmas.Iterator.Consumers.{YieldsList-from_deque}
use Rattle.std.proofs.lemmas.Iterator.Adapters.{position_from-zero}
use Rattle.std.proofs.lemmas.Iterator.Search.{position_from_yields_List}
use Rattle.tickets.proofs.Search.{index_is}
use Rattle.drive.specs.Buffer.{by_sector}
use Rattle.drive.proofs.buffer.Buffer.find.Goals as goal

pub returns : goal.returns
returns c =
    let es = c.args.self.now.entries.items in
    position_from_yields_List (λ e. eqb c.args.sector e.sector) _ _ _ c.position.ensures.ran (YieldsList-from_deque es cc) (λ x b q k. search (rules, tests))
    ∙ (position_from-zero (λ e. eqb c.args.sector e.sector) es ∙ index_is by_sector c.args.sector 0 es)

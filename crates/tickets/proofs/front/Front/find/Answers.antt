use Rattle.std.proofs.Common.{◌∙◌, eqb, rules, tests}
use Rattle.std.proofs.lemmas.Iterator.{YieldsList-from_slice}
use Rattle.std.proofs.lemmas.Iterator.Adapters.{position_from-zero}
use Rattle.std.proofs.lemmas.Iterator.Search.{position_from_yields_List}
use Rattle.tickets.specs.Open.{places_of}
use Rattle.tickets.specs.Places.{by_tag}
use Rattle.tickets.proofs.Search.{index_is}
use Rattle.tickets.proofs.front.Front.find.Goals as goal

pub returns : goal.returns
returns c =
    let ps = places_of c.args.self.now in
    position_from_yields_List (λ p. eqb c.args.tag p.tag) _ _ _ c.position.ensures.ran (YieldsList-from_slice ps cc) (λ x b q k. search (rules, tests))
    ∙ (position_from-zero (λ p. eqb c.args.tag p.tag) ps ∙ index_is by_tag c.args.tag 0 ps)

use Rattle.std.proofs.Common.{rules, ◌≡◌, IfOk, List, map, vec_items, ◌∙◌, arith}
use Rattle.std.specs.List.{filter_map, range_with_len}
use Rattle.std.proofs.lemmas.Iterator.{items_from_collect, YieldsList-from_map, YieldsList-from_range}
use Rattle.std.proofs.lemmas.Iterator.Consumers.{YieldsList-at, YieldsList-from_filter_map}
use Rattle.std.proofs.lemmas.Result.{IfOk-weaker}
use Rattle.device.specs.Questions.{tag_at, state_of}
use Rattle.history.specs.declared.call.OpenTicket.{OpenTicket}
use Rattle.history.specs.Questions.{open_list}
use Rattle.history.proofs.OpenFacts.{open_asked}
use Rattle.history.proofs.open.open_list.Goals as goal

pub returns : goal.returns
returns g c = λ k.
    let ts = (g.D.Device.meaning c.args.device.now).tickets in
    let n = c.open_tickets.result in
    let asked : List OpenTicket = map (λ t. record { tag = t; state = state_of t ts }) (filter_map (λ i. tag_at i ts) (range_with_len 0 n)) in
    let r : IfOk c.collect.result (λ v. vec_items v ≡ asked) = items_from_collect _ c.collect.ensures.ran
    (YieldsList-from_map _ (λ t. record { tag = t; state = state_of t ts })
    (YieldsList-at c.map.ensures.source
    (YieldsList-from_filter_map _ (λ i. tag_at i ts) (YieldsList-from_range 0 n n c.filter_map.ensures.source (omega arith)) c.filter_map.ensures.closure (λ x r q s. search (rules, k))))
    c.map.ensures.closure (λ x r q s. search (rules, k))) in
    IfOk-weaker c.collect.result (λ v. vec_items v ≡ asked) (λ v. vec_items v ≡ open_list ts) (λ v e. e ∙ open_asked ts n (g.D.Device.sound c.args.device.now k).tags (c.open_tickets.ensures k)) r

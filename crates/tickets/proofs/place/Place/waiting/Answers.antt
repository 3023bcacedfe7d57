use Rattle.std.proofs.Common.{◌≡◌, ◌++◌, ℕ, List, min, length, take, drop, sym, ap, ◌∙◌}
use Rattle.std.proofs.lemmas.List.{length-take, take_min}
use Rattle.tickets.specs.Fresh.{placed}
use Rattle.tickets.proofs.place.Place.waiting.Goals as goal

-- as many of the bytes as fit, counted either way
joined : (given xs base : List ℕ) (n : ℕ) → n ≡ min 1024 (length given) → xs ≡ take n given → xs ++ drop n base ≡ take 1024 given ++ drop (length (take 1024 given)) base
joined given xs base n e x =
    ap (λ y. y ++ drop n base) (x ∙ (ap (λ w. take w given) e ∙ take_min 1024 given))
    ∙ ap (λ w. take 1024 given ++ drop w base) (e ∙ sym (length-take 1024 given))

pub returns : goal.returns
returns c = ap (placed c.args.request c.args.kind c.args.mask) (joined c.args.given.now c.copy_from_slice.new.self _ c.min-n.result c.min-n.ensures c.copy_from_slice.ensures.after)

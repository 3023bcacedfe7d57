use Rattle.std.proofs.Common.{[], ◌∷◌, ◌++◌, length, ap, ◌∙◌, arith}
use Rattle.tickets.specs.Open.{places_of}
use Rattle.tickets.proofs.FrontFacts.{Admitted, admitted_place, room_left, add_keeps, front_keeps}
use Rattle.tickets.proofs.front.Front.add.Goals as goal
use Rattle.tickets.proofs.front.Front.add.Goals.{After-waiting-place}

-- the place that is pushed is one of an admitted request
adds : (c : After-waiting-place) → Admitted c.args.self.now c.args.request c.args.bytes.now c.waiting-place.result
adds c =
    let s = c.args.self.now in
    record {
      kind = c.args.kind;
      ok = c.requires;
      made = c.waiting-place.ensures ∙ admitted_place s c.args.request c.args.bytes.now c.args.kind c.mask-mask.result c.requires c.mask-mask.ensures;
    }

pub push_reserved-requires : goal.push_reserved-requires
push_reserved-requires c =
    let s = c.args.self.now in
    omega (arith, room_left s c.args.request (length c.args.bytes.now) c.args.kind c.requires, s.places.ok.0, s.room)

pub invariant_of-self : goal.invariant_of-self
invariant_of-self c =
    let s = c.args.self.now in
    let kept = add_keeps s c.args.request c.args.bytes.now c.waiting-place.result (adds (goal.at.invariant_of-self c).After-waiting-place) in
    front_keeps s c.push_reserved.new.self kept c.push_reserved.ensures.items (omega (arith, c.push_reserved.ensures.capacity, s.room))

pub returns-clause-places : goal.returns-clause-places
unfolding adds
returns-clause-places c =
    let s = c.args.self.now in
    c.push_reserved.ensures.items ∙ ap (λ p. places_of s ++ p ∷ []) (adds (goal.at.returns-clause-places c).After-waiting-place).made

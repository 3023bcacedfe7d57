use Rattle.std.proofs.Common.{◌≡◌, ◌<◌, ◌≤◌, Some, None, Ok, Err, ap, ◌∙◌, arith, rules}
use Rattle.std.proofs.lemmas.List.{get_or_default}
use Rattle.device.specs.declared.interface.Cause.TheVariants as causes
use Rattle.device.proofs.Lookup.{stands, stands_within}
use Rattle.tickets.specs.Meant.{place_of}
use Rattle.tickets.specs.Front.{blank, byte_room, due_place}
use Rattle.tickets.specs.Open.{places_of}
use Rattle.tickets.specs.Places.{by_tag, index_of}
use Rattle.tickets.proofs.Stands.{absent_place}
use Rattle.tickets.proofs.FrontFacts.{lent_place, due_waits, due_shorts, due_there}
use Rattle.tickets.proofs.front.Front.due.Goals as goal

pub returns-in_err-i : goal.returns-in_err-i
returns-in_err-i c =
    let ps = places_of c.args.self.now in
    let none : index_of c.args.tag ps ≡ None = search rules in
    let refused : c.from_residual.result ≡ Err causes.NotOpen = search rules in
    rw refused (ap (λ o. due_place o c.args.room) (absent_place c.args.tag ps none))

pub index-place-requires : goal.index-place-requires
index-place-requires c =
    let ps = places_of c.args.self.now in
    let there : index_of c.args.tag ps ≡ Some c.in_ok-i.i = search rules in
    omega (arith, stands_within by_tag (stands by_tag c.args.tag c.in_ok-i.i ps there), c.args.self.now.places.ok.0)

pub returns-then-not-place : goal.returns-then-not-place
returns-then-not-place c =
    let ps = places_of c.args.self.now in
    let p = c.index-place.result.now in
    let there : index_of c.args.tag ps ≡ Some c.in_ok-i.i = search rules in
    due_waits (place_of c.args.tag ps) p c.args.room (lent_place c.args.tag c.in_ok-i.i ps p there c.index-place.ensures) c.if-not-place.true

pub returns-then-room-byte_count : goal.returns-then-room-byte_count
returns-then-room-byte_count c =
    let ps = places_of c.args.self.now in
    let p = c.index-place.result.now in
    let there : index_of c.args.tag ps ≡ Some c.in_ok-i.i = search rules in
    let lt : c.args.room < byte_room p = omega (arith, c.if-room-byte_count.true, c.byte_count.ensures) in
    due_shorts (place_of c.args.tag ps) p c.args.room (lent_place c.args.tag c.in_ok-i.i ps p there c.index-place.ensures) c.if-not-place.false lt

pub returns : goal.returns
returns c =
    let ps = places_of c.args.self.now in
    let p = c.index-place.result.now in
    let i = c.in_ok-i.i in
    let there : index_of c.args.tag ps ≡ Some i = search rules in
    let le : byte_room p ≤ c.args.room = omega (arith, c.if-room-byte_count.false, c.byte_count.ensures) in (
      there,
      due_there (place_of c.args.tag ps) p c.args.room (lent_place c.args.tag i ps p there c.index-place.ensures) c.if-not-place.false le
          ∙ ap Ok (c.index-place.ensures ∙ get_or_default ps i p blank (stands_within by_tag (stands by_tag c.args.tag i ps there))),
    )

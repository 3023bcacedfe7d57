use Rattle.std.proofs.Common.{◌≡◌, get_or, length, vec_items, sym, ap, ◌∙◌, arith}
use Rattle.std.proofs.lemmas.List.{get_or_default}
use Rattle.sectors.specs.Memory.{names, seen}
use Rattle.sectors.proofs.Runs.{length_seen}
use Rattle.tickets.specs.Meant.{well}
use Rattle.tickets.specs.Open.{places_of}
use Rattle.tickets.specs.Front.{blank}
use Rattle.tickets.proofs.Stands.{oldest_within}
use Rattle.tickets.proofs.Keeps.{well_at}
use Rattle.tickets.proofs.FrontFacts.{at_oldest, fits_from, serve_keeps}
use Rattle.memory_disk.specs.Stored.{stored}
use Rattle.memory_disk.specs.Turn.{bytes_as}
use Rattle.memory_disk.proofs.TurnFacts.{stored_length}
use Rattle.memory_disk.proofs.disk.MemoryDisk.serve_oldest.Goals as goal

pub index_mut-requires : goal.index_mut-requires
index_mut-requires c =
    let v = c.args.self.now.front.places in
    omega (arith, oldest_within (at_oldest c.in-Some.i (vec_items v) c.oldest_waiting.result c.oldest_waiting.ensures c.in-Some.is), v.ok.0)

pub serve-requires : goal.serve-requires
serve-requires c =
    let s = c.args.self.now.front in
    let ps = places_of s in
    let p = c.index_mut.result.now in
    let old = at_oldest c.in-Some.i ps c.oldest_waiting.result c.oldest_waiting.ensures c.in-Some.is in
    let f = fits_from s.size (names s.named) p (ap (well s.size (names s.named)) c.index_mut.ensures.value ∙ well_at s.size (names s.named) ps c.in-Some.i p s.well (oldest_within old)) in
    record { fits = omega (arith, f.inside, c.args.self.now.holds); short = f.short }

pub invariant_of-front : goal.invariant_of-front
invariant_of-front c =
    let s = c.args.self.now.front in
    let row = c.args.self.now.row in
    let old = at_oldest c.in-Some.i (places_of s) c.oldest_waiting.result c.oldest_waiting.ensures c.in-Some.is in
    let k = serve_keeps s (seen row.named row.bytes.now) c.in-Some.i c.index_mut.result.now c.serve.new.place (λ x lt. length_seen row.named row.bytes.now x (omega (arith, c.args.self.now.holds))) old c.index_mut.ensures.value c.serve.ensures.readies in
    record { small = s.small; most = s.most; room = s.room; within = k.within; apart = k.apart; well = k.well; turns = k.turns }

pub invariant_of-self-2 : goal.invariant_of-self-2
invariant_of-self-2 c =
    let d = c.args.self.now in
    let s = d.front in
    let p = c.index_mut.result.now in
    let old = at_oldest c.in-Some.i (places_of s) c.oldest_waiting.result c.oldest_waiting.ensures c.in-Some.is in
    let f = fits_from s.size (names s.named) p (ap (well s.size (names s.named)) c.index_mut.ensures.value ∙ well_at s.size (names s.named) (places_of s) c.in-Some.i p s.well (oldest_within old)) in
    let n = ap length c.serve.ensures.stores ∙ stored_length s.size s.named d.row.named p d.row.bytes.now d.holds p.kind f in
    record { holds = omega (arith, n, d.holds); named = c.serve.ensures.named ∙ d.named }

pub returns-clause-bytes : goal.returns-clause-bytes
returns-clause-bytes c =
    let d = c.args.self.now in
    let ps = places_of d.front in
    let i = c.in-Some.i in
    let p = c.index_mut.result.now in
    let row = d.row.bytes.now in
    let old = at_oldest i ps c.oldest_waiting.result c.oldest_waiting.ensures c.in-Some.is in
    let e = sym c.oldest_waiting.ensures ∙ c.in-Some.is in
    let is : p ≡ get_or ps i blank = c.index_mut.ensures.value ∙ get_or_default ps i p blank (oldest_within old) in
    c.serve.ensures.stores ∙ (ap (λ n. stored n p row) d.named ∙ (ap (λ x. stored d.front.named x row) is ∙ sym (ap (λ o. bytes_as o d.front.named row ps) e)))

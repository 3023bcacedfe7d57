use Rattle.std.proofs.Common.{◌≡◌, length, get_or, vec_items, sym, ap, ◌∙◌, rules, arith}
use Rattle.std.proofs.lemmas.List.{get_or_default}
use Rattle.sectors.specs.Memory.{names, seen}
use Rattle.sectors.proofs.Runs.{length_seen}
use Rattle.tickets.specs.Meant.{well}
use Rattle.tickets.specs.Open.{places_of}
use Rattle.tickets.specs.Front.{blank}
use Rattle.tickets.proofs.Stands.{oldest_within}
use Rattle.tickets.proofs.Keeps.{well_at}
use Rattle.tickets.proofs.FrontFacts.{at_oldest, fits_from, serve_keeps}
use Rattle.drive.specs.Buffer.{all_lie}
use Rattle.drive.specs.Service.{sight, arm_as, cost_as, entries_as, row_as, turn_ticks, turn_arm, turn_entries, turn_row}
use Rattle.drive.specs.SoundFacts.{fits_of, buffered_length}
use Rattle.drive.proofs.Turning.{entries_fit, row_length, arm_in}
use Rattle.drive.proofs.drive.Drive.serve_oldest.Goals as goal

pub index_mut-requires : goal.index_mut-requires
index_mut-requires c =
    let v = c.args.self.now.front.places in
    omega (arith, oldest_within (at_oldest c.in-Some.i (vec_items v) c.oldest_waiting.result c.oldest_waiting.ensures c.in-Some.is), v.ok.0)

pub invariant_of-front : goal.invariant_of-front
invariant_of-front c =
    let d = c.args.self.now in
    let s = d.front in
    let row = d.buffer.row in
    let es = d.buffer.entries.items in
    let old = at_oldest c.in-Some.i (places_of s) c.oldest_waiting.result c.oldest_waiting.ensures c.in-Some.is in
    let k = serve_keeps s (sight row.named es row.bytes.now) c.in-Some.i c.index_mut.result.now c.serve.new.place
    (λ x lt. buffered_length (length row.bytes.now) es (seen row.named row.bytes.now) x d.buffer.lie (length_seen row.named row.bytes.now x (omega (arith, d.holds)))) old c.index_mut.ensures.value c.serve.ensures.readies in
    record { small = s.small; most = s.most; room = s.room; within = k.within; apart = k.apart; well = k.well; turns = k.turns }

pub invariant_of-self-2 : goal.invariant_of-self-2
invariant_of-self-2 c =
    let d = c.args.self.now in
    let s = d.front in
    let p = c.index_mut.result.now in
    let es = d.buffer.entries.items in
    let row = d.buffer.row.bytes.now in
    let old = at_oldest c.in-Some.i (places_of s) c.oldest_waiting.result c.oldest_waiting.ensures c.in-Some.is in
    let f = fits_from s.size (names s.named) p (ap (well s.size (names s.named)) c.index_mut.ensures.value ∙ well_at s.size (names s.named) (places_of s) c.in-Some.i p s.well (oldest_within old)) in
    let n = ap length (c.serve.ensures.bytes ∙ ap (λ ns. row_as p.kind ns p es row) d.named) ∙ row_length s.size s.named p f p.kind es row d.holds (fits_of d) in
    record {
      holds = omega (arith, n, d.holds);
      named = c.serve.ensures.named ∙ d.named;
      lie = ap (all_lie _) (c.serve.ensures.entries ∙ ap (λ ns. entries_as p.kind ns p es) d.named) ∙ (entries_fit s.size s.named p f p.kind es (fits_of d)).lie;
      reach = omega (arith, c.serve.ensures.arm, arm_in s.size s.named p f p.kind d.arm d.reach);
      one = d.one;
    }

pub returns : goal.returns
returns c =
    let d = c.args.self.now in
    let named = d.front.named in
    let ps = places_of d.front in
    let es = d.buffer.entries.items in
    let row = d.buffer.row.bytes.now in
    let i = c.in-Some.i in
    let p = c.index_mut.result.now in
    let old = at_oldest i ps c.oldest_waiting.result c.oldest_waiting.ensures c.in-Some.is in
    let e = sym c.oldest_waiting.ensures ∙ c.in-Some.is in
    let is : p ≡ get_or ps i blank = c.index_mut.ensures.value ∙ get_or_default ps i p blank (oldest_within old) in
    record {
      ticks = c.serve.ensures.ticks ∙ (ap (λ x. cost_as x.kind d.arm x es) is ∙ sym (ap (λ o. turn_ticks o ps d.arm es) e));
      places = search rules;
      arm = c.serve.ensures.arm ∙ (ap (λ x. arm_as x.kind d.arm x) is ∙ sym (ap (λ o. turn_arm o ps d.arm) e));
      entries = c.serve.ensures.entries ∙ (ap (λ n. entries_as p.kind n p es) d.named ∙ (ap (λ x. entries_as x.kind named x es) is ∙ sym (ap (λ o. turn_entries o named ps es) e)));
      bytes = c.serve.ensures.bytes ∙ (ap (λ n. row_as p.kind n p es row) d.named ∙ (ap (λ x. row_as x.kind named x es row) is ∙ sym (ap (λ o. turn_row o named ps es row) e)));
      shape = search rules;
      capacity = c.serve.ensures.capacity;
      same_reference = c.serve.ensures.same_reference;
    }

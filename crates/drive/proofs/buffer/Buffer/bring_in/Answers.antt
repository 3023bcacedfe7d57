use Rattle.std.proofs.Common.{◌≡◌, length, sym, refl, ◌∙◌, rules, arith}
use Rattle.std.proofs.lemmas.Bool.{cond-false}
use Rattle.device.proofs.Lookup.{stands_within}
use Rattle.drive.specs.Buffer.{by_sector}
use Rattle.drive.proofs.Finding.{at_sector, set_brought, none_out, push_brought, oldest_out}
use Rattle.drive.proofs.Keeping.{bring_keeps}
use Rattle.drive.proofs.buffer.Buffer.bring_in.Goals as goal

pub index_mut-requires : goal.index_mut-requires
index_mut-requires c =
    let v = c.args.self.now.entries in
    omega (arith, stands_within by_sector (at_sector c.args.sector c.in-Some.i v.items c.find.result c.find.ensures c.in-Some.is), v.ok.0)

pub invariant_of-self : goal.invariant_of-self
invariant_of-self c =
    let b = c.args.self.now in
    let x = c.args.bytes.now in
    let l : length x ≡ 128 = search rules in
    let st = at_sector c.args.sector c.in-Some.i (b.entries.items) c.find.result c.find.ensures c.in-Some.is in
    let k = bring_keeps b c.args.sector x c.requires l (sym c.if-is_named.ensures)
    (set_brought st c.index_mut.result.now x c.index_mut.ensures.value) (none_out st b.row.named b.row.bytes.now) refl in
    record { room = b.room; most = k.most; lie = k.lie; good = k.good; single = k.single }

pub invariant_of-self-in-None : goal.invariant_of-self-in-None
invariant_of-self-in-None c =
    let b = c.args.self.now in
    let es = b.entries.items in
    let x = c.args.bytes.now in
    let l : length x ≡ 128 = search rules in
    let k = bring_keeps b c.args.sector x c.requires l (sym c.if-is_named.ensures)
    (push_brought c.args.sector es c.find.result c.find.ensures c.in-None.is _ _ x c.ease.ensures.entries c.push_back_reserved.ensures.items)
    (oldest_out c.args.sector es c.find.result c.find.ensures c.in-None.is b.row.named b.row.bytes.now _ c.ease.ensures.bytes) c.ease.ensures.named in
    record { room = omega (arith, c.push_back_reserved.ensures.capacity, c.ease.new.self.room); most = k.most; lie = k.lie; good = k.good; single = k.single }

pub returns-in-Some : goal.returns-in-Some
returns-in-Some c =
    let b = c.args.self.now in
    let good = sym c.if-is_named.ensures in
    let st = at_sector c.args.sector c.in-Some.i (b.entries.items) c.find.result c.find.ensures c.in-Some.is in
    record {
      entries = set_brought st c.index_mut.result.now c.args.bytes.now c.index_mut.ensures.value ∙ sym (cond-false _ _ _ good);
      bytes = none_out st b.row.named b.row.bytes.now ∙ sym (cond-false _ _ _ good);
      named = refl;
      capacity = refl;
      same_reference = refl;
    }

pub returns-in-None : goal.returns-in-None
returns-in-None c =
    let b = c.args.self.now in
    let es = b.entries.items in
    let good = sym c.if-is_named.ensures in
    record {
      entries = push_brought c.args.sector es c.find.result c.find.ensures c.in-None.is _ _ c.args.bytes.now c.ease.ensures.entries c.push_back_reserved.ensures.items ∙ sym (cond-false _ _ _ good);
      bytes = oldest_out c.args.sector es c.find.result c.find.ensures c.in-None.is b.row.named b.row.bytes.now _ c.ease.ensures.bytes ∙ sym (cond-false _ _ _ good);
      named = c.ease.ensures.named;
      capacity = c.push_back_reserved.ensures.capacity ∙ c.ease.ensures.capacity;
      same_reference = c.ease.ensures.same_reference;
    }

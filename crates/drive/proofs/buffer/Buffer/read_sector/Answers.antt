use Rattle.std.proofs.Common.{sym, ap, ◌∙◌, arith}
use Rattle.device.proofs.Lookup.{stands_within}
use Rattle.sectors.specs.Memory.{seen}
use Rattle.drive.specs.Buffer.{by_sector}
use Rattle.drive.proofs.Finding.{at_sector, stands_bytes, absent_bytes}
use Rattle.drive.proofs.buffer.Buffer.read_sector.Goals as goal

pub index-requires : goal.index-requires
index-requires c =
    let v = c.args.self.now.entries in
    omega (arith, stands_within by_sector (at_sector c.args.sector c.in-Some.i v.items c.find.result c.find.ensures c.in-Some.is), v.ok.0)

pub returns-in-Some : goal.returns-in-Some
returns-in-Some c =
    let b = c.args.self.now in
    let st = at_sector c.args.sector c.in-Some.i (b.entries.items) c.find.result c.find.ensures c.in-Some.is in
    ap (λ e. e.bytes) c.index.ensures ∙ stands_bytes st c.index.result.now (seen b.row.named b.row.bytes.now)

pub returns-in-None : goal.returns-in-None
returns-in-None c =
    let b = c.args.self.now in
    c.read_sector.ensures ∙ sym (absent_bytes c.args.sector (b.entries.items) c.find.result c.find.ensures c.in-None.is (seen b.row.named b.row.bytes.now))

use Rattle.std.proofs.Common.{◌<◌, [], length, get_or, ap, ◌∙◌, arith}
use Rattle.std.proofs.lemmas.List.{length-take, get_or-take}
use Rattle.sectors.proofs.Runs.{chunk_part}
use Rattle.drive.proofs.Keeping.{fits_in, length_run_out}
use Rattle.drive.proofs.Steps.{run_in, run_out}
use Rattle.drive.proofs.buffer.Buffer.bring_run.Goals as goal

pub bring_in-requires : goal.bring_in-requires
bring_in-requires c =
    let b = c.args.self.now in
    let i = c.loop-i.i in
    let lt : i < c.args.count = omega (arith, length-take c.args.count c.as_chunks.result.0.now) in
    let n = ap length c.loop-i.invariant.1
    ∙ length_run_out b.row.named c.args.first i c.args.bytes.now (b.entries.items) b.row.bytes.now (omega (arith, c.requires.inside)) (omega (arith, c.requires.whole)) (fits_in b) in
    omega (arith, c.requires.inside, n)

pub loop-i-preserved : goal.loop-i-preserved
loop-i-preserved c =
    let b = c.args.self.now in
    let i = c.loop-i.i in
    let chunks = c.as_chunks.result.0.now in
    let lt : i < c.args.count = omega (arith, length-take c.args.count chunks) in
    let here = get_or-take c.args.count chunks i [] lt ∙ (ap (λ cs. get_or cs i []) c.as_chunks.ensures.front ∙ chunk_part _ i c.args.bytes.now [] (omega (arith, c.requires.whole))) in
    let v = c.loop-i.invariant in (
      c.bring_in.ensures.entries ∙ run_in c.args.first i c.args.bytes.now _ b.row.named _ (b.entries.items) _ b.row.bytes.now _ v.2 here v.0 v.1,
      c.bring_in.ensures.bytes ∙ run_out c.args.first i c.args.bytes.now _ b.row.named _ (b.entries.items) _ b.row.bytes.now _ v.2 here v.0 v.1,
      c.bring_in.ensures.named ∙ v.2,
      c.bring_in.ensures.capacity ∙ v.3,
      c.bring_in.ensures.same_reference ∙ v.4,
    )

use Rattle.std.proofs.Common.{◌∙◌, ◌<◌, ap, [], get_or, arith}
use Rattle.std.proofs.lemmas.List.{length-take, get_or-take}
use Rattle.sectors.proofs.Runs.{lies, chunk_part}
use Rattle.sectors.proofs.Parts.{put_more}
use Rattle.sectors.proofs.row.Row.write_run.Goals as goal

pub loop-i-preserved : goal.loop-i-preserved
loop-i-preserved c =
    let l = lies c.args.first c.args.count _ _ c.if-lies_in.ensures in
    let i = c.loop-i.i in
    let chunks = c.as_chunks.result.0.now in
    let n = length-take c.args.count chunks in
    let lt : i < c.args.count = omega (arith, n) in
    let here = get_or-take c.args.count chunks i [] lt ∙ (ap (λ cs. get_or cs i []) c.as_chunks.ensures.front ∙ chunk_part _ i c.args.bytes.now [] (omega (arith, l, lt))) in (
      put_more c.args.self.now.named c.loop-i.self.named c.args.first i c.args.count c.args.bytes.now c.args.self.now.bytes.now c.loop-i.self.bytes.now _ _
          lt l.0 l.1 c.loop-i.invariant.0 c.loop-i.invariant.1 here c.write_sector.ensures.bytes,
      c.write_sector.ensures.named ∙ c.loop-i.invariant.1,
      c.write_sector.ensures.same_reference ∙ c.loop-i.invariant.2,
    )

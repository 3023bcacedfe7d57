use Rattle.std.proofs.Common.{◌+◌, ◌*◌, ◌<◌, ◌≤◌, [], get_or, length, ◌∙◌, ap, arith}
use Rattle.std.proofs.lemmas.List.{length-take, get_or-take}
use Rattle.mirror.specs.Means.{bit}
use Rattle.mirror.proofs.Rows.{chunk_part, patch_set, patch_left}
use Rattle.mirror.proofs.mix.patch.Goals as goal
use Rattle.mirror.proofs.mix.patch.Goals.{then-has_bit, else-has_bit}

pub loop-i-preserved : goal.loop-i-preserved
loop-i-preserved c =
    let i = c.loop-i.i in
    let start = c.args.buffer.now in
    let other = c.args.other.now in
    let chunks = c.as_chunks.result.0.now in
    let n = length-take c.args.count chunks in
    let lt : i < c.args.count = omega (arith, n) in
    let a : (i + 1) * 128 ≤ length start = omega arith in
    let b : (i + 1) * 128 ≤ length other = omega arith in
    let here = get_or-take c.args.count chunks i [] lt ∙ (ap (λ cs. get_or cs i []) c.as_chunks.ensures.front ∙ chunk_part _ i other [] (omega arith)) in
    elim c.if-has_bit.branch [
      | then-has_bit w ↦ w.buffer-is ∙ patch_set (bit c.args.mask) i start other c.loop-i.buffer a b c.loop-i.invariant w.copy_from_slice.new.self w.if-has_bit.ensures (w.copy_from_slice.ensures.after ∙ here)
      | else-has_bit w ↦ w.buffer-is ∙ patch_left (bit c.args.mask) i start other c.loop-i.buffer a b c.loop-i.invariant w.if-has_bit.ensures
    ]

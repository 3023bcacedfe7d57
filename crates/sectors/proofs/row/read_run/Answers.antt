use Rattle.std.proofs.Common.{◌≡◌, ◌+◌, sym, ap, ◌∙◌, arith, length}
use Rattle.std.proofs.lemmas.List.{length-take, length-drop, take_all}
use Rattle.sectors.specs.Memory.{seen}
use Rattle.sectors.proofs.Runs.{read_more, length_bytes, length_seen, lies}
use Rattle.sectors.proofs.row.read_run.Goals as goal
use Rattle.sectors.proofs.row.read_run.Goals.{After-shown_sector-shown}

-- what is shown is a whole sector
whole : (c : After-shown_sector-shown) → length c.shown_sector-shown.result.now ≡ 128
whole c =
    let l = lies c.args.first c.args.count _ _ c.if-lies_in.ensures in
    ap length c.shown_sector-shown.ensures ∙ length_seen c.args.named.now c.args.memory.now (c.args.first + c.loop-i.i) (omega (arith, l))

pub slice_bounds-copy_from_slice-end-in-loop-i : goal.slice_bounds-copy_from_slice-end-in-loop-i
slice_bounds-copy_from_slice-end-in-loop-i c =
    simp length-take (omega (arith, whole (goal.at.slice_bounds-copy_from_slice-end-in-loop-i c).After-shown_sector-shown))

pub copy_from_slice-requires : goal.copy_from_slice-requires
copy_from_slice-requires c =
    let l = lies c.args.first c.args.count _ _ c.if-lies_in.ensures in
    let n = whole (goal.at.copy_from_slice-requires c).After-shown_sector-shown in
    simp (length-take, length-drop) (omega (arith, l)) ∙ sym (ap length (take_all 128 c.shown_sector-shown.result.now (omega (arith, n))) ∙ n)

pub loop-i-preserved : goal.loop-i-preserved
loop-i-preserved c =
    let l = lies c.args.first c.args.count _ _ c.if-lies_in.ensures in
    let n = whole (goal.at.loop-i-preserved c).After-shown_sector-shown in
    read_more (seen c.args.named.now c.args.memory.now) c.args.first c.loop-i.i c.loop-i.into c.args.into.now c.copy_from_slice.new.self
    (length_bytes _ c.args.first c.loop-i.i
    (λ s lt. length_seen c.args.named.now c.args.memory.now s (omega (arith, l))))
    c.loop-i.invariant
    (c.copy_from_slice.ensures.after ∙ take_all 128 c.shown_sector-shown.result.now (omega (arith, n)) ∙ c.shown_sector-shown.ensures)

use Rattle.std.proofs.Common.{◌≡◌, ◌+◌, length, sym, ap, ◌∙◌, arith}
use Rattle.std.proofs.lemmas.List.{length-take, length-drop, take_all}
use Rattle.sectors.specs.Memory.{seen}
use Rattle.sectors.proofs.Runs.{read_more, length_bytes, length_seen}
use Rattle.drive.specs.SoundFacts.{buffered_length}
use Rattle.drive.specs.Service.{sight}
use Rattle.drive.proofs.buffer.Buffer.read_run.Goals as goal
use Rattle.drive.proofs.buffer.Buffer.read_run.Goals.{After-read_sector-shown}

-- what is shown is a whole sector
whole : (c : After-read_sector-shown) → length c.read_sector-shown.result.now ≡ 128
whole c =
    let b = c.args.self.now in
    let s = c.args.first + c.loop-i.i in
    ap length c.read_sector-shown.ensures
    ∙ buffered_length (length b.row.bytes.now) (b.entries.items) (seen b.row.named b.row.bytes.now) s b.lie (length_seen b.row.named b.row.bytes.now s (omega (arith, c.requires)))

pub slice_bounds-copy_from_slice-end-in-loop-i : goal.slice_bounds-copy_from_slice-end-in-loop-i
slice_bounds-copy_from_slice-end-in-loop-i c =
    simp length-take (omega (arith, whole (goal.at.slice_bounds-copy_from_slice-end-in-loop-i c).After-read_sector-shown))

pub copy_from_slice-requires : goal.copy_from_slice-requires
copy_from_slice-requires c =
    let n = whole (goal.at.copy_from_slice-requires c).After-read_sector-shown in
    simp (length-take, length-drop) (omega (arith, c.requires)) ∙ sym (ap length (take_all 128 c.read_sector-shown.result.now (omega (arith, n))) ∙ n)

pub loop-i-preserved : goal.loop-i-preserved
loop-i-preserved c =
    let b = c.args.self.now in
    let es = b.entries.items in
    let row = b.row.bytes.now in
    let n = whole (goal.at.loop-i-preserved c).After-read_sector-shown in
    read_more (sight b.row.named es row) c.args.first c.loop-i.i c.loop-i.into c.args.into.now c.copy_from_slice.new.self
    (length_bytes _ c.args.first c.loop-i.i
    (λ s lt. buffered_length (length row) es (seen b.row.named row) s b.lie (length_seen b.row.named row s (omega (arith, c.requires)))))
    c.loop-i.invariant
    (c.copy_from_slice.ensures.after ∙ take_all 128 c.read_sector-shown.result.now (omega (arith, n)) ∙ c.read_sector-shown.ensures)

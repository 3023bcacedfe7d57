use Rattle.std.proofs.Common.{◌≡◌}
use Rattle.sectors.specs.Memory.{put_run}
use Rattle.sectors.proofs.row.Row.write_run.Given as goal

abbrev pub invariant-loop-i : goal.invariant-loop-i
invariant-loop-i l =
    (l.self.bytes.now ≡ put_run l.initial.self.named l.first l.i l.bytes l.initial.self.bytes.now)
    × (l.self.named ≡ l.initial.self.named)
    × (l.self.bytes.ghost_name ≡ l.initial.self.bytes.ghost_name)

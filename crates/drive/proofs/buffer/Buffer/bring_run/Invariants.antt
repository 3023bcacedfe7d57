use Rattle.std.proofs.Common.{◌≡◌}
use Rattle.std.specs.VecDeque.{deque_capacity}
use Rattle.drive.specs.Buffer.{brought_run, put_out_run}
use Rattle.drive.proofs.buffer.Buffer.bring_run.Given as goal

abbrev pub invariant-loop-i : goal.invariant-loop-i
invariant-loop-i l =
    (l.self.entries.items ≡ brought_run l.initial.self.row.named l.first l.i l.bytes (l.initial.self.entries.items))
    × (l.self.row.bytes.now ≡ put_out_run l.initial.self.row.named l.first l.i l.bytes (l.initial.self.entries.items) l.initial.self.row.bytes.now)
    × (l.self.row.named ≡ l.initial.self.row.named)
    × (deque_capacity l.self.entries ≡ deque_capacity l.initial.self.entries)
    × (l.self.row.bytes.ghost_name ≡ l.initial.self.row.bytes.ghost_name)

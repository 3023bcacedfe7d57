use Rattle.std.proofs.Common.{◌≡◌, true, length}
use Rattle.std.specs.VecDeque.{deque_len, deque_capacity}
use Rattle.drive.specs.Buffer.{put_all, all_lie}
use Rattle.drive.proofs.buffer.Buffer.put_all.Given as goal

abbrev pub invariant-loop-oldest : goal.invariant-loop-oldest
invariant-loop-oldest l = record {
  puts : put_all l.row.named l.entries.items l.row.bytes.now ≡ put_all l.initial.row.named l.initial.entries.items l.initial.row.bytes.now;
  lie : all_lie (length l.row.bytes.now) l.entries.items ≡ true;
  named : l.row.named ≡ l.initial.row.named;
  same_reference : l.row.bytes.ghost_name ≡ l.initial.row.bytes.ghost_name;
  capacity : deque_capacity l.entries ≡ deque_capacity l.initial.entries;
}

abbrev pub decreases-loop-oldest : goal.decreases-loop-oldest
decreases-loop-oldest l = deque_len l.entries

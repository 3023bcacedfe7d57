use Rattle.std.proofs.Common.{◌≡◌, ◌*◌, ◌++◌, drop}
use Rattle.device.specs.Meaning.{bytes_of}
use Rattle.drive.specs.Service.{sight}
use Rattle.drive.proofs.buffer.Buffer.read_run.Given as goal

abbrev pub invariant-loop-i : goal.invariant-loop-i
invariant-loop-i l = l.into ≡ bytes_of (sight l.self.row.named (l.self.entries.items) l.self.row.bytes.now) l.first l.i ++ drop (l.i * 128) l.initial.into

use Rattle.std.proofs.Common.{◌≡◌, ◌*◌, ◌++◌, drop}
use Rattle.device.specs.Meaning.{bytes_of}
use Rattle.sectors.specs.Memory.{seen}
use Rattle.sectors.proofs.row.read_run.Given as goal

abbrev pub invariant-loop-i : goal.invariant-loop-i
invariant-loop-i l = l.into ≡ bytes_of (seen l.named l.memory) l.first l.i ++ drop (l.i * 128) l.initial.into

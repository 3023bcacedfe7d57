use Rattle.std.proofs.Common.{◌≡◌, ◌*◌, ◌++◌, drop}
use Rattle.mirror.specs.Means.{picked, bit}
use Rattle.mirror.proofs.mix.patch.Given as goal

abbrev pub invariant-loop-i : goal.invariant-loop-i
invariant-loop-i l = l.buffer ≡ picked (bit l.mask) l.i l.initial.buffer l.other ++ drop (l.i * 128) l.initial.buffer

use Rattle.std.proofs.Common.{vec_items}
use Rattle.std.specs.Vec.Iter.{into_iter_items}
use Rattle.history.proofs.LogFacts.{Sending}
use Rattle.history.proofs.sends.send_all.Given as goal

-- the log is the history of the calls so far
abbrev pub invariant-loop-call : goal.invariant-loop-call
invariant-loop-call g l =
    (goal.iterator-loop-call g).can_next l.call-iterator ×
    (goal.iterator-loop-call g).is_finite l.call-iterator ×
    (g.D.Device.kept l.initial.device → g.D.Device.kept l.device × Sending g.D.Device.meaning g.D.Device.does l.initial.device (vec_items l.fn.calls) (vec_items l.log) (into_iter_items l.call-iterator) l.device)

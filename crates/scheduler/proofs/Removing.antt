-- Taking a run out keeps the bounds.
use Rattle.std.proofs.Common.{ℕ, List, arith}
use Rattle.std.proofs.lemmas.List.Sums.{length-filter, count_by-le-length}
use Rattle.deadline.specs.declared.dispatch.Queued.{Queued}
use Rattle.deadline.specs.Turn.{without}
use Rattle.deadline.proofs.Lists.{any_without}
use Rattle.scheduler.specs.Bounds.{beyond, Bounded}
use Rattle.scheduler.specs.Passes.{outside}

pub bounded_without : (r : ℕ) (ws : List Queued) → Bounded ws → Bounded (without r ws)
bounded_without r ws b = record {
  few = omega (arith, length-filter (outside r) ws, count_by-le-length (outside r) ws, b.few);
  small = any_without beyond r ws b.small;
}

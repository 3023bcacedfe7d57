-- The examples, by computation.
use Rattle.std.proofs.Common.{refl}
use Rattle.deadline.specs.Waiting.{conflict, run_of, runs, free, free_runs}
use Rattle.deadline.specs.Joining.{joinable, run_for, once_runs_touch}
use Rattle.deadline.specs.Turn.{taken, submitted, new_batch, choice, after, turned}
use Rattle.deadline.specs.Bound.{BoundIsMet}
use Rattle.deadline.specs.Orders.{OrdersHold}

pub orders : OrdersHold
unfolding conflict run_of runs free free_runs joinable run_for once_runs_touch taken submitted new_batch choice after turned
orders = (refl, refl, refl, refl, refl, refl, refl, refl, refl, refl, refl, refl, refl, refl, refl, refl, refl, refl, refl, refl, refl)

pub met : BoundIsMet
unfolding conflict run_of runs free free_runs joinable run_for once_runs_touch taken submitted new_batch choice after turned
met = (refl, refl, refl)

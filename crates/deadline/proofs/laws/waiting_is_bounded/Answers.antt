use Rattle.deadline.proofs.Bound.{bounded}
use Rattle.deadline.proofs.OrderFacts.{met}
use Rattle.deadline.proofs.laws.waiting_is_bounded.Goals as goal

pub returns : goal.returns
returns c = record { bounded = bounded; met = met }

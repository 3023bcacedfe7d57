use Rattle.deadline.proofs.OrderFacts.{orders}
use Rattle.deadline.proofs.laws.orders_hold.Goals as goal

pub returns : goal.returns
returns c = orders

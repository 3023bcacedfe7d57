use Rattle.deadline.proofs.Overtaking.{nothing_overtakes}
use Rattle.deadline.proofs.laws.nothing_overtakes.Goals as goal

pub returns : goal.returns
returns c = nothing_overtakes

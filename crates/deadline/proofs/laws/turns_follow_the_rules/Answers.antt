use Rattle.deadline.proofs.Overtaking.{follows}
use Rattle.deadline.proofs.laws.turns_follow_the_rules.Goals as goal

pub returns : goal.returns
returns c = follows

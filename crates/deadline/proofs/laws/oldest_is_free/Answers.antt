use Rattle.deadline.proofs.Overtaking.{oldest_is_free}
use Rattle.deadline.proofs.laws.oldest_is_free.Goals as goal

pub returns : goal.returns
returns c = oldest_is_free

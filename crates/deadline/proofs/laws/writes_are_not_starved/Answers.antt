use Rattle.deadline.proofs.Starving.{not_starved, resets}
use Rattle.deadline.proofs.laws.writes_are_not_starved.Goals as goal

pub returns : goal.returns
returns c = record { limits = not_starved; resets = resets }

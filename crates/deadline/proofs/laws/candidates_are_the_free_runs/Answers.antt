use Rattle.deadline.proofs.FreeMeans.{free_means}
use Rattle.deadline.proofs.RuleFacts.{candidates}
use Rattle.deadline.proofs.laws.candidates_are_the_free_runs.Goals as goal

pub returns : goal.returns
returns c = record { free = free_means; candidates = candidates }

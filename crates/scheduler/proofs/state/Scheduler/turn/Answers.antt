use Rattle.scheduler.proofs.Limits.{allowed_by}
use Rattle.scheduler.proofs.state.Scheduler.turn.Goals as goal

pub apply-requires : goal.apply-requires
apply-requires c = allowed_by _ _ c.args.self.now.waiting.bounded _ c.choice-choice.ensures

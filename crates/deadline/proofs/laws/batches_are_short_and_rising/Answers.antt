use Rattle.deadline.proofs.Batches.{batches, flushes_close}
use Rattle.deadline.proofs.laws.batches_are_short_and_rising.Goals as goal

pub returns : goal.returns
returns c = record { rising = batches; closed = flushes_close }

use Rattle.cases.proofs.CaseFacts.{cases}
use Rattle.cases.proofs.cases_hold.Goals as goal

pub returns : goal.returns
returns c = cases

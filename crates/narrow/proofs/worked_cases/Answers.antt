use Rattle.narrow.proofs.Worked.{worked_cases}
use Rattle.narrow.proofs.worked_cases.Goals as goal

pub returns : goal.returns
returns c = worked_cases

use Rattle.wishes.proofs.Told.{wishes_back}
use Rattle.wishes.proofs.laws.wishes_back.Goals as goal

pub returns : goal.returns
returns c = wishes_back

use Rattle.words.proofs.Wished.{wish_back}
use Rattle.words.proofs.laws.wishes_read_back.Goals as goal

pub returns : goal.returns
returns c = wish_back

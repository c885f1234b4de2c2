use Rattle.wishes.proofs.Told.{wish_format}
use Rattle.wishes.proofs.laws.wish_format.Goals as goal

pub returns : goal.returns
returns c = wish_format

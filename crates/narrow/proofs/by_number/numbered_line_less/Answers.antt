-- The theorem is proved in Numbered.Monotone.
use Rattle.narrow.proofs.Numbered.Monotone.{line_less}
use Rattle.narrow.proofs.by_number.numbered_line_less.Goals as goal

pub returns : goal.returns
returns c = line_less

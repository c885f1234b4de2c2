-- The theorem is proved in Numbered.Main.
use Rattle.narrow.proofs.Numbered.Main.{main_holds}
use Rattle.narrow.proofs.by_number.numbered_main.Goals as goal

pub returns : goal.returns
returns c = main_holds

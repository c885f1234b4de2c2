use Rattle.codec.specs.Format.{both, named}
use Rattle.codec.proofs.Laid.{laid_end}
use Rattle.codec.proofs.kinds.WithMacCoded.write.Goals as goal

pub returns : goal.returns
unfolding both named
returns g c = laid_end _ _ _ _ _ _ c.in_ok-write.ensures c.write-2.ensures

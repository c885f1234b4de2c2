use Rattle.codec.specs.Format.{row, both, named}
use Rattle.codec.proofs.Laid.{laid_end}
use Rattle.codec.proofs.bodies.write_content.Goals as goal

pub returns : goal.returns
unfolding row both named
returns c = laid_end _ _ _ _ _ _ c.in_ok-write.ensures c.write_row.ensures

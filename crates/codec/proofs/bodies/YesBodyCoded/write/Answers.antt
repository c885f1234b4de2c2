use Rattle.codec.specs.Format.{behind}
use Rattle.codec.proofs.Laid.{laid_end}
use Rattle.codec.proofs.bodies.YesBodyCoded.write.Goals as goal

pub returns : goal.returns
unfolding behind
returns c = laid_end _ _ _ _ _ _ c.in_ok-push.ensures.items c.write_content.ensures

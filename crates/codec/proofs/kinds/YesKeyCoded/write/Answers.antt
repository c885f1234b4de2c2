use Rattle.codec.specs.Format.{behind, both}
use Rattle.codec.proofs.Laid.{laid_kind}
use Rattle.codec.proofs.kinds.YesKeyCoded.write.Goals as goal

pub returns : goal.returns
unfolding behind both
returns c = laid_kind _ _ _ _ _ _ _ _ c.in_ok-push.ensures.items c.in_ok-write.ensures c.write-2.ensures

use Rattle.codec.specs.Format.{behind, both, named}
use Rattle.codec.proofs.Laid.{laid_kind}
use Rattle.codec.proofs.kinds.TiedYesCoded.write.Goals as goal

pub returns : goal.returns
unfolding behind both named
returns c = laid_kind _ _ _ _ _ _ _ _ c.in_ok-push.ensures.items c.in_ok-write_content.ensures c.write.ensures

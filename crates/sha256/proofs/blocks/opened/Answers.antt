use Rattle.sha256.proofs.Absorbing.{opened_is}
use Rattle.sha256.proofs.blocks.opened.Goals as goal

pub returns : goal.returns
returns c = opened_is c.args.rest.now c.copy_from_slice.new.self c.copy_from_slice.ensures.after c.requires

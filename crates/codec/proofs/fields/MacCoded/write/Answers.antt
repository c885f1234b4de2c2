use Rattle.std.proofs.Common.{vec_items, ◌++◌, ap}
use Rattle.narrow.specs.Term.{Bytes}
use Rattle.codec.specs.Format.{fixed}
use Rattle.codec.proofs.Laid.{laid_last}
use Rattle.codec.proofs.fields.MacCoded.write.Goals as goal

pub returns : goal.returns
unfolding fixed
returns c = laid_last _ _ _ _ _ c.extend_from_slice.ensures.items (ap (λ (b : Bytes). vec_items c.args.out.now ++ b) c.bytes.ensures)

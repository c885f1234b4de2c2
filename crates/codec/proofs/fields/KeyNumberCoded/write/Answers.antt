use Rattle.std.proofs.Common.{vec_items, ◌++◌, ap, ◌∙◌}
use Rattle.narrow.specs.Term.{Bytes}
use Rattle.numbers.specs.Bytes.{two_bytes}
use Rattle.codec.specs.Format.{two_byte, only}
use Rattle.codec.proofs.Laid.{laid_last}
use Rattle.codec.proofs.fields.KeyNumberCoded.write.Goals as goal

pub returns : goal.returns
unfolding two_byte only
returns c = laid_last _ _ _ _ _ c.extend_from_slice.ensures.items (ap (λ (b : Bytes). vec_items c.args.out.now ++ b) (c.to_bytes.ensures ∙ ap two_bytes c.get.ensures))

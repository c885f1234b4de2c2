use Rattle.std.proofs.Common.{ap, ◌∙◌, sym, lit<, arith, rules}
use borrow.Rule.Slice.PartMut.{same_len_mid}
use Rattle.sha256.specs.Sha256.{words}
use Rattle.sha256.proofs.Absorbing.{sealed_is}
use Rattle.sha256.proofs.blocks.sealed.Goals as goal

pub slice_bounds-words-end : goal.slice_bounds-words-end
slice_bounds-words-end c = sym (same_len_mid 56 8 c.args.block c.copy_from_slice.new.self c.copy_from_slice.ensures.len ∙ search rules)

pub words-requires : goal.words-requires
words-requires c = (lit< tt, omega (arith, slice_bounds-words-end c))

pub returns : goal.returns
returns c = c.words.ensures ∙ ap (words 16) (sealed_is c.args.block c.copy_from_slice.new.self c.args.bits (search rules) (c.copy_from_slice.ensures.after ∙ c.to_be_bytes.ensures))

use Rattle.std.proofs.Common.{refl}
use Rattle.printing.proofs.Texts.{then_end}
use Rattle.printing.proofs.WordsWishDisplay.fmt.Goals as goal

pub returns-in_default-clause-writes : goal.returns-in_default-clause-writes
returns-in_default-clause-writes g c =
    λ plain ok. let first = c.in_ok-write.ensures.writes plain refl in
    then_end g.W.Write.write_str_gives c.args.f.now c.write.new.self c.write-in_default.new.self _ c.text_of.result.now _ c.text_of.ensures c.in_default.not-empty first
    (c.write-in_default.ensures.writes first.plain ok)

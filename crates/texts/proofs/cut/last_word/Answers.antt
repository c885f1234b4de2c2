use Rattle.std.proofs.Common.{refl, arith, true-eqb, false-eqb}
use Rattle.texts.proofs.Lasts.{no_last, last_is}
use Rattle.texts.proofs.cut.last_word.Goals as goal

pub returns-then-is_empty : goal.returns-then-is_empty
returns-then-is_empty c = no_last c.args.text.now _ c.trim_end_matches-trimmed.ensures.matches (true-eqb _ 0 c.if-is_empty.ensures)

pub returns : goal.returns
returns c =
    let e = last_is c.args.text.now _ c.trim_end_matches-trimmed.ensures.matches (omega (arith, false-eqb _ 0 c.if-is_empty.ensures)) c.rsplit_once.result _ refl refl c.rsplit_once.ensures.cases in
    rw c.unwrap_or.ensures e

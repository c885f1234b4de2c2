use Rattle.std.proofs.Common.{refl, arith, true-eqb, false-eqb}
use Rattle.texts.proofs.Cuts.{no_words, next_is}
use Rattle.texts.proofs.cut.next_word.Goals as goal

pub returns-then-is_empty : goal.returns-then-is_empty
returns-then-is_empty c = no_words c.args.text.now _ c.trim_start_matches-trimmed.ensures.matches (true-eqb _ 0 c.if-is_empty.ensures)

pub returns : goal.returns
returns c =
    let e = next_is c.args.text.now _ c.trim_start_matches-trimmed.ensures.matches (omega (arith, false-eqb _ 0 c.if-is_empty.ensures)) c.split_once.result _ refl refl c.split_once.ensures.cases in
    rw c.unwrap_or.ensures e

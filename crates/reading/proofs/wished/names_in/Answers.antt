use Rattle.std.proofs.Common.{vec_items, Ok, sym, ap, ◌∙◌, arith, true-eqb, false-eqb}
use Rattle.std.specs.Str.Iter.{split_text, split_has_more, split_pattern}
use Rattle.reading.proofs.Names.{no_name_yet, empty_part, one_name, no_more}
use Rattle.reading.proofs.wished.names_in.Goals as goal

pub loop-word-init : goal.loop-word-init
loop-word-init c =
    let it = c.into_iter-word-iterator.ensures.into_iter_gives in
    let made = c.split-word-items.ensures in
    no_name_yet c.new-names.ensures.items (ap split_has_more it ∙ made.has_more) (ap split_text it ∙ made.text) (ap split_pattern it ∙ made.pattern)

pub loop-word-preserved-then-is_empty : goal.loop-word-preserved-then-is_empty
loop-word-preserved-then-is_empty c = empty_part c.loop-word.invariant c.next.new.self c.in-Some.word c.in-Some.ensures.steps (true-eqb _ 0 c.if-is_empty.ensures)

pub loop-word-preserved : goal.loop-word-preserved
loop-word-preserved c =
    one_name c.loop-word.invariant c.next.new.self c.in-Some.word c.in-Some.ensures.steps (omega (arith, false-eqb _ 0 c.if-is_empty.ensures))
    c.in_ok-from_str.field-0 (vec_items c.push.new.self) c.in_ok-from_str.ensures.ok c.in_ok-push.ensures.items

pub returns : goal.returns
returns c = ap Ok (no_more c.loop-word.invariant (sym c.in-None.ensures.steps.0))

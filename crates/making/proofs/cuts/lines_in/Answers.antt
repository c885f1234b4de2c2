use Rattle.std.proofs.Common.{vec_items, sym, ap, ◌∙◌}
use Rattle.std.specs.Str.Iter.{split_text, split_has_more, split_pattern}
use Rattle.statements.specs.Views.{lines_view}
use Rattle.trouble.proofs.Chains.{stops}
use Rattle.making.proofs.Rows.{no_line_yet, no_line, one_more, no_more}
use Rattle.making.proofs.cuts.lines_in.Goals as goal

pub loop-part-init : goal.loop-part-init
loop-part-init c =
    let it = c.into_iter-part-iterator.ensures.into_iter_gives in
    let made = c.split-part-items.ensures in
    no_line_yet c.args.text.now c.new-lines.ensures.items (ap split_has_more it ∙ made.has_more) (ap split_text it ∙ made.text) (ap split_pattern it ∙ made.pattern)

pub loop-part-preserved : goal.loop-part-preserved
loop-part-preserved c =
    one_more c.loop-part.invariant c.next.new.self c.in-Some.part c.in-Some.ensures.steps _ (vec_items c.push.new.self) c.in_ok-parse_line.ensures.value c.in_ok-push.ensures.items

pub returns-in_err-parse_line : goal.returns-in_err-parse_line
returns-in_err-parse_line c =
    stops lines_view c.from_residual.result c.from_residual.ensures.1 (no_line c.loop-part.invariant c.next.new.self c.in-Some.part c.in-Some.ensures.steps c.in_err-parse_line.ensures.value)

pub returns : goal.returns
returns c = no_more c.loop-part.invariant (sym c.in-None.ensures.steps.0)

use Rattle.std.proofs.Common.{◌++◌, codes, sym, refl, ap, ◌∙◌}
use Rattle.std.proofs.Output.{has_written_append, has_written_of_eq}
use Rattle.lines.specs.Views.{limit_view}
use Rattle.printing.specs.Printed.{list_words, limit_words}
use Rattle.printing.proofs.WordsLimitDisplay.fmt.Goals as goal

pub returns-in_ok-write_str-in-Museums-clause-writes : goal.returns-in_ok-write_str-in-Museums-clause-writes
returns-in_ok-write_str-in-Museums-clause-writes g c =
    λ plain ok. let first = c.in_ok-write_str-in-Museums.ensures.writes plain refl in
    has_written_of_eq g.W.Write.write_str_gives c.args.f.now _ _ c.write_list.new.f (ap (λ ms. codes "museums " ++ list_words ms) c.as_slice.ensures ∙ ap (λ l. limit_words (limit_view l)) (sym c.in-Museums.is))
    (has_written_append g.W.Write.write_str_gives c.args.f.now (codes "museums ") c.write_str.new.self (list_words c.as_slice.result.now) c.write_list.new.f first (c.write_list.ensures first.plain ok))

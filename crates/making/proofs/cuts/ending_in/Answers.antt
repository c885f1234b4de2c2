use Rattle.std.proofs.Common.{sym, ap, ◌∙◌}
use Rattle.std.specs.Str.{bytes_eq}
use Rattle.std.proofs.lemmas.Bool.{cond-true, cond-false, not-true, not-false}
use Rattle.texts.specs.declared.Cause.TheVariants.{MissingWord}
use Rattle.texts.specs.Results.{both_parts, cut_read}
use Rattle.making.specs.Cuts.{ending}
use Rattle.texts.proofs.Steps.{exits, so, no, or_is}
use Rattle.making.proofs.cuts.ending_in.Goals as goal

pub returns-in_err-rest : goal.returns-in_err-rest
unfolding ending
returns-in_err-rest c =
    exits c.from_residual.result _ _ c.from_residual.ensures.1
    ∙ no _ (ap cut_read (sym c.in_err-rest.was) ∙ or_is both_parts MissingWord c.last_word.result _ c.last_word.ensures c.ok_or.ensures.value)

pub returns-in_err-front : goal.returns-in_err-front
unfolding ending
returns-in_err-front c =
    exits c.from_residual-in_err-front.result _ _ c.from_residual-in_err-front.ensures.1
    ∙ so _ (ap cut_read (sym c.in_ok-rest.was) ∙ or_is both_parts MissingWord c.last_word.result _ c.last_word.ensures c.ok_or.ensures.value)
    (no _ (ap cut_read (sym c.in_err-front.was) ∙ or_is both_parts MissingWord c.last_word-2.result _ c.last_word-2.ensures c.ok_or-2.ensures.value))

pub returns-then-ne : goal.returns-then-ne
unfolding ending
returns-then-ne c =
    so _ (ap cut_read (sym c.in_ok-rest.was) ∙ or_is both_parts MissingWord c.last_word.result _ c.last_word.ensures c.ok_or.ensures.value)
    (so _ (ap cut_read (sym c.in_ok-front.was) ∙ or_is both_parts MissingWord c.last_word-2.result _ c.last_word-2.ensures c.ok_or-2.ensures.value)
    (sym (cond-false (bytes_eq c.in_ok-front.word.now c.args.label.now) _ _ (not-true _ (sym c.if-ne.ensures)))))

pub returns : goal.returns
unfolding ending
returns c =
    so _ (ap cut_read (sym c.in_ok-rest.was) ∙ or_is both_parts MissingWord c.last_word.result _ c.last_word.ensures c.ok_or.ensures.value)
    (so _ (ap cut_read (sym c.in_ok-front.was) ∙ or_is both_parts MissingWord c.last_word-2.result _ c.last_word-2.ensures c.ok_or-2.ensures.value)
    (sym (cond-true (bytes_eq c.in_ok-front.word.now c.args.label.now) _ _ (not-false _ (sym c.if-ne.ensures)))))

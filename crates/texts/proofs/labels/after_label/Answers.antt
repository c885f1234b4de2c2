use Rattle.std.proofs.Common.{◌∙◌}
use Rattle.texts.proofs.Labelling.{apart, alike, no_label, wrong_label, right_label}
use Rattle.texts.proofs.Steps.{exits}
use Rattle.texts.proofs.labels.after_label.Goals as goal

pub returns-in_err-word : goal.returns-in_err-word
returns-in_err-word c = exits c.from_residual.result _ _ c.from_residual.ensures.1 ∙ no_label c.args.label.now _ _ c.in_err-word.ensures

pub returns-then-ne : goal.returns-then-ne
returns-then-ne c =
    wrong_label c.args.label.now _ c.in_ok-word.word.now _ c.in_ok-word.ensures (apart c.in_ok-word.word.now c.args.label.now c.if-ne.ensures)

pub returns : goal.returns
returns c =
    c.word_and_rest-2.ensures
    ∙ right_label c.args.label.now _ c.in_ok-word.word.now _ c.in_ok-word.ensures (alike c.in_ok-word.word.now c.args.label.now c.if-ne.ensures)

use Rattle.std.proofs.Common.{Some, sym, ap, ◌∙◌}
use Rattle.std.specs.Option.{option_map}
use Rattle.reading.specs.Forms.{said_by, by_first, said_in}
use Rattle.statements.specs.Views.{stated}
use Rattle.texts.proofs.Steps.{last_so, last_no}
use Rattle.trouble.proofs.Chains.{hands_on}
use Rattle.reading.proofs.read_statement.Goals as goal

pub returns-in_default : goal.returns-in_default
unfolding said_in
returns-in_default c = ap (λ ws. by_first ws c.args.text.now) (sym c.in_default.ensures)

pub returns-in_err-read_by : goal.returns-in_err-read_by
unfolding said_in
returns-in_err-read_by c =
    hands_on (option_map stated) c.from_residual.result stated (said_by c.in-Some.first.now c.args.text.now) _ c.from_residual.ensures.1 c.in_err-read_by.ensures
    (λ k h. last_no Some h ∙ ap (λ ws. by_first ws c.args.text.now) (sym c.in-Some.ensures))

pub returns : goal.returns
unfolding said_in
returns c = last_so Some c.in_ok-read_by.ensures ∙ ap (λ ws. by_first ws c.args.text.now) (sym c.in-Some.ensures)

use Rattle.std.proofs.Common.{◌≡◌, List, vec_items, ap, ◌∙◌}
use Rattle.std.proofs.lemmas.Result.{err_from_is_err_and}
use Rattle.lines.specs.Meaning.{says}
use Rattle.rows.specs.Row.{rows}
use Rattle.tickets.specs.declared.TiedYes.{TiedYes}
use Rattle.judging.specs.Judged.{Judgement, judged}
use Rattle.judging.specs.Views.{bodies}
use Rattle.wishes.specs.Views.{wish_view}
use Rattle.showing.specs.declared.shown.Shown.{Shown}
use Rattle.showing.specs.Views.{shown_view}
use Rattle.verifier.specs.Verdict.{of_lines, by_lines}
use Rattle.verifier.proofs.Chains.{bodies_untied}
use Rattle.verifier.proofs.by_lines.Goals as goal

-- what was judged of the yeses that were lent
lines_are : (s : Shown) (lent : List TiedYes) (j : Judgement) → lent ≡ vec_items s.yeses → j ≡ judged (says (wish_view s.wish)) (rows s.ticket.body.lines) (bodies lent) → of_lines j ≡ by_lines (shown_view s)
lines_are s lent j same e =
    ap of_lines (e ∙ ap (judged (says (wish_view s.wish)) (rows s.ticket.body.lines)) (ap bodies same ∙ bodies_untied (vec_items s.yeses)))

pub returns-in_err-judge : goal.returns-in_err-judge
returns-in_err-judge c =
    let p = err_from_is_err_and c.from_residual.result c.from_residual.ensures.1 in
    rw (p.1, p.2) (lines_are c.args.right.now.shown _ _ c.as_slice.ensures.value c.in_err-judge.ensures.value)

pub returns : goal.returns
returns c = lines_are c.args.right.now.shown _ _ c.as_slice.ensures.value c.in_ok-judge.ensures.value

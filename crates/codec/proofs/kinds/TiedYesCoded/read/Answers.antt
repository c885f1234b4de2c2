use Rattle.std.proofs.Common.{◌∙◌}
use Rattle.std.proofs.lemmas.Result.{err_from_is_err_and}
use Rattle.codec.specs.Things.{tied_kind}
use Rattle.codec.proofs.Steps.{behind_on, behind_told, maced_first, maced_second, maced_on}
use Rattle.codec.proofs.kinds.TiedYesCoded.read.Goals as goal

pub returns-in_err-read_kind : goal.returns-in_err-read_kind
returns-in_err-read_kind c =
    let p = err_from_is_err_and c.from_residual.result c.from_residual.ensures.1 in
    rw (p.1, p.2) (maced_first _ _ _ (behind_told _ tied_kind _ _ c.in_err-read_kind.ensures))

pub returns-in_err-body : goal.returns-in_err-body
returns-in_err-body c =
    let p = err_from_is_err_and c.from_residual-in_err-body.result c.from_residual-in_err-body.ensures.1 in
    rw (p.1, p.2) (maced_first _ _ _ (behind_on _ tied_kind _ _ c.in_ok-read_kind.ensures ∙ c.in_err-body.ensures))

pub returns-in_err-tie : goal.returns-in_err-tie
returns-in_err-tie c =
    let p = err_from_is_err_and c.from_residual-in_err-tie.result c.from_residual-in_err-tie.ensures.1 in
    rw (p.1, p.2) (maced_second _ _ _ _ (behind_on _ tied_kind _ _ c.in_ok-read_kind.ensures ∙ c.in_ok-body.ensures) _ c.in_err-tie.ensures)

pub returns : goal.returns
returns c = maced_on _ _ _ _ (behind_on _ tied_kind _ _ c.in_ok-read_kind.ensures ∙ c.in_ok-body.ensures) _ _ c.in_ok-tie.ensures

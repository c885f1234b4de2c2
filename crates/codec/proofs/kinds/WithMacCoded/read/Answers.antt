use Rattle.std.proofs.lemmas.Result.{err_from_is_err_and}
use Rattle.codec.proofs.Steps.{maced_first, maced_second, maced_on}
use Rattle.codec.proofs.kinds.WithMacCoded.read.Goals as goal

pub returns-in_err-body : goal.returns-in_err-body
returns-in_err-body g c =
    let p = err_from_is_err_and c.from_residual.result c.from_residual.ensures.1 in
    rw (p.1, p.2) (maced_first _ _ _ c.in_err-body.ensures)

pub returns-in_err-mac : goal.returns-in_err-mac
returns-in_err-mac g c =
    let p = err_from_is_err_and c.from_residual-in_err-mac.result c.from_residual-in_err-mac.ensures.1 in
    rw (p.1, p.2) (maced_second _ _ _ _ c.in_ok-body.ensures _ c.in_err-mac.ensures)

pub returns : goal.returns
returns g c = maced_on _ _ _ _ c.in_ok-body.ensures _ _ c.in_ok-mac.ensures

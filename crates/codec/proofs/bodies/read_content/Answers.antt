use Rattle.std.proofs.lemmas.Result.{err_from_is_err_and}
use Rattle.codec.specs.Format.{row}
use Rattle.codec.proofs.Steps.{named_on, named_stop, both_first, both_second, both_on}
use Rattle.codec.proofs.bodies.read_content.Goals as goal

pub returns-in_err-key : goal.returns-in_err-key
returns-in_err-key c =
    let p = err_from_is_err_and c.from_residual.result c.from_residual.ensures.1 in
    rw (p.1, p.2) (named_stop _ _ _ _ _ (both_first _ _ _ _ c.in_err-key.ensures))

pub returns-in_err-limits : goal.returns-in_err-limits
unfolding row
returns-in_err-limits c =
    let p = err_from_is_err_and c.from_residual-in_err-limits.result c.from_residual-in_err-limits.ensures.1 in
    rw (p.1, p.2) (named_stop _ _ _ _ _ (both_second _ _ _ _ _ c.in_ok-key.ensures _ c.in_err-limits.ensures.read))

pub returns : goal.returns
unfolding row
returns c = named_on _ _ _ _ _ _ (both_on _ _ _ _ _ c.in_ok-key.ensures _ _ c.in_ok-limits.ensures.read)

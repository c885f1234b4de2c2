use Rattle.std.proofs.Common.{◌∙◌}
use Rattle.std.proofs.lemmas.Result.{err_from_is_err_and, MatchResult-weaker}
use Rattle.codec.specs.Things.{yes_kind}
use Rattle.codec.proofs.Steps.{behind_on, behind_told}
use Rattle.codec.proofs.bodies.YesBodyCoded.read.Goals as goal

pub returns-in_err-read_kind : goal.returns-in_err-read_kind
returns-in_err-read_kind c =
    let p = err_from_is_err_and c.from_residual.result c.from_residual.ensures.1 in
    rw (p.1, p.2) (behind_told _ yes_kind _ _ c.in_err-read_kind.ensures)

pub returns : goal.returns
returns c =
    let kind = behind_on _ yes_kind _ _ c.in_ok-read_kind.ensures in
    MatchResult-weaker c.read_content.result c.read_content.ensures (λ y e. kind ∙ e) (λ f e. kind ∙ e)

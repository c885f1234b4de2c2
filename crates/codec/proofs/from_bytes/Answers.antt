use Rattle.std.proofs.Common.{sym, subst₂}
use Rattle.std.proofs.lemmas.Bool.{eqb-true}
use Rattle.std.proofs.lemmas.List.{nil_from_length}
use Rattle.narrow.specs.Term.{Bytes}
use Rattle.codec.specs.Whole.{Reads}
use Rattle.codec.proofs.from_bytes.Goals as goal

pub returns : goal.returns
returns g c =
    subst₂ (λ (bs rest : Bytes). Reads g.T.Coded.format g.T.Coded.view bs c.in_ok-value.value rest) c.new-reader.ensures
    (nil_from_length _ (eqb-true _ _ (sym c.if-not-is_empty.ensures))) c.in_ok-value.ensures

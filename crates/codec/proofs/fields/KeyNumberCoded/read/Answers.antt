use Rattle.std.proofs.Common.{ℕ, Ok, Err, sym, ap, ◌∙◌, arith}
use Rattle.std.proofs.lemmas.Bool.{le-leb, lt-leb}
use Rattle.std.proofs.lemmas.Option.{MatchOption-at_some}
use Rattle.std.proofs.lemmas.Result.{err_from_is_err_and}
use Rattle.parts.specs.Limits.{last_key}
use Rattle.rows.proofs.Rowings.{wanting, wanted}
use Rattle.codec.specs.Format.{two_byte}
use Rattle.codec.proofs.Combined.{two_byte_join}
use Rattle.codec.proofs.Steps.{two_byte_short, only_on, only_other, only_stop}
use Rattle.codec.proofs.fields.KeyNumberCoded.read.Goals as goal

pub returns-in_err-number : goal.returns-in_err-number
returns-in_err-number c =
    let p = err_from_is_err_and c.from_residual.result c.from_residual.ensures.1 in
    let (short, same) = wanting _ _ _ _ _ c.in_err-number.ensures.value c.number.ensures in
    rw (p.1, p.2) (only_stop two_byte _ _ c.args.reader.now.rest.now _ (two_byte_short c.args.reader.now.rest.now short.0) ∙ ap Err same)

pub returns : goal.returns
returns c =
    let bs = c.args.reader.now.rest.now in
    let n = c.in_ok-number.number in
    let rest = c.number.new.self.rest.now in
    let read = ap two_byte.read (MatchOption-at_some _ _ _ c.in_ok-number.ensures.ok_part c.number.ensures) ∙ two_byte_join n rest in
    wanted c.new.result _ c.ok_or-2.result _ _ c.ok_or-2.ensures.value c.new.ensures
    (λ h. only_other two_byte _ _ bs n _ read (lt-leb n last_key h))
    (λ k same. only_on two_byte _ _ bs n _ read (le-leb n last_key (omega (arith, same, k.known))) ∙ ap (λ (m : ℕ). Ok (m, rest)) (sym same))

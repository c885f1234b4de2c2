use Rattle.std.proofs.Common.{◌≡◌, Ok, Err, sym, ap, ◌∙◌, arith}
use Rattle.std.proofs.lemmas.List.{take_all}
use Rattle.std.proofs.lemmas.Option.{MatchOption-at_some}
use Rattle.std.proofs.lemmas.Result.{err_from_is_err_and}
use Rattle.narrow.specs.Term.{Bytes, mac_length}
use Rattle.rows.proofs.Rowings.{wanting}
use Rattle.codec.specs.Format.{fixed}
use Rattle.codec.proofs.Combined.{fixed_join}
use Rattle.codec.proofs.Steps.{fixed_short}
use Rattle.codec.proofs.fields.MacCoded.read.Goals as goal

pub returns-in_err-part : goal.returns-in_err-part
returns-in_err-part c =
    let p = err_from_is_err_and c.from_residual.result c.from_residual.ensures.1 in
    let (short, same) = wanting _ _ _ _ _ c.in_err-part.ensures.value c.part.ensures.front in
    rw (p.1, p.2) (fixed_short mac_length c.args.reader.now.rest.now short.0 ∙ ap Err same)

pub returns : goal.returns
returns c =
    let front = MatchOption-at_some _ _ _ c.in_ok-part.ensures.ok_part c.part.ensures.front in
    let long = MatchOption-at_some _ _ _ c.in_ok-part.ensures.ok_part c.part.ensures.size in
    let chunk = MatchOption-at_some _ _ _ c.unwrap.ensures c.first_chunk.ensures.cases in
    let all : c.new.result.bytes ≡ c.in_ok-part.part.now =
    c.new.ensures ∙ (chunk.same ∙ take_all 32 c.in_ok-part.part.now (omega (arith, long))) in
    ap (fixed mac_length).read front ∙ (fixed_join mac_length c.in_ok-part.part.now c.part.new.self.rest.now long ∙ ap (λ (b : Bytes). Ok (b, c.part.new.self.rest.now)) (sym all))

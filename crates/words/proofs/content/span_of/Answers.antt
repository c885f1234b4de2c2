use Rattle.std.proofs.Common.{◌≡◌, ℕ, List, Option, Result, Bor, sym, refl, ap, ◌∙◌, arith}
use Rattle.std.specs.Option.{ok_or}
use Rattle.std.proofs.lemmas.Str.Pattern.{IsSplitOnceResult}
use Rattle.texts.specs.declared.Cause.{Cause}
use Rattle.texts.specs.Cuts.{dash, at_first}
use Rattle.texts.specs.declared.Cause.TheVariants.{NotASpan, Backward}
use Rattle.texts.specs.Results.{both_parts, cut_read}
use Rattle.texts.proofs.Cuts.{split_is}
use Rattle.texts.proofs.Steps.{exits, so, no, or_is, or_told}
use Rattle.words.proofs.Contents.{span_told}
use Rattle.words.proofs.Spans.{ends, spans}
use Rattle.words.proofs.content.span_of.Goals as goal

-- where a text is cut
cut : (w : List ℕ) (o : Option (Bor (List ℕ) × Bor (List ℕ))) (r : Result (Bor (List ℕ) × Bor (List ℕ)) Cause) → IsSplitOnceResult 45 w o → r ≡ ok_or o NotASpan → cut_read r ≡ ok_or (at_first dash w) NotASpan
cut w o r h e = or_is both_parts NotASpan o r (split_is 45 (omega arith) w o h) e

pub returns-in_err-from : goal.returns-in_err-from
returns-in_err-from c =
    exits c.from_residual.result _ _ c.from_residual.ensures.1 ∙ no ends (ap cut_read (sym c.in_err-from.was) ∙ cut c.args.word.now c.split_once.result _ c.split_once.ensures.cases c.ok_or.ensures.value) ∙ spans c.args.word.now

pub returns-in_err-number : goal.returns-in_err-number
returns-in_err-number c =
    exits c.from_residual-in_err-number.result _ _ c.from_residual-in_err-number.ensures.1
    ∙ so ends (ap cut_read (sym c.in_ok-from.was) ∙ cut c.args.word.now c.split_once.result _ c.split_once.ensures.cases c.ok_or.ensures.value) (no _ c.in_err-number.ensures) ∙ spans c.args.word.now

pub returns-in_err-number-2 : goal.returns-in_err-number-2
returns-in_err-number-2 c =
    exits c.from_residual-in_err-number-2.result _ _ c.from_residual-in_err-number-2.ensures.1
    ∙ so ends (ap cut_read (sym c.in_ok-from.was) ∙ cut c.args.word.now c.split_once.result _ c.split_once.ensures.cases c.ok_or.ensures.value) (so _ c.in_ok-number.ensures (no _ c.in_err-number-2.ensures)) ∙ spans c.args.word.now

pub returns : goal.returns
returns c =
    let both = so ends (ap cut_read (sym c.in_ok-from.was) ∙ cut c.args.word.now c.split_once.result _ c.split_once.ensures.cases c.ok_or.ensures.value) (so _ c.in_ok-number.ensures (so _ c.in_ok-number-2.ensures refl)) ∙ spans c.args.word.now in
    or_told (λ s. (s.from, s.to)) Backward c.new.result _ c.ok_or-2.ensures.value (span_told c.args.word.now _ _ (sym both) c.new.result c.new.ensures)

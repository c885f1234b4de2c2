use Rattle.std.proofs.Common.{◌≡◌, ℕ, List, Result, sym, ap, ◌∙◌, subst, rules}
use Rattle.lines.specs.Views.{limit_view, line_view}
use Rattle.parts.specs.Limits.{LineView, ALimit, AnElse}
use Rattle.texts.specs.declared.Cause.{Cause}
use Rattle.texts.specs.Cuts.{words_of}
use Rattle.texts.specs.Results.{and_is}
use Rattle.words.specs.Lines.{key_of, line_in}
use Rattle.words.specs.Means.{Told}
use Rattle.words.proofs.FirstWords.{mapped, chained, no_line, at_else, at_limit}
use Rattle.texts.proofs.Steps.{exits}
use Rattle.words.proofs.Taking.{told}
use Rattle.words.proofs.parse_line.Goals as goal

-- what is read is so
abbrev Both : List ℕ → Result LineView Cause → Type 0
Both text r = record { value : r ≡ line_in text; told : Told (words_of text) r }

both : (text : List ℕ) (r : Result LineView Cause) → r ≡ line_in text → Both text r
both text r e = record { value = e; told = subst (Told (words_of text)) (sym e) (told (words_of text)) }

pub returns-in_err-kind : goal.returns-in_err-kind
returns-in_err-kind c = both c.args.text.now _ (exits c.from_residual.result _ _ c.from_residual.ensures.1 ∙ no_line c.args.text.now _ c.in_err-kind.ensures)

pub returns-in-else : goal.returns-in-else
returns-in-else c =
    both c.args.text.now _
    (chained key_of AnElse (λ w. w.now) (λ k. k.number) line_view c.only_word.result c.and_then.result c.map.result c.only_word.ensures (at_else c.in_ok-kind.kind.now _ c.args.text.now c.in_ok-kind.ensures c.in-else.is)
    c.and_then.ensures c.map.ensures.cases (λ w k. search rules) (λ y z k. search rules))

pub returns-in_default : goal.returns-in_default
returns-in_default c =
    both c.args.text.now _
    (mapped limit_view line_view ALimit c.parse_limit.result c.map-in_default.result c.map-in_default.ensures.cases (λ y z k. search rules)
    ∙ ap (λ r. and_is r ALimit) c.parse_limit.ensures ∙ at_limit c.in_ok-kind.kind.now _ c.args.text.now c.in_ok-kind.ensures c.in_default.not-else)

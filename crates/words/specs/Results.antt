-- Results as the rules speak of them. Assumes nothing.
use Rattle.std.specs.Prelude.{ℕ, List, Result}
use Rattle.lines.specs.declared.Limit.{Limit}
use Rattle.lines.specs.declared.Line.{Line}
use Rattle.parts.specs.declared.Span.{Span}
use Rattle.parts.specs.declared.KeyNumber.{KeyNumber}
use Rattle.parts.specs.Items.{Museums, Name, items}
use Rattle.parts.specs.Limits.{LimitView, LineView}
use Rattle.lines.specs.Views.{limit_view, line_view}
use Rattle.texts.specs.declared.Cause.{Cause}
use Rattle.texts.specs.Results.{and_is}

-- what was read
abbrev pub museums_read : Result Museums Cause → Result (List ℕ) Cause
museums_read r = and_is r (λ m. items m)

abbrev pub span_read : Result Span Cause → Result (ℕ × ℕ) Cause
span_read r = and_is r (λ s. (s.from, s.to))

abbrev pub name_read : Result Name Cause → Result (List ℕ) Cause
name_read r = and_is r (λ n. items n)

abbrev pub key_read : Result KeyNumber Cause → Result ℕ Cause
key_read r = and_is r (λ k. k.number)

abbrev pub limit_parsed : Result Limit Cause → Result LimitView Cause
limit_parsed r = and_is r limit_view

abbrev pub line_parsed : Result Line Cause → Result LineView Cause
line_parsed r = and_is r line_view

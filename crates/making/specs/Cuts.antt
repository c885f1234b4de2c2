-- Where the text of a statement that makes something is cut. Assumes nothing.
use Rattle.std.specs.Prelude.{ℕ, Bool, cond, List, [], ◌∷◌, Ok, Err, codes, Result, ◌==◌}
use Rattle.std.specs.Option.{ok_or}
use Rattle.std.specs.Str.{bytes_eq}
use Rattle.parts.specs.Limits.{LineView}
use Rattle.texts.specs.declared.Cause.{Cause}
use Rattle.texts.specs.declared.Cause.TheVariants.{UnknownWord, MissingWord}
use Rattle.texts.specs.Cuts.{parts, head_tail, words_of, last_word}
use Rattle.texts.specs.Labels.{pair_after}
use Rattle.texts.specs.Results.{and_then, and_is}
use Rattle.words.specs.Lines.{line_in}

-- the byte that parts lines
abbrev pub semicolon : ℕ → Bool
semicolon b = b == 59

-- `.. LABEL PERSON`, the last two words: what stands before them, and the person
unfoldable pub ending : List ℕ → List ℕ → Result (List ℕ × List ℕ) Cause
ending label text =
    and_then (ok_or (last_word text) MissingWord) (λ p. and_then (ok_or (last_word p.0) MissingWord) (λ q. cond (bytes_eq q.1 label) (Ok (q.0, p.1)) (Err UnknownWord)))

-- each of these is a line
abbrev pub every : List (List ℕ) → Result (List LineView) Cause
every [] = Ok []
every (p ∷ ps) = and_then (line_in p) (λ l. and_is (every ps) (λ ls. l ∷ ls))

-- `LINE; LINE`, one line at least
unfoldable pub lines_in : List ℕ → Result (List LineView) Cause
lines_in text = every (parts semicolon text)

-- no lines, of a text without words
abbrev pub none_of : List (List ℕ) → Result (List LineView) Cause → Result (List LineView) Cause
none_of [] r = Ok []
none_of (w ∷ ws) r = r

-- the same, or no line at all
unfoldable pub limits_in : List ℕ → Result (List LineView) Cause
limits_in text = none_of (words_of text) (lines_in text)

-- the parts of a statement that makes something
pub record Parts : Type 0 where
  pub name : List ℕ
  pub word : List ℕ
  pub front : List ℕ
  pub person : List ℕ

-- `LABEL NAME = WORD: FRONT END PERSON`
unfoldable pub parts_in : List ℕ → List ℕ → List ℕ → Result Parts Cause
parts_in label end text =
    and_then (head_tail text) (λ t. and_then (pair_after label (codes "=") (words_of t.0)) (λ h. and_is (ending end t.1) (λ e. record { name = h.0; word = h.1; front = e.0; person = e.1 })))

-- Words that are told by the word before them. Assumes nothing.
use Rattle.std.specs.Prelude.{ℕ, cond, List, [], ◌∷◌, Ok, Err, Result}
use Rattle.std.specs.Str.{bytes_eq}
use Rattle.texts.specs.declared.Cause.{Cause}
use Rattle.texts.specs.declared.Cause.TheVariants.{UnknownWord, MissingWord, TooManyWords}
use Rattle.texts.specs.Results.{and_then, and_is}

-- the first word, and those after it
abbrev pub next : List (List ℕ) → Result (List ℕ × List (List ℕ)) Cause
next [] = Err MissingWord
next (w ∷ ws) = Ok (w, ws)

-- the word after the label, and those after it
unfoldable pub labelled : List ℕ → List (List ℕ) → Result (List ℕ × List (List ℕ)) Cause
labelled label ws = and_then (next ws) (λ p. cond (bytes_eq p.0 label) (next p.1) (Err UnknownWord))

-- the word, if none follows it
abbrev pub no_more : List ℕ → List (List ℕ) → Result (List ℕ) Cause
no_more w [] = Ok w
no_more w (v ∷ vs) = Err TooManyWords

-- the word after the label, which is the last
unfoldable pub only_after : List ℕ → List (List ℕ) → Result (List ℕ) Cause
only_after label ws = and_then (labelled label ws) (λ p. no_more p.0 p.1)

-- two labels, each with its word, and no more words
unfoldable pub pair_after : List ℕ → List ℕ → List (List ℕ) → Result (List ℕ × List ℕ) Cause
pair_after first second ws = and_then (labelled first ws) (λ p. and_is (only_after second p.1) (λ w. (p.0, w)))

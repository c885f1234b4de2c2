-- What the words of a line say. Assumes nothing.
use Rattle.std.specs.Prelude.{ℕ, cond, List, [], ◌∷◌, ◌++◌, length, Some, None, Ok, Err, codes, Option, Result, nat_le, nat_lt}
use Rattle.std.specs.Option.{option_map}
use Rattle.std.specs.Str.{bytes_eq}
use Rattle.narrow.specs.Rows.{all}
use Rattle.parts.specs.Limits.{LimitView, MuseumIn, DayIn, MinuteIn, PersonsUpTo, NameIs, LineView, ALimit, AnElse, is_museums, is_letter, longest_name, last_key, most_museums}
use Rattle.texts.specs.declared.Cause.{Cause}
use Rattle.texts.specs.declared.Cause.TheVariants.{UnknownWord, MissingWord, NoSuchMuseum, TooManyMuseums, NoSuchKey, NotASpan, Backward, BadLetter, LongName}
use Rattle.texts.specs.Cuts.{parts, comma, dash, words_of, one_word, maybe_word}
use Rattle.texts.specs.Numerals.{number_of}
use Rattle.texts.specs.Results.{and_then, and_is}

-- the numbers of these parts after ms, of which there may be 8 in all
abbrev pub listed : List ℕ → List (List ℕ) → Result (List ℕ) Cause
listed ms [] = Ok ms
listed ms (p ∷ ps) = cond (nat_lt (length ms) most_museums) (and_then (number_of 255 p) (λ m. listed (ms ++ m ∷ []) ps)) (Err TooManyMuseums)

abbrev pub known_museums : List ℕ → Result (List ℕ) Cause
known_museums ms = cond (is_museums ms) (Ok ms) (Err NoSuchMuseum)

unfoldable pub museums_of : List ℕ → Result (List ℕ) Cause
museums_of w = and_then (listed [] (parts comma w)) known_museums

abbrev pub ordered : ℕ → ℕ → Result (ℕ × ℕ) Cause
ordered a b = cond (nat_le a b) (Ok (a, b)) (Err Backward)

abbrev pub between : Option (List ℕ × List ℕ) → Result (ℕ × ℕ) Cause
between None = Err NotASpan
between (Some p) = and_then (number_of 65535 p.0) (λ a. and_then (number_of 65535 p.1) (λ b. ordered a b))

-- what stands before the first dash, and after it
unfoldable pub at_dash : List ℕ → Option (List ℕ × List ℕ)
at_dash [] = None
at_dash (b ∷ bs) = cond (dash b) (Some ([], bs)) (option_map (λ p. (b ∷ p.0, p.1)) (at_dash bs))

unfoldable pub span_of : List ℕ → Result (ℕ × ℕ) Cause
span_of w = between (at_dash w)

unfoldable pub name_of : List ℕ → Result (List ℕ) Cause
name_of w = cond (nat_le (length w) longest_name) (cond (all is_letter w) (Ok w) (Err BadLetter)) (Err LongName)

unfoldable pub key_of : List ℕ → Result ℕ Cause
key_of w = and_then (number_of 65535 w) (λ k. cond (nat_le k last_key) (Ok k) (Err NoSuchKey))

-- the words after the first say what the first asks for
unfoldable pub limit_of : List ℕ → List (List ℕ) → Result LimitView Cause
limit_of kind ws =
    cond (bytes_eq kind (codes "museums")) (and_is (and_then (one_word ws) museums_of) MuseumIn)
    (cond (bytes_eq kind (codes "days")) (and_is (and_then (one_word ws) span_of) (λ s. DayIn s.0 s.1))
    (cond (bytes_eq kind (codes "minutes")) (and_is (and_then (one_word ws) span_of) (λ s. MinuteIn s.0 s.1))
    (cond (bytes_eq kind (codes "persons")) (and_is (and_then (one_word ws) (number_of 255)) PersonsUpTo)
    (cond (bytes_eq kind (codes "name")) (and_is (and_then (maybe_word ws) name_of) NameIs) (Err UnknownWord)))))

unfoldable pub line_of : List (List ℕ) → Result LineView Cause
line_of [] = Err MissingWord
line_of (kind ∷ ws) = cond (bytes_eq kind (codes "else")) (and_is (and_then (one_word ws) key_of) AnElse) (and_is (limit_of kind ws) ALimit)

-- a text, by its words
abbrev pub line_in : List ℕ → Result LineView Cause
line_in text = line_of (words_of text)

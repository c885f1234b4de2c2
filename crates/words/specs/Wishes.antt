-- What the words of a wish say. Assumes nothing.
use Rattle.std.specs.Prelude.{ℕ, cond, List, [], ◌∷◌, Ok, Err, codes, Result}
use Rattle.std.specs.Borrow.{Bor}
use Rattle.std.specs.Str.{bytes_eq}
use Rattle.wishes.specs.declared.wish.RawWish.{RawWish}
use Rattle.parts.specs.Limits.{WishView}
use Rattle.wishes.specs.Views.{raw_view}
use Rattle.texts.specs.declared.Cause.{Cause}
use Rattle.texts.specs.declared.Cause.TheVariants.{UnknownWord}
use Rattle.texts.specs.Cuts.{words_of, maybe_word}
use Rattle.texts.specs.Labels.{labelled}
use Rattle.texts.specs.Numerals.{number_of}
use Rattle.texts.specs.Results.{and_then, and_is}

-- what was read: a number, and the words after it; a wish
abbrev pub field_read : {N : Type 0} → Result (N × Bor (List ℕ)) Cause → Result (N × List (List ℕ)) Cause
field_read r = and_is r (λ p. (p.0, words_of p.1.now))

abbrev pub wish_parsed : Result RawWish Cause → Result WishView Cause
wish_parsed r = and_is r raw_view

-- what number_in reads after the label
unfoldable pub field_in : {N : Type 0} → (List ℕ → Result N Cause) → List ℕ → List (List ℕ) → Result (N × List (List ℕ)) Cause
field_in number_in label ws = and_then (labelled label ws) (λ p. and_is (number_in p.0) (λ n. (n, p.1)))

-- the number after the label
abbrev pub field_of : ℕ → List ℕ → List (List ℕ) → Result (ℕ × List (List ℕ)) Cause
field_of most label ws = field_in (number_of most) label ws

-- the name that the words after the numbers say
abbrev pub name_end : List (List ℕ) → Result (List ℕ) Cause
name_end [] = Ok []
name_end (w ∷ ws) = cond (bytes_eq w (codes "name")) (maybe_word ws) (Err UnknownWord)

abbrev pub with_name : ℕ → ℕ → ℕ → ℕ → List (List ℕ) → Result WishView Cause
with_name m d t n ws = and_is (name_end ws) (λ name. record { museum = m; day = d; minute = t; persons = n; name = name })

abbrev pub with_persons : ℕ → ℕ → ℕ → List (List ℕ) → Result WishView Cause
with_persons m d t ws = and_then (field_of 255 (codes "persons") ws) (λ p. with_name m d t p.0 p.1)

abbrev pub with_minute : ℕ → ℕ → List (List ℕ) → Result WishView Cause
with_minute m d ws = and_then (field_of 65535 (codes "minute") ws) (λ p. with_persons m d p.0 p.1)

abbrev pub with_day : ℕ → List (List ℕ) → Result WishView Cause
with_day m ws = and_then (field_of 65535 (codes "day") ws) (λ p. with_minute m p.0 p.1)

unfoldable pub wish_of : List (List ℕ) → Result WishView Cause
wish_of ws = and_then (field_of 255 (codes "museum") ws) (λ p. with_day p.0 p.1)

-- a text, by its words
abbrev pub wish_in : List ℕ → Result WishView Cause
wish_in text = wish_of (words_of text)

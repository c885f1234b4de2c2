-- The parts and the words of a text, over its bytes. Assumes nothing.
use Rattle.std.specs.Prelude.{ℕ, Bool, cond, List, [], ◌∷◌, Some, None, Ok, Err, Option, Result, ◌==◌}
use Rattle.std.specs.Char.{char_set_contains}
use Rattle.std.specs.Option.{option_map, ok_or}
use Rattle.texts.specs.declared.Cause.{Cause}
use Rattle.texts.specs.declared.Cause.TheVariants.{MissingWord, TooManyWords}

-- ---- parts

-- the byte in front of the first part
abbrev pub onto : ℕ → List (List ℕ) → List (List ℕ)
onto b [] = (b ∷ []) ∷ []
onto b (p ∷ ps) = (b ∷ p) ∷ ps

-- the parts of a text between the bytes that pass t, one more than there are such bytes
abbrev pub parts : (ℕ → Bool) → List ℕ → List (List ℕ)
parts t [] = [] ∷ []
parts t (b ∷ bs) = cond (t b) ([] ∷ parts t bs) (onto b (parts t bs))

-- what stands before the first byte that passes t, and after it
unfoldable pub at_first : (ℕ → Bool) → List ℕ → Option (List ℕ × List ℕ)
at_first t [] = None
at_first t (b ∷ bs) = cond (t b) (Some ([], bs)) (option_map (λ p. (b ∷ p.0, p.1)) (at_first t bs))

-- the byte in front of a text that is cut, or cut here if it passes t
abbrev pub or_here : (ℕ → Bool) → ℕ → List ℕ → Option (List ℕ × List ℕ) → Option (List ℕ × List ℕ)
or_here t b bs None = cond (t b) (Some ([], bs)) None
or_here t b bs (Some p) = Some (b ∷ p.0, p.1)

-- what stands before the last byte that passes t, and after it
unfoldable pub at_last : (ℕ → Bool) → List ℕ → Option (List ℕ × List ℕ)
at_last t [] = None
at_last t (b ∷ bs) = or_here t b bs (at_last t bs)

-- ---- bytes that part

-- between museums
abbrev pub comma : ℕ → Bool
comma b = b == 44

-- between the ends of a span
abbrev pub dash : ℕ → Bool
dash b = b == 45

-- between a statement's head and its tail
abbrev pub colon : ℕ → Bool
colon b = b == 58

-- a space, a tab or a carriage return
abbrev pub gap : ℕ → Bool
gap b = char_set_contains (32 ∷ 9 ∷ 13 ∷ []) b

-- head and tail: what stands before the first colon, and after it
unfoldable pub head_tail : List ℕ → Result (List ℕ × List ℕ) Cause
head_tail text = ok_or (at_first colon text) MissingWord

-- ---- words

-- the parts that are not empty
abbrev pub full : List (List ℕ) → List (List ℕ)
full [] = []
full ([] ∷ ps) = full ps
full ((b ∷ p) ∷ ps) = (b ∷ p) ∷ full ps

-- the words of a text
unfoldable pub words_of : List ℕ → List (List ℕ)
words_of bs = full (parts gap bs)

-- the word, where there is just one
abbrev pub one_word : List (List ℕ) → Result (List ℕ) Cause
one_word [] = Err MissingWord
one_word (w ∷ []) = Ok w
one_word (w ∷ v ∷ ws) = Err TooManyWords

-- no word stands for the empty one
abbrev pub maybe_word : List (List ℕ) → Result (List ℕ) Cause
maybe_word [] = Ok []
maybe_word (w ∷ []) = Ok w
maybe_word (w ∷ v ∷ ws) = Err TooManyWords

-- ---- the last word

-- the byte in front of a text without the gaps at its end
abbrev pub closing : ℕ → List ℕ → List ℕ
closing b [] = cond (gap b) [] (b ∷ [])
closing b (c ∷ cs) = b ∷ c ∷ cs

-- a text without the gaps at its end
abbrev pub trimmed : List ℕ → List ℕ
trimmed [] = []
trimmed (b ∷ bs) = closing b (trimmed bs)

-- what follows the last gap of a trimmed text, or all of it
abbrev pub after_gap : List ℕ → Option (List ℕ × List ℕ) → List ℕ × List ℕ
after_gap bs None = ([], bs)
after_gap bs (Some p) = p

abbrev pub last_of : List ℕ → Option (List ℕ × List ℕ)
last_of [] = None
last_of (b ∷ bs) = Some (after_gap (b ∷ bs) (at_last gap (b ∷ bs)))

-- what stands before the last word, and that word
unfoldable pub last_word : List ℕ → Option (List ℕ × List ℕ)
last_word bs = last_of (trimmed bs)

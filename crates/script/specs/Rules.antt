-- What the words of a line say, and what a script's text comes to. Assumes nothing.
use Rattle.std.specs.Prelude.{ℕ, Bool, true, false, cond, List, [], ◌∷◌, Some, None, Ok, Err, codes, Option, Result}
use Rattle.std.specs.Result.{result_map_both}
use Rattle.std.specs.Str.{bytes_eq}
use Rattle.std.proofs.Common.{refl, inl, inr}
use Rattle.texts.specs.Cuts.{words_of}
use Rattle.texts.specs.declared.Cause.TheVariants.{UnknownWord, MissingWord, TooManyWords}
use Rattle.scripting.specs.Laws.{AsAlone}
use Rattle.scripting.specs.Rules as scripts
use Rattle.script.specs.declared.Cause.{Cause}
use Rattle.script.specs.declared.Cause.TheVariants.{Words, LateHouse}

-- ---- what a line says

-- a statement, with its words as bytes
pub data Said : Type 0 where
  house_of : List ℕ → Said

-- `house SEED`, of which ws are the words after `house`; begun says that a statement stands before it
abbrev pub house_sense : Bool → List (List ℕ) → Result Said Cause
house_sense true ws = Err LateHouse
house_sense false [] = Err (Words MissingWord)
house_sense false (seed ∷ []) = Ok (house_of seed)
house_sense false (seed ∷ w ∷ ws) = Err (Words TooManyWords)

-- what a line says, by its words: nothing where it has none
unfoldable pub sense : Bool → List (List ℕ) → Result (Option Said) Cause
sense begun [] = Ok None
sense begun (w ∷ ws) = cond (bytes_eq w (codes "house")) (result_map_both Some (λ c. c) (house_sense begun ws)) (Err (Words UnknownWord))

-- a line says what it says by itself, or can't be read where it stands
pub sense_placed : (begun : Bool) (ws : List (List ℕ)) → AsAlone (sense false ws) (sense begun ws)
unfolding sense
sense_placed false ws = inl refl
sense_placed true [] = inl refl
sense_placed true (w ∷ ws) = by (bytes_eq w (codes "house"))
  where
    by : (b : Bool) → AsAlone (cond b (result_map_both Some (λ c. c) (house_sense false ws)) (Err (Words UnknownWord))) (cond b (Err LateHouse) (Err (Words UnknownWord)))
    by true = inr refl
    by false = inl refl

-- ---- what a script says

-- each statement with the number of its line, and the first line that can't be read
abbrev pub Outcome : Type 0
Outcome = scripts.Outcome Said Cause

-- what a text comes to
abbrev pub reads : List ℕ → Outcome
reads bs = scripts.reads (λ begun code. sense begun (words_of code)) bs

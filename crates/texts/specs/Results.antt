-- Results as the rules speak of them. Assumes nothing.
use Rattle.std.specs.Prelude.{ℕ, List, Ok, Err, Result}
use Rattle.std.specs.Borrow.{Bor}
use Rattle.std.specs.Result as results
use Rattle.texts.specs.declared.Cause.{Cause}
use Rattle.texts.specs.Cuts.{words_of}

-- one step of reading and then another
abbrev pub and_then : {X Y : Type 0} → Result X Cause → (X → Result Y Cause) → Result Y Cause
and_then (Ok x) f = f x
and_then (Err c) f = Err c

-- what was read, as something else
abbrev pub and_is : {X Y : Type 0} → Result X Cause → (X → Y) → Result Y Cause
and_is r f = results.result_map_both f (λ c. c) r

-- a word that was read
abbrev pub word_read : Result (Bor (List ℕ)) Cause → Result (List ℕ) Cause
word_read r = and_is r (λ x. x.now)

-- a word that was read, and the words after it
abbrev pub pair_read : Result (Bor (List ℕ) × Bor (List ℕ)) Cause → Result (List ℕ × List (List ℕ)) Cause
pair_read r = and_is r (λ p. (p.0.now, words_of p.1.now))

-- the two parts of a text that is cut, and that was read
abbrev pub both_parts : Bor (List ℕ) × Bor (List ℕ) → List ℕ × List ℕ
both_parts p = (p.0.now, p.1.now)

abbrev pub cut_read : Result (Bor (List ℕ) × Bor (List ℕ)) Cause → Result (List ℕ × List ℕ) Cause
cut_read r = and_is r both_parts

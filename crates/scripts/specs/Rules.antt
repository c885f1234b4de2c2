-- What a line says, and what a script's text comes to. Assumes nothing.
use Rattle.std.specs.Prelude.{ℕ, Bool, true, false, cond, not, List, Some, None, Ok, Err, Option, Result}
use Rattle.std.specs.Result.{result_map_both}
use Rattle.std.proofs.Common.{refl, inl, inr}
use Rattle.reading.specs.Forms.{said_in}
use Rattle.statements.specs.Said.{Said, house_of, key_to, ticket_to, yes_by, add_by, tie_by, given, wish_of, shown}
use Rattle.scripting.specs.Laws.{AsAlone}
use Rattle.scripting.specs.Rules as generic
use Rattle.scripts.specs.declared.Cause.{Cause}
use Rattle.scripts.specs.declared.Cause.TheVariants.{HouseFirst, Words}

-- ---- what a line says

-- what a line's code says by itself
unfoldable pub alone : List ℕ → Result (Option Said) Cause
alone code = result_map_both (λ o. o) Words (said_in code)

-- a statement that opens the house
abbrev pub opens : Said → Bool
opens (house_of seed) = true
opens (key_to key person) = false
opens (ticket_to name number lines person) = false
opens (yes_by name key limits person) = false
opens (add_by name old lines person) = false
opens (tie_by name y ticket person) = false
opens (given what from to) = false
opens (wish_of person wish) = false
opens (shown person ticket tied wish) = false

-- `house` after a statement, or another before it
abbrev pub misplaced : Bool → Said → Bool
misplaced true s = opens s
misplaced false s = not (opens s)

-- the house is opened first, and only once
abbrev pub placed : Bool → Result (Option Said) Cause → Result (Option Said) Cause
placed begun (Ok None) = Ok None
placed begun (Ok (Some s)) = cond (misplaced begun s) (Err HouseFirst) (Ok (Some s))
placed begun (Err c) = Err c

-- what a line's code says; begun says that a statement stands before it
abbrev pub sense : Bool → List ℕ → Result (Option Said) Cause
sense begun code = placed begun (alone code)

-- a line says what it says by itself, or can't be read where it stands
pub placed_alone : (begun : Bool) (q : Result (Option Said) Cause) → AsAlone q (placed begun q)
placed_alone begun (Ok None) = inl refl
placed_alone begun (Ok (Some s)) = by (misplaced begun s)
  where
    by : (b : Bool) → AsAlone {C = Cause} (Ok (Some s)) (cond b (Err HouseFirst) (Ok (Some s)))
    by true = inr refl
    by false = inl refl
placed_alone begun (Err c) = inl refl

-- ---- what a script says

-- each statement with the number of its line, and the first line that can't be read
abbrev pub Outcome : Type 0
Outcome = generic.Outcome Said Cause

-- what a text comes to
abbrev pub reads : List ℕ → Outcome
reads bs = generic.reads sense bs

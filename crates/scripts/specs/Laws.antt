-- What holds of every script, above the rules that say how it is read. Assumes nothing.
use Rattle.std.specs.Prelude.{◌≡◌, ℕ, true, false, List, [], ◌∷◌}
use Rattle.std.specs.List.{AllByRecursion}
use Rattle.scripting.specs.Laws as generic
use Rattle.statements.specs.Said.{Said}
use Rattle.scripts.specs.Rules.{alone, opens, sense, Outcome}

-- ---- the laws of `scripting`, of this language

-- what a script comes to, line by line
abbrev pub LineByLine : List (List ℕ) → Outcome → Type 0
LineByLine ls o = generic.LineByLine alone sense ls o

-- a comment, up to the end of its line, can be left out
abbrev pub CommentsAside : List ℕ → Outcome → Type 0
CommentsAside text o = generic.CommentsAside sense text o

-- ---- the house is opened first, and only once

-- the first statement opens the house, and no other does
abbrev pub HouseOpensFirst : List (ℕ × Said) → Type 0
HouseOpensFirst [] = Unit {0}
HouseOpensFirst (s ∷ ss) = (opens s.1 ≡ true) × AllByRecursion (λ t. opens t.1 ≡ false) ss

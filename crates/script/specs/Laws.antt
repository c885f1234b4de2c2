-- What holds of every script, above the rules that say how it is read: the laws of `scripting`, of this language. Assumes nothing.
use Rattle.std.specs.Prelude.{ℕ, false, List}
use Rattle.scripting.specs.Laws as scripts
use Rattle.texts.specs.Cuts.{words_of}
use Rattle.script.specs.Rules.{sense, Outcome}

-- what a script comes to, line by line
abbrev pub LineByLine : List (List ℕ) → Outcome → Type 0
LineByLine ls o = scripts.LineByLine (λ code. sense false (words_of code)) (λ begun code. sense begun (words_of code)) ls o

-- a comment, up to the end of its line, can be left out
abbrev pub CommentsAside : List ℕ → Outcome → Type 0
CommentsAside text o = scripts.CommentsAside (λ begun code. sense begun (words_of code)) text o

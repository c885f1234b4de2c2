-- The code's values as the rules speak of them. Assumes nothing.
use Rattle.std.specs.Prelude.{ℕ, map, vec_items}
use Rattle.scripting.specs.declared.Numbered.{Numbered}
use Rattle.scripting.specs.declared.Script.{Script}
use Rattle.scripting.specs.Rules.{Outcome}

-- a statement with its number
abbrev pub numbered : {S X : Type 0} → (S → X) → Numbered S → ℕ × X
numbered stated s = (s.line, stated s.statement)

-- what a script that was read tells
abbrev pub told : {S X C : Type 0} → (S → X) → Script S C → Outcome X C
told stated s = record { said = map (numbered stated) (vec_items s.statements); stop = s.fault }

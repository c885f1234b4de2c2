-- The code's values as the rules speak of them: a text is its bytes. Assumes nothing.
use Rattle.std.specs.Prelude.{ℕ, string_bytes}
use Rattle.scripting.specs.Views as scripts
use Rattle.scripting.specs.declared.Numbered.{Numbered}
use Rattle.scripting.specs.declared.Script.{Script}
use Rattle.script.specs.declared.Cause.{Cause}
use Rattle.script.specs.declared.Statement.{Statement}
use Rattle.script.specs.declared.Statement.TheVariants.{House}
use Rattle.script.specs.Rules.{Said, house_of, Outcome}

-- what a statement says
abbrev pub stated : Statement → Said
stated (House seed) = house_of (string_bytes seed)

-- a statement with its number
abbrev pub numbered : Numbered Statement → ℕ × Said
numbered s = scripts.numbered stated s

-- what a script that was read tells
abbrev pub told : Script Statement Cause → Outcome
told s = scripts.told stated s

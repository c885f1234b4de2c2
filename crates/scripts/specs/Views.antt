-- The code's values as the rules speak of them. Assumes nothing.
use Rattle.scripting.specs.Views as generic
use Rattle.scripting.specs.declared.Script.{Script}
use Rattle.statements.specs.Views.{stated}
use Rattle.statements.specs.declared.Statement.{Statement}
use Rattle.texts.specs.declared.Cause as text
use Rattle.trouble.specs.declared.Trouble.{Trouble}
use Rattle.trouble.specs.declared.Trouble.TheVariants.{Unreadable, NoMemory}
use Rattle.scripts.specs.declared.Cause.{Cause}
use Rattle.scripts.specs.declared.Cause.TheVariants.{Words}
use Rattle.scripts.specs.Rules.{Outcome}

-- what a script that was read tells
abbrev pub told : Script Statement Cause → Outcome
told s = generic.told stated s

-- what is told of a statement, as it is told of a script
abbrev pub in_words : Trouble text.Cause → Trouble Cause
in_words (Unreadable c) = Unreadable (Words c)
in_words NoMemory = NoMemory

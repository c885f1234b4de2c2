-- A cause in plain words. Assumes nothing.
use Rattle.std.specs.Prelude.{ℕ, List, codes}
use Rattle.texts.specs.Wording as text
use Rattle.script.specs.declared.Cause.{Cause}
use Rattle.script.specs.declared.Cause.TheVariants.{Words, LateHouse}

-- a cause in plain words
abbrev pub worded : Cause → List ℕ
worded (Words c) = text.worded c
worded LateHouse = codes "house must come first"

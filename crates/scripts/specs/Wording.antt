-- A cause in plain words. Assumes nothing.
use Rattle.std.specs.Prelude.{ℕ, List, codes}
use Rattle.texts.specs.Wording as text
use Rattle.scripts.specs.declared.Cause.{Cause}
use Rattle.scripts.specs.declared.Cause.TheVariants.{HouseFirst, Words}

-- a cause in plain words
abbrev pub worded : Cause → List ℕ
worded HouseFirst = codes "house must come first"
worded (Words c) = text.worded c

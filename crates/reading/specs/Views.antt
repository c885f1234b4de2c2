-- The code's parts as the forms speak of them. Assumes nothing.
use Rattle.std.specs.Prelude.{ℕ, List}
use Rattle.std.specs.Borrow.{Bor}
use Rattle.texts.specs.Cuts.{words_of}
use Rattle.statements.specs.declared.Gift.{Gift}
use Rattle.statements.specs.Said.{Gifted}
use Rattle.statements.specs.Views.{gifted}

-- what is given, and the words after it
abbrev pub gift_view : Gift × Bor (List ℕ) → Gifted × List (List ℕ)
gift_view g = (gifted g.0, words_of g.1.now)

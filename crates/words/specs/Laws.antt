-- What holds of every line, every wish and their words. Assumes nothing.
use Rattle.std.specs.Prelude.{◌≡◌, true, Ok}
use Rattle.parts.specs.Limits.{LineView, is_line, WishView, in_range}
use Rattle.words.specs.Lines.{line_in}
use Rattle.printing.specs.Printed.{line_words, wish_words}
use Rattle.words.specs.Wishes.{wish_in}

-- What is printed of a line that can be is read as just that line.
abbrev pub LinesReadBack : Type 0
LinesReadBack = (v : LineView) → is_line v ≡ true → line_in (line_words v) ≡ Ok v

-- What is printed of a wish in range is read as just that wish.
abbrev pub WishesReadBack : Type 0
WishesReadBack = (w : WishView) → in_range w ≡ true → wish_in (wish_words w) ≡ Ok w

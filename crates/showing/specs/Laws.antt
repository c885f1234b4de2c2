-- What holds of what is shown. Assumes nothing.
use Rattle.std.specs.Prelude.{◌≡◌, true, Ok}
use Rattle.narrow.specs.Term.{Bytes}
use Rattle.parts.specs.Limits.{in_range}
use Rattle.codec.specs.Laws.{Exact, Inverse}
use Rattle.showing.specs.Showing.{ShownView, shown, shown_of}

-- What is shown is read back as it was, and only that is read; the wish is in range.
pub record ShownExact : Type 0 where
  pub format : Exact shown × Inverse shown
  pub back : (s : ShownView) → shown.fits s ≡ true → in_range s.asked ≡ true → shown_of (shown.write s) ≡ Ok s
  pub only : (bs : Bytes) (s : ShownView) → shown_of bs ≡ Ok s → (shown.fits s ≡ true) × (in_range s.asked ≡ true) × (bs ≡ shown.write s)

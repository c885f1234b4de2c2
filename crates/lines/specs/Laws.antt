-- The laws of lines. Assumes nothing.
use Rattle.std.specs.Prelude.{◌≡◌, ℕ, Bool, true, false, ◌&&◌, ◌≢◌, List, [], ◌∷◌, ◌++◌, is_ok, Ok}
use mathlib.Core.List.{Memᴰ}
use Rattle.narrow.specs.Policy.{all_met}
use Rattle.narrow.specs.TermBytes.{NoTie}
use Rattle.lines.specs.declared.Fault.{Fault}
use Rattle.numbers.specs.Places.{AreBytes}
use Rattle.parts.specs.Limits.{NameIs, LineView, WishView, is_line}
use Rattle.lines.specs.Format.{line_bytes}
use Rattle.lines.specs.Reading.{line_of}
use Rattle.lines.specs.Meaning.{holds_for, says}
use Rattle.lines.specs.Shapes.{LineBytes, HasFault, Tells}

-- Every line that can be is read back from its bytes as it was.
abbrev pub LinesBack : Type 0
LinesBack = (v : LineView) → is_line v ≡ true → line_of (line_bytes v) ≡ Ok v

-- Whatever is read as a line can be, and these bytes are just its own: so no two byte strings are one line.
abbrev pub LinesExact : Type 0
LinesExact = (bs : List ℕ) (v : LineView) → line_of bs ≡ Ok v → (is_line v ≡ true) × (bs ≡ line_bytes v)

-- Bytes are a line, or have one fault, each by its cause in the format's own words; no bytes are two of these.
pub record LinesTold (bs : List ℕ) : Type 0 where
  pub told : Tells bs (line_of bs)
  pub no_fault : LineBytes bs → (f : Fault) → HasFault bs f → ⊥
  pub one_fault : (f g : Fault) → HasFault bs f → HasFault bs g → f ≡ g

abbrev pub FormatTells : Type 0
FormatTells = (bs : List ℕ) → AreBytes bs → LinesTold bs

-- No line is the message of a tie.
abbrev pub LinesNoTie : Type 0
LinesNoTie = (bs : List ℕ) → is_ok (line_of bs) ≡ true → NoTie bs

-- Two different names hold together for no wish.
abbrev pub NamesApart : Type 0
NamesApart = (a b : List ℕ) → a ≢ b → (w : WishView) → (holds_for (NameIs a) w && holds_for (NameIs b) w) ≡ false

-- A line that stands in a row already adds nothing.
abbrev pub LineTwice : Type 0
LineTwice =
    (w : WishView) (served : ℕ → Bool) (ls : List (List ℕ)) (l : List ℕ) → Memᴰ l ls → all_met (says w) served (ls ++ l ∷ []) ≡ all_met (says w) served ls

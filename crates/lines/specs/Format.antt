-- The bytes of lines: a kind, and then what it holds. Assumes nothing.
use Rattle.std.specs.Prelude.{ℕ, List, [], ◌∷◌, ◌++◌}
use Rattle.numbers.specs.Bytes.{two_bytes}
use Rattle.parts.specs.Limits.{LimitView, MuseumIn, DayIn, MinuteIn, PersonsUpTo, NameIs, LineView, ALimit, AnElse}
use Rattle.wishes.specs.Format.{counted_bytes}

-- the kinds, all below 16
abbrev pub museums_kind : ℕ
museums_kind = 1

abbrev pub days_kind : ℕ
days_kind = 2

abbrev pub minutes_kind : ℕ
minutes_kind = 3

abbrev pub persons_kind : ℕ
persons_kind = 4

abbrev pub name_kind : ℕ
name_kind = 5

abbrev pub else_kind : ℕ
else_kind = 6

-- a beginning and an end
abbrev pub span_bytes : ℕ → ℕ → List ℕ
span_bytes a b = two_bytes a ++ two_bytes b

abbrev pub limit_bytes : LimitView → List ℕ
limit_bytes (MuseumIn ms) = museums_kind ∷ counted_bytes ms
limit_bytes (DayIn a b) = days_kind ∷ span_bytes a b
limit_bytes (MinuteIn a b) = minutes_kind ∷ span_bytes a b
limit_bytes (PersonsUpTo n) = persons_kind ∷ n ∷ []
limit_bytes (NameIs ls) = name_kind ∷ counted_bytes ls

abbrev pub line_bytes : LineView → List ℕ
line_bytes (ALimit l) = limit_bytes l
line_bytes (AnElse k) = else_kind ∷ two_bytes k

-- What is printed of a line and of a wish. Assumes nothing.
use Rattle.std.specs.Prelude.{ℕ, List, [], ◌∷◌, ◌++◌, map, codes, decimal}
use Rattle.std.specs.List.{join_with_byte}
use Rattle.parts.specs.Limits.{LimitView, MuseumIn, DayIn, MinuteIn, PersonsUpTo, NameIs, LineView, ALimit, AnElse, WishView}

-- numbers with commas between them
abbrev pub list_words : List ℕ → List ℕ
list_words ms = join_with_byte 44 (map decimal ms)

abbrev pub span_words : ℕ → ℕ → List ℕ
span_words a b = decimal a ++ (codes "-" ++ decimal b)

-- the empty name has no word
abbrev pub name_words : List ℕ → List ℕ
name_words [] = codes "name"
name_words (l ∷ ls) = codes "name " ++ (l ∷ ls)

abbrev pub limit_words : LimitView → List ℕ
limit_words (MuseumIn ms) = codes "museums " ++ list_words ms
limit_words (DayIn a b) = codes "days " ++ span_words a b
limit_words (MinuteIn a b) = codes "minutes " ++ span_words a b
limit_words (PersonsUpTo n) = codes "persons " ++ decimal n
limit_words (NameIs ls) = name_words ls

abbrev pub line_words : LineView → List ℕ
line_words (ALimit l) = limit_words l
line_words (AnElse k) = codes "else " ++ decimal k

-- an empty name is left off
abbrev pub end_words : List ℕ → List ℕ
end_words [] = []
end_words (l ∷ ls) = codes " name " ++ (l ∷ ls)

abbrev pub wish_words : WishView → List ℕ
wish_words w =
    (codes "museum " ++ (decimal w.museum ++ (codes " day " ++ (decimal w.day ++ (codes " minute " ++ (decimal w.minute ++ (codes " persons " ++ decimal w.persons))))))) ++ end_words w.name

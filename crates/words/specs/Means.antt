-- Which words are which line, by kind, and which are which wish: in plain words, without the parser. Assumes nothing.
use Rattle.std.specs.Prelude.{◌≡◌, ℕ, Bool, true, ◌&&◌, List, [], ◌∷◌, ◌++◌, Ok, Err, codes, Result, ◌≢◌, nat_le}
use Rattle.std.specs.List.{join_with_byte}
use Rattle.parts.specs.Limits.{MuseumIn, DayIn, MinuteIn, PersonsUpTo, NameIs, LineView, ALimit, AnElse, is_line, WishView}
use Rattle.texts.specs.declared.Cause.{Cause}
use Rattle.texts.specs.Numerals.{Writes}

-- each number, one after the other
abbrev pub WriteAll : List (List ℕ) → List ℕ → Type 0
WriteAll [] [] = Unit {0}
WriteAll [] (m ∷ ms) = ⊥
WriteAll (p ∷ ps) [] = ⊥
WriteAll (p ∷ ps) (m ∷ ms) = Writes p m × WriteAll ps ms

pub data Means : List (List ℕ) → LineView → Type 0 where
  museums_are : (ps : List (List ℕ)) (ms : List ℕ) → WriteAll ps ms → Means (codes "museums" ∷ join_with_byte 44 ps ∷ []) (ALimit (MuseumIn ms))
  days_are : (a b : List ℕ) (m n : ℕ) → Writes a m → Writes b n → Means (codes "days" ∷ (a ++ 45 ∷ b) ∷ []) (ALimit (DayIn m n))
  minutes_are : (a b : List ℕ) (m n : ℕ) → Writes a m → Writes b n → Means (codes "minutes" ∷ (a ++ 45 ∷ b) ∷ []) (ALimit (MinuteIn m n))
  persons_are : (a : List ℕ) (n : ℕ) → Writes a n → Means (codes "persons" ∷ a ∷ []) (ALimit (PersonsUpTo n))
  name_is : (ls : List ℕ) → Means (codes "name" ∷ ls ∷ []) (ALimit (NameIs ls))
  no_name : Means (codes "name" ∷ []) (ALimit (NameIs []))
  key_is : (a : List ℕ) (k : ℕ) → Writes a k → Means (codes "else" ∷ a ∷ []) (AnElse k)

-- what is told of the words is so: they are this line, which can be, or no line that can be
abbrev pub Told : List (List ℕ) → Result LineView Cause → Type 0
Told ws (Ok v) = Means ws v × (is_line v ≡ true)
Told ws (Err c) = (v : LineView) → Means ws v → is_line v ≢ true

-- a wish's name: left off, a word or none
pub data Named : List (List ℕ) → List ℕ → Type 0 where
  left_off : Named [] []
  wordless : Named (codes "name" ∷ []) []
  word_is : (ls : List ℕ) → Named (codes "name" ∷ ls ∷ []) ls

pub data WishMeans : List (List ℕ) → WishView → Type 0 where
  wish_is : (a b c d : List ℕ) (rest : List (List ℕ)) (w : WishView) → Writes a w.museum → Writes b w.day → Writes c w.minute → Writes d w.persons → Named rest w.name
      → WishMeans (codes "museum" ∷ a ∷ codes "day" ∷ b ∷ codes "minute" ∷ c ∷ codes "persons" ∷ d ∷ rest) w

-- the numbers fit their places, which are of 8 and of 16 bits; whether they are in range is another question
abbrev pub fits : WishView → Bool
fits w = nat_le w.museum 255 && (nat_le w.day 65535 && (nat_le w.minute 65535 && nat_le w.persons 255))

abbrev pub WishTold : List (List ℕ) → Result WishView Cause → Type 0
WishTold ws (Ok w) = WishMeans ws w × (fits w ≡ true)
WishTold ws (Err c) = (w : WishView) → WishMeans ws w → fits w ≢ true

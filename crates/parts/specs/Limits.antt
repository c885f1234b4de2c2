-- Wishes, limits and lines as values, and which of them can be. Assumes nothing.
use Rattle.std.specs.Prelude.{ℕ, zero, suc, Bool, true, ◌&&◌, List, length, nat_le}
use Rattle.narrow.specs.Rows.{all}

-- a limit (a first-party caveat): the museum is one of these; the day, and the minute of it, lies in a span; at most so many persons;
-- the name is this
pub data LimitView : Type 0 where
  MuseumIn : List ℕ → LimitView
  DayIn : ℕ → ℕ → LimitView
  MinuteIn : ℕ → ℕ → LimitView
  PersonsUpTo : ℕ → LimitView
  NameIs : List ℕ → LimitView

-- a line (a caveat): a limit, or that the holder of a key must say yes (a third-party caveat)
pub data LineView : Type 0 where
  ALimit : LimitView → LineView
  AnElse : ℕ → LineView

-- a wish: what somebody asks to be let through for
pub record WishView : Type 0 where
  pub museum : ℕ
  pub day : ℕ
  pub minute : ℕ
  pub persons : ℕ
  pub name : List ℕ

abbrev pub within : ℕ → ℕ → ℕ → Bool
within low high n = nat_le low n && nat_le n high

abbrev pub most_museums : ℕ
most_museums = 8

abbrev pub longest_name : ℕ
longest_name = 32

abbrev pub last_key : ℕ
last_key = 4095

-- at least so many; of none that says nothing
abbrev pub enough : ℕ → ℕ → Bool
enough zero n = true
enough (suc least) n = nat_le (suc least) n

-- from so many to so many bytes, each from one value to another
abbrev pub is_short : ℕ → ℕ → ℕ → ℕ → List ℕ → Bool
is_short least most low high bs = enough least (length bs) && nat_le (length bs) most && all (within low high) bs

-- museums are numbered from 1 to 200
abbrev pub is_museum : ℕ → Bool
is_museum n = within 1 200 n

-- a small letter, as its ASCII code
abbrev pub is_letter : ℕ → Bool
is_letter b = within 97 122 b

abbrev pub is_museums : List ℕ → Bool
is_museums ms = within 1 most_museums (length ms) && all is_museum ms

abbrev pub is_name : List ℕ → Bool
is_name ls = nat_le (length ls) longest_name && all is_letter ls

-- two numbers of 16 bits, the second no less
abbrev pub is_span : ℕ → ℕ → Bool
is_span a b = nat_le a b && nat_le b 65535

-- the limits that can be
abbrev pub is_limit : LimitView → Bool
is_limit (MuseumIn ms) = is_museums ms
is_limit (DayIn a b) = is_span a b
is_limit (MinuteIn a b) = is_span a b
is_limit (PersonsUpTo n) = nat_le n 255
is_limit (NameIs ls) = is_name ls

abbrev pub is_line : LineView → Bool
is_line (ALimit l) = is_limit l
is_line (AnElse k) = nat_le k last_key

-- the wishes that are in range
abbrev pub in_range : WishView → Bool
in_range w =
    is_museum w.museum && (within 1 65535 w.day && (nat_le w.minute 1439 && (within 1 200 w.persons && is_name w.name)))

-- Lines, keys and sums as terms, and all that can be worked out from terms.
-- Assumes nothing.
use Rattle.std.specs.Prelude.{ℕ, List, [], ◌∷◌}
use mathlib.Core.List.{Memᴰ}

-- a line of a ticket: a limit, by its number; or that somebody else must say yes, by the number of the key under which they do
pub data Line : Type 0 where
  Limit : ℕ → Line
  Else : ℕ → Line

-- Root n: the key of ticket n, which only the house has; Yes k: key k, under which a yes is said; Sum t l: the sum of line l under t; Tie a e: the yes e tied to the ticket a
pub data Term : Type 0 where
  Root : ℕ → Term
  Yes : ℕ → Term
  Sum : Term → Line → Term
  Tie : Term → Term → Term

-- whoever has the terms of the row can have this term
pub data Gets (have : List Term) : Term → Type 0 where
  has : {t : Term} → Memᴰ t have → Gets have t
  sum : {t : Term} (l : Line) → Gets have t → Gets have (Sum t l)
  tie : {a e : Term} → Gets have a → Gets have e → Gets have (Tie a e)

-- the sum of a row of lines under t, the latest line first
unfoldable pub sums : Term → List Line → Term
sums t [] = t
sums t (l ∷ ls) = Sum (sums t ls) l

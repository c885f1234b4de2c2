-- How a row of lines is read: a count, and then each line behind its length. Assumes nothing.
use Rattle.std.specs.Prelude.{ℕ, zero, suc, cond, List, [], ◌∷◌, length, take, drop, Ok, Err, Result, nat_lt}
use Rattle.narrow.specs.Term.{Bytes}
use Rattle.lines.specs.declared.Fault.{Fault}
use Rattle.lines.specs.declared.Fault.TheVariants.{Shape, TooMany}
use Rattle.lines.specs.declared.Place.{Place}
use Rattle.rows.specs.Standing.{most_at, pushed}

-- the next step of reading, if there was no fault
abbrev pub next : {A B : Type 0} → Result A Fault → (A → Result B Fault) → Result B Fault
next (Ok x) f = f x
next (Err e) f = Err e

-- the bytes behind their length, at the front, and what follows
abbrev pub part_at : Bytes → Result (Bytes × Bytes) Fault
part_at [] = Err Shape
part_at (n ∷ bs) = cond (nat_lt (length bs) n) (Err Shape) (Ok (take n bs, drop n bs))

-- so many lines more, after those that were read, and what follows
unfoldable pub lines_from : Place → ℕ → List Bytes → Bytes → Result (List Bytes × Bytes) Fault
lines_from p zero ls bs = Ok (ls, bs)
lines_from p (suc n) ls bs = next (part_at bs) (λ a. next (pushed p ls a.0) (λ more. lines_from p n more a.1))

-- a row at the front, and what follows
unfoldable pub row_at : Place → Bytes → Result (List Bytes × Bytes) Fault
row_at p [] = Err Shape
row_at p (n ∷ bs) = cond (nat_lt (most_at p) n) (Err TooMany) (lines_from p n [] bs)

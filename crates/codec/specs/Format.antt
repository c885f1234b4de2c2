-- Formats: how values are written as bytes, and read from the front of bytes. Each is made of smaller ones. Assumes nothing.
use Rattle.std.specs.Prelude.{ℕ, zero, suc, Bool, true, cond, ◌&&◌, List, [], ◌∷◌, ◌++◌, length, take, drop, Ok, Err, Result, ◌==◌, nat_le, nat_lt}
use Rattle.std.specs.Option.{ok_or}
use Rattle.narrow.specs.Term.{Bytes}
use Rattle.narrow.specs.Rows.{all}
use Rattle.narrow.specs.Can.{same_bytes}
use Rattle.numbers.specs.Bytes.{two_bytes}
use Rattle.lines.specs.declared.Fault.{Fault}
use Rattle.lines.specs.declared.Fault.TheVariants.{Shape, TooMany}
use Rattle.lines.specs.declared.Place.{Place}
use Rattle.parts.specs.Limits.{WishView}
use Rattle.wishes.specs.Format.{wish_bytes}
use Rattle.numbers.specs.Places.{number}
use Rattle.wishes.specs.Reading.{wish_of}
use Rattle.rows.specs.Standing.{most_at, stands}
use Rattle.rows.specs.Rowing.{next, row_at}
use Rattle.rows.specs.Wire.{wire}

-- which values there are, how one is written, and how one is read at the front, with what follows
pub record Format (A : Type 0) : Type 0 where
  pub fits : A → Bool
  pub write : A → Bytes
  pub read : Bytes → Result (A × Bytes) Fault

-- so many bytes, whatever they are
unfoldable pub fixed : ℕ → Format Bytes
fixed n =
    record {
      fits = λ b. (length b == n);
      write = λ b. b;
      read = λ bs. cond (nat_lt (length bs) n) (Err Shape) (Ok (take n bs, drop n bs));
    }

-- a number of two bytes: what it would have to be, if it is written as these
unfoldable pub two_byte : Format ℕ
two_byte =
    record {
      fits = λ n. true;
      write = two_bytes;
      read = λ bs. cond (same_bytes bs (two_bytes (number bs 0) ++ drop 2 bs)) (Ok (number bs 0, drop 2 bs)) (Err Shape);
    }

-- a row of lines as a ticket or a yes has it: a count, and each line behind its length
unfoldable pub row : Place → Format (List Bytes)
row p = record { fits = λ ls. nat_le (length ls) (most_at p) && all (stands p) ls; write = λ ls. length ls ∷ wire ls; read = row_at p }

-- a wish, in range or not
unfoldable pub wish : Format WishView
wish = record { fits = λ w. true; write = wish_bytes; read = λ bs. ok_or (wish_of bs) Shape }

-- what follows a byte that tells the kind
abbrev pub read_behind : {A : Type 0} → ℕ → (Bytes → Result (A × Bytes) Fault) → Bytes → Result (A × Bytes) Fault
read_behind k f [] = Err Shape
read_behind k f (b ∷ bs) = cond (b == k) (f bs) (Err Shape)

unfoldable pub behind : {A : Type 0} → ℕ → Format A → Format A
behind k f = record { fits = f.fits; write = λ a. k ∷ f.write a; read = read_behind k f.read }

-- one after the other
unfoldable pub both : {A B : Type 0} → Format A → Format B → Format (A × B)
both f g =
    record {
      fits = λ p. f.fits p.0 && g.fits p.1;
      write = λ p. f.write p.0 ++ g.write p.1;
      read = λ bs. next (f.read bs) (λ a. next (g.read a.1) (λ b. Ok ((a.0, b.0), b.1)));
    }

-- only those that pass a test; the fault of another is told once it was read
unfoldable pub only : {A : Type 0} → (A → Bool) → Fault → Format A → Format A
only t e f =
    record {
      fits = λ a. t a && f.fits a;
      write = f.write;
      read = λ bs. next (f.read bs) (λ a. cond (t a.0) (Ok a) (Err e));
    }

-- the same under other names: `to` and `from` are there and back
unfoldable pub named : {A B : Type 0} → (A → B) → (B → A) → Format A → Format B
named to from f =
    record {
      fits = λ b. f.fits (from b);
      write = λ b. f.write (from b);
      read = λ bs. next (f.read bs) (λ a. Ok (to a.0, a.1));
    }

-- so many, one after the other
unfoldable pub read_several : {A : Type 0} → (Bytes → Result (A × Bytes) Fault) → ℕ → Bytes → Result (List A × Bytes) Fault
read_several f zero bs = Ok ([], bs)
read_several f (suc n) bs = next (f bs) (λ a. next (read_several f n a.1) (λ more. Ok (a.0 ∷ more.0, more.1)))

unfoldable pub write_several : {A : Type 0} → (A → Bytes) → List A → Bytes
write_several f [] = []
write_several f (a ∷ more) = f a ++ write_several f more

-- a count of at most so many, and each
abbrev pub read_counted : {A : Type 0} → ℕ → (Bytes → Result (A × Bytes) Fault) → Bytes → Result (List A × Bytes) Fault
read_counted most f [] = Err Shape
read_counted most f (n ∷ bs) = cond (nat_lt most n) (Err TooMany) (read_several f n bs)

unfoldable pub counted : {A : Type 0} → ℕ → Format A → Format (List A)
counted most f =
    record {
      fits = λ xs. nat_le (length xs) most && all f.fits xs;
      write = λ xs. length xs ∷ write_several f.write xs;
      read = read_counted most f.read;
    }

-- nothing may be left over
abbrev pub at_end : {A : Type 0} → A × Bytes → Result A Fault
at_end (a, []) = Ok a
at_end (a, b ∷ bs) = Err Shape

-- the whole of the bytes
unfoldable pub whole : {A : Type 0} → Format A → Bytes → Result A Fault
whole f bs = next (f.read bs) at_end

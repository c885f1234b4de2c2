-- What holds of every format here. Assumes nothing.
use Rattle.std.specs.Prelude.{◌≡◌, true, [], ◌++◌, Ok, Err, ◌≢◌}
use Rattle.narrow.specs.Term.{Bytes}
use Rattle.lines.specs.declared.Fault.{Fault}
use Rattle.lines.specs.declared.Fault.TheVariants.{Shape}
use Rattle.codec.specs.Format.{Format, whole}
use Rattle.codec.specs.Things.{ticket, yes, tied, passed, key}

-- At the front of bytes. What is written is read back as it was, whatever follows; what is read is written as just these bytes. What
-- was read, or is at fault, is so whatever follows: only where bytes are missing, more of them may make a difference.
pub record Exact {A : Type 0} (f : Format A) : Type 0 where
  pub back : (a : A) (rest : Bytes) → f.fits a ≡ true → f.read (f.write a ++ rest) ≡ Ok (a, rest)
  pub only : (bs : Bytes) (a : A) (rest : Bytes) → f.read bs ≡ Ok (a, rest) → (f.fits a ≡ true) × (bs ≡ f.write a ++ rest)
  pub kept : (bs more : Bytes) (a : A) (rest : Bytes) → f.read bs ≡ Ok (a, rest) → f.read (bs ++ more) ≡ Ok (a, rest ++ more)
  pub told : (bs more : Bytes) (e : Fault) → f.read bs ≡ Err e → (e ≢ Shape) → f.read (bs ++ more) ≡ Err e

-- As a whole. What is written is read back as it was; what is read is written as just these bytes, so that no two byte strings are
-- one thing; cut short anywhere, it has fault 1; with bytes left over, it has fault 1.
pub record Inverse {A : Type 0} (f : Format A) : Type 0 where
  pub back : (a : A) → f.fits a ≡ true → whole f (f.write a) ≡ Ok a
  pub only : (bs : Bytes) (a : A) → whole f bs ≡ Ok a → (f.fits a ≡ true) × (bs ≡ f.write a)
  pub cut : (a : A) → f.fits a ≡ true → (bs more : Bytes) → bs ++ more ≡ f.write a → (more ≢ []) → whole f bs ≡ Err Shape
  pub over : (a : A) → f.fits a ≡ true → (more : Bytes) → (more ≢ []) → whole f (f.write a ++ more) ≡ Err Shape

-- So it is for every kind.
pub record FormatsExact : Type 0 where
  pub tickets : Exact ticket × Inverse ticket
  pub yeses : Exact yes × Inverse yes
  pub ties : Exact tied × Inverse tied
  pub passed_on : Exact passed × Inverse passed
  pub keys : Exact key × Inverse key

-- The keys of a book: looked up by number, and read one by one. Assumes nothing.
use Rattle.std.specs.Prelude.{ℕ, zero, suc, Bool, true, cond, not, ◌&&◌, List, [], ◌∷◌, ◌++◌, length, is_some, Some, None, Ok, Option, Result, ◌==◌}
use Rattle.narrow.specs.Term.{Bytes}
use Rattle.narrow.specs.Rows.{all}
use Rattle.lines.specs.declared.Fault.{Fault}
use Rattle.lines.specs.declared.Fault.TheVariants.{Unreadable}
use Rattle.rows.specs.Rowing.{next}
use Rattle.codec.specs.Format.{Format, two_byte, behind, both, only, write_several}
use Rattle.codec.specs.Things.{key_kind, key_number, mac, key}

-- a key of yeses: its number and its secret
abbrev pub KeyView : Type 0
KeyView = ℕ × Bytes

-- the secret of the first key with that number
unfoldable pub secret_in : List KeyView → ℕ → Option Bytes
secret_in [] n = None
secret_in (k ∷ ks) n = cond (k.0 == n) (Some k.1) (secret_in ks n)

-- whether a key has that number
abbrev pub taken : List KeyView → ℕ → Bool
taken ks n = is_some (secret_in ks n)

-- no two keys have one number
unfoldable pub apart : List KeyView → Bool
apart [] = true
apart (k ∷ ks) = not (taken ks k.0) && apart ks

-- the number of a key behind others: one that is taken is fault 2 as soon as it is read
abbrev pub free_number : List KeyView → Format ℕ
free_number ks = only (λ n. not (taken ks n)) Unreadable key_number

-- a key behind others
abbrev pub new_key : List KeyView → Format KeyView
new_key ks = behind key_kind (both (free_number ks) mac)

-- so many keys more, after those that were read, and what follows
unfoldable pub keys_from : ℕ → List KeyView → Bytes → Result (List KeyView × Bytes) Fault
keys_from zero ks bs = Ok (ks, bs)
keys_from (suc n) ks bs = next ((new_key ks).read bs) (λ k. keys_from n (ks ++ k.0 ∷ []) k.1)

-- a count and so many keys. The count has no bound of its own: of more than 4096 keys two have one number
unfoldable pub book_keys : Format (List KeyView)
book_keys =
    record {
      fits = λ ks. all key.fits ks && apart ks;
      write = λ ks. two_byte.write (length ks) ++ write_several key.write ks;
      read = λ bs. next (two_byte.read bs) (λ n. keys_from n.0 [] n.1);
    }

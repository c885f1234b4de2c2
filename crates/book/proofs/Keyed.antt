-- The keys of a book, read one by one: what is written is read back, and only that; and a fault is told whatever follows. Assumes nothing.
use Rattle.std.proofs.Common.{◌≡◌, ℕ, zero, suc, ◌+◌, true, false, not, ◌&&◌, ◌⊎◌, List, [], ◌∷◌, ◌++◌, length, Ok, Err, sym, refl, ap, ◌∙◌, inl, inr, append_assoc, append-nil, arith}
use Rattle.std.proofs.lemmas.Bool.{and_parts, and_from, not-true, not_from_false}
use Rattle.narrow.specs.Rows.{all}
use Rattle.narrow.specs.Term.{Bytes, mac_length}
use Rattle.narrow.proofs.Rows.{contradiction}
use Rattle.lines.specs.declared.Fault.{Fault}
use Rattle.lines.specs.declared.Fault.TheVariants.{Shape}
use Rattle.rows.specs.Rowing.{next}
use Rattle.rows.proofs.Exactly.{next_value, next_fault, next_on, next_stop, pair_same}
use Rattle.codec.specs.Format.{two_byte, behind, both, only, write_several}
use Rattle.codec.specs.Laws.{Exact}
use Rattle.codec.specs.Things.{key_kind, key_number, mac, key}
use Rattle.codec.proofs.Combined.{exact_from, fixed_exact, two_byte_exact, behind_exact, both_exact, only_exact}
use Rattle.codec.proofs.EachKind.{key_number_exact}
use Rattle.book.specs.Keys.{KeyView, taken, apart, new_key, keys_from, book_keys}
use Rattle.book.proofs.Apart.{apart_push, free_before}

module _ (ks : List KeyView) where
  new_key_exact : Exact (new_key ks)
  new_key_exact = behind_exact _ (both_exact _ mac (only_exact key_number key_number_exact _ _) (fixed_exact mac_length)) key_kind

  module _ (k : KeyView) where
    -- a key whose number is free
    free_fits : taken ks k.0 ≡ false → key.fits k ≡ true → (new_key ks).fits k ≡ true
    unfolding behind both only
    free_fits free fits =
        let (number, secret) = and_parts (key_number.fits k.0) (mac.fits k.1) fits in
        and_from (not (taken ks k.0) && key_number.fits k.0) (mac.fits k.1) (and_from (not (taken ks k.0)) (key_number.fits k.0) (not_from_false (taken ks k.0) free) number) secret

    fits_free : (new_key ks).fits k ≡ true → (taken ks k.0 ≡ false) × (key.fits k ≡ true)
    unfolding behind both only
    fits_free h =
        let (first, secret) = and_parts (not (taken ks k.0) && key_number.fits k.0) (mac.fits k.1) h in
        let (free, number) = and_parts (not (taken ks k.0)) (key_number.fits k.0) first in
        (not-true (taken ks k.0) free, and_from (key_number.fits k.0) (mac.fits k.1) number secret)

    same_bytes_written : (new_key ks).write k ≡ key.write k
    unfolding behind both only
    same_bytes_written = refl

    new_key_back : (rest : Bytes) → taken ks k.0 ≡ false → key.fits k ≡ true → (new_key ks).read (key.write k ++ rest) ≡ Ok (k, rest)
    new_key_back rest free fits = ap (λ (b : Bytes). (new_key ks).read (b ++ rest)) (sym same_bytes_written) ∙ new_key_exact.back k rest (free_fits free fits)

    pub new_key_only : (bs rest : Bytes) → (new_key ks).read bs ≡ Ok (k, rest) → (taken ks k.0 ≡ false) × (key.fits k ≡ true) × (bs ≡ key.write k ++ rest)
    new_key_only bs rest e =
        let (fits, bytes) = new_key_exact.only bs k rest e in
        let (free, good) = fits_free fits in
        (free, good, bytes ∙ ap (λ (b : Bytes). b ++ rest) same_bytes_written)

-- those that are there are read, and then the others
pub keys_run : (ks acc : List KeyView) (count n : ℕ) (rest : Bytes) → count ≡ length ks + n → all key.fits ks ≡ true → apart (acc ++ ks) ≡ true →
    keys_from count acc (write_several key.write ks ++ rest) ≡ keys_from n (acc ++ ks) rest
unfolding keys_from write_several all
keys_run [] acc count n rest many good a = let left : count ≡ n = omega (arith, many) in λ i. keys_from (left i) (sym (append-nil acc) i) rest
keys_run (k ∷ ks) acc zero n rest many good a = absurd (omega (arith, many))
keys_run (k ∷ ks) acc (suc count) n rest many good a =
    let (here, below) = and_parts (key.fits k) (all key.fits ks) good in
    let after = write_several key.write ks ++ rest in
    let read = ap (new_key acc).read (append_assoc (key.write k) (write_several key.write ks) rest) ∙ new_key_back acc k after (free_before acc k ks a) here in
    let longer = append_assoc acc (k ∷ []) ks in
    next_on _ _ (k, after) read ∙ (keys_run ks (acc ++ k ∷ []) count n rest (omega (arith, many)) below (ap apart longer ∙ a) ∙ ap (λ (all_of : List KeyView). keys_from n all_of rest) longer)

keys_only : (n : ℕ) (acc : List KeyView) (bs : Bytes) (out : List KeyView) (rest : Bytes) → apart acc ≡ true → keys_from n acc bs ≡ Ok (out, rest) →
    (ks : List KeyView) × (out ≡ acc ++ ks) × (length ks ≡ n) × ((all key.fits ks ≡ true) × (apart out ≡ true)) × (bs ≡ write_several key.write ks ++ rest)
unfolding keys_from write_several all
keys_only zero acc bs out rest a e = let (same, left) = pair_same acc out bs rest e in ([], sym same ∙ sym (append-nil acc), refl, (refl, ap apart (sym same) ∙ a), left)
keys_only (suc n) acc bs out rest a e =
    let (k, read, e1) = next_value ((new_key acc).read bs) _ (out, rest) e in
    let (free, here, bytes) = new_key_only acc k.0 bs k.1 read in
    let (ks, are, many, (good, distinct), left) = keys_only n (acc ++ k.0 ∷ []) k.1 out rest (apart_push acc k.0 a free) e1 in (
      k.0 ∷ ks,
      are ∙ append_assoc acc (k.0 ∷ []) ks,
      ap suc many,
      (and_from (key.fits k.0) (all key.fits ks) here good, distinct),
      bytes ∙ (ap (λ (b : Bytes). key.write k.0 ++ b) left ∙ sym (append_assoc (key.write k.0) (write_several key.write ks) rest)),
    )

keys_told : (n : ℕ) (acc : List KeyView) (bs more : Bytes) (f : Fault) → keys_from n acc bs ≡ Err f → (f ≡ Shape → ⊥) → keys_from n acc (bs ++ more) ≡ Err f
unfolding keys_from
keys_told zero acc bs more f e ne = contradiction (cc)
keys_told (suc n) acc bs more f e ne = by (λ ks after q. keys_told n ks after more f q ne) (next_fault ((new_key acc).read bs) _ f e)
  where
    by : ((ks : List KeyView) (after : Bytes) → keys_from n ks after ≡ Err f → keys_from n ks (after ++ more) ≡ Err f) →
        ((new_key acc).read bs ≡ Err f) ⊎ ((k : KeyView × Bytes) × ((new_key acc).read bs ≡ Ok k) × (keys_from n (acc ++ k.0 ∷ []) k.1 ≡ Err f)) →
        next ((new_key acc).read (bs ++ more)) (λ k. keys_from n (acc ++ k.0 ∷ []) k.1) ≡ Err f
    by on (inl q) = next_stop _ _ f ((new_key_exact acc).told bs more f q ne)
    by on (inr (k, q, e1)) = next_on _ _ (k.0, k.1 ++ more) ((new_key_exact acc).kept bs more k.0 k.1 q) ∙ on (acc ++ k.0 ∷ []) k.1 e1

fits_all : (n : ℕ) → two_byte.fits n ≡ true
unfolding two_byte
fits_all n = refl

pub apart_none : apart [] ≡ true
unfolding apart
apart_none = refl

pub done_reading : (n : ℕ) (ks : List KeyView) (rest : Bytes) → n ≡ 0 → keys_from n ks rest ≡ Ok (ks, rest)
unfolding keys_from
done_reading n ks rest e = ap (λ (m : ℕ). keys_from m ks rest) e

pub book_keys_exact : Exact book_keys
unfolding book_keys
book_keys_exact = exact_from book_keys back just told
  where
    back : (ks : List KeyView) (rest : Bytes) → (all key.fits ks && apart ks) ≡ true → next (two_byte.read ((two_byte.write (length ks) ++ write_several key.write ks) ++ rest)) (λ n. keys_from n.0 [] n.1) ≡ Ok (ks, rest)
    back ks rest h =
        let (good, distinct) = and_parts (all key.fits ks) (apart ks) h in
        let after = write_several key.write ks ++ rest in
        let read = ap two_byte.read (append_assoc (two_byte.write (length ks)) (write_several key.write ks) rest) ∙ two_byte_exact.back (length ks) after (fits_all (length ks)) in
        next_on _ _ (length ks, after) read ∙ (keys_run ks [] (length ks) 0 rest (omega arith) good distinct ∙ done_reading 0 ks rest refl)

    just : (bs : Bytes) (ks : List KeyView) (rest : Bytes) → next (two_byte.read bs) (λ n. keys_from n.0 [] n.1) ≡ Ok (ks, rest) →
        ((all key.fits ks && apart ks) ≡ true) × (bs ≡ (two_byte.write (length ks) ++ write_several key.write ks) ++ rest)
    just bs ks rest e =
        let (n, read, e1) = next_value (two_byte.read bs) _ (ks, rest) e in
        let (some, are, many, (good, distinct), bytes) = keys_only n.0 [] n.1 ks rest apart_none e1 in
        let (any, count) = two_byte_exact.only bs n.0 n.1 read in
        let number : n.0 ≡ length ks = sym many ∙ ap length (sym are) in (
          and_from (all key.fits ks) (apart ks) (ap (all key.fits) are ∙ good) distinct,
          count ∙
              ((λ i. two_byte.write (number i) ++ bytes i) ∙
              (ap (λ (m : List KeyView). two_byte.write (length ks) ++ (write_several key.write m ++ rest)) (sym are) ∙ sym (append_assoc (two_byte.write (length ks)) (write_several key.write ks) rest))),
        )

    told : (bs more : Bytes) (f : Fault) → next (two_byte.read bs) (λ n. keys_from n.0 [] n.1) ≡ Err f → (f ≡ Shape → ⊥) → next (two_byte.read (bs ++ more)) (λ n. keys_from n.0 [] n.1) ≡ Err f
    told bs more f e ne = by (next_fault (two_byte.read bs) _ f e)
      where
        by : (two_byte.read bs ≡ Err f) ⊎ ((n : ℕ × Bytes) × (two_byte.read bs ≡ Ok n) × (keys_from n.0 [] n.1 ≡ Err f)) → next (two_byte.read (bs ++ more)) (λ n. keys_from n.0 [] n.1) ≡ Err f
        by (inl q) = next_stop _ _ f (two_byte_exact.told bs more f q ne)
        by (inr (n, q, e1)) = next_on _ _ (n.0, n.1 ++ more) (two_byte_exact.kept bs more n.0 n.1 q) ∙ keys_told n.0 [] n.1 more f e1 ne

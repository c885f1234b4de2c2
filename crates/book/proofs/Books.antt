-- What is read of a book, step by step, and the laws of books. Assumes nothing.
use Rattle.std.proofs.Common.{◌≡◌, ℕ, suc, ◌-◌, ◌<◌, ◌≤◌, true, ◌&&◌, leb, ◌⊎◌, List, [], ◌∷◌, ◌++◌, length, Ok, Err, refl, ap, ◌∙◌, inl, inr, arith}
use Rattle.std.proofs.lemmas.Bool.{and_parts, and_from, eqb-true, not_from_true, le-leb, lt-leb, cases_lt}
use Rattle.narrow.specs.Rows.{all}
use Rattle.narrow.specs.Term.{Bytes, mac_length}
use Rattle.numbers.specs.Bytes.{two_bytes}
use Rattle.parts.specs.Limits.{last_key}
use Rattle.lines.specs.declared.Fault.{Fault}
use Rattle.lines.specs.declared.Fault.TheVariants.{Shape, Unreadable}
use Rattle.rows.specs.Rowing.{next}
use Rattle.rows.proofs.Exactly.{next_on, next_stop}
use Rattle.codec.specs.Format.{fixed, two_byte, behind, both, only, named, write_several}
use Rattle.codec.specs.Laws.{Exact}
use Rattle.codec.specs.Things.{key_kind, key_number, mac, key}
use Rattle.codec.proofs.Combined.{fixed_exact, fixed_join, two_byte_join, behind_exact, both_exact, named_exact}
use Rattle.codec.proofs.Steps.{behind_on, behind_other, named_on, named_stop, both_first, both_second, both_on, only_on, only_other, only_stop}
use Rattle.codec.proofs.Wholly.{inverse, whole_stop, whole_over, whole_on}
use Rattle.book.specs.Keys.{KeyView, taken, apart, free_number, new_key, keys_from, book_keys}
use Rattle.book.specs.Booking.{BookView, book_kind, book, is_book, book_of}
use Rattle.book.specs.Laws.{BookExact, OneOfANumber, up_to_number}
use Rattle.book.proofs.Apart.{apart_at, secret_at}
use Rattle.book.proofs.Few.{few_keys}
use Rattle.book.proofs.Keyed.{keys_run, book_keys_exact}

format_exact : Exact book
format_exact = behind_exact _ (named_exact _ (both_exact mac book_keys (fixed_exact mac_length) book_keys_exact) _ _ (λ a. refl) (λ b. refl)) book_kind

pub book_exact : BookExact
unfolding book_of
book_exact =
    let both_ways = inverse book format_exact in
    record { format = (format_exact, both_ways); back = both_ways.back; only = both_ways.only }

-- ---- what is told, by what was read

module _ (bs : Bytes) where
  pub not_read : (f : Fault) → book.read bs ≡ Err f → book_of bs ≡ Err f
  unfolding book_of
  not_read f e = whole_stop book bs f e

  module _ (b : BookView) (rest : Bytes) (e : book.read bs ≡ Ok (b, rest)) where
    pub more_left : (rest ≡ [] → ⊥) → book_of bs ≡ Err Shape
    unfolding book_of
    more_left ne = whole_over book bs b rest e ne

    pub all_read : rest ≡ [] → book_of bs ≡ Ok b
    unfolding book_of
    all_read none = whole_on book bs b rest e none

pub other_kind : (bs : Bytes) → ((rest : Bytes) → bs ≡ book_kind ∷ rest → ⊥) → book.read bs ≡ Err Shape
other_kind bs ne = behind_other _ book_kind bs ne

module _ (bs r0 : Bytes) (kind : bs ≡ book_kind ∷ r0) where
  pub no_house : (f : Fault) → mac.read r0 ≡ Err f → book.read bs ≡ Err f
  no_house f e = behind_on _ book_kind bs r0 kind ∙ named_stop _ _ _ _ _ (both_first mac book_keys r0 f e)

  module _ (house r1 : Bytes) (one : mac.read r0 ≡ Ok (house, r1)) where
    no_keys : (f : Fault) → book_keys.read r1 ≡ Err f → book.read bs ≡ Err f
    no_keys f e = behind_on _ book_kind bs r0 kind ∙ named_stop _ _ _ _ _ (both_second mac book_keys r0 house r1 one f e)

    pub no_count : (f : Fault) → two_byte.read r1 ≡ Err f → book.read bs ≡ Err f
    unfolding book_keys
    no_count f e = no_keys f (next_stop _ _ f e)

    module _ (count : ℕ) (r2 : Bytes) (many : two_byte.read r1 ≡ Ok (count, r2)) where
      pub faulty_keys : (f : Fault) → keys_from count [] r2 ≡ Err f → book.read bs ≡ Err f
      unfolding book_keys
      faulty_keys f e = no_keys f (next_on _ _ (count, r2) many ∙ e)

      pub keys_read : (ks : List KeyView) (r3 : Bytes) → keys_from count [] r2 ≡ Ok (ks, r3) → book.read bs ≡ Ok (record { house = house; keys = ks }, r3)
      unfolding book_keys
      keys_read ks r3 e = behind_on _ book_kind bs r0 kind ∙ named_on _ _ _ _ _ _ (both_on mac book_keys r0 house r1 one ks r3 (next_on _ _ (count, r2) many ∙ e))

-- ---- a key, and then the others

module _ (n : ℕ) (ks : List KeyView) (bs : Bytes) (left : 0 < n) where
  one_more : keys_from n ks bs ≡ next ((new_key ks).read bs) (λ k. keys_from (n - 1) (ks ++ k.0 ∷ []) k.1)
  unfolding keys_from
  one_more = let one : n ≡ suc (n - 1) = omega arith in ap (λ (k : ℕ). keys_from k ks bs) one

  pub keys_on : (k : KeyView) (rest : Bytes) → (new_key ks).read bs ≡ Ok (k, rest) → keys_from n ks bs ≡ keys_from (n - 1) (ks ++ k ∷ []) rest
  keys_on k rest e = one_more ∙ next_on _ _ (k, rest) e

  pub keys_stop : (f : Fault) → (new_key ks).read bs ≡ Err f → keys_from n ks bs ≡ Err f
  keys_stop f e = one_more ∙ next_stop _ _ f e

-- ---- no two of one number

-- where the number of the next key is at fault, so is the book
at_number : (b : BookView) → is_book b ≡ true → (count n : ℕ) (more : Bytes) → length b.keys < count →
    (free_number b.keys).read (two_bytes n ++ more) ≡ Err Unreadable → book_of (up_to_number b count n more) ≡ Err Unreadable
unfolding behind both named fixed book_keys up_to_number
at_number b good count n more fewer e =
    let (size, fit) = and_parts (mac.fits b.house) (all key.fits b.keys && apart b.keys) good in
    let (fits, distinct) = and_parts (all key.fits b.keys) (apart b.keys) fit in
    let next_one = key_kind ∷ (two_bytes n ++ more) in
    let ks = write_several key.write b.keys ++ next_one in
    let run = keys_run b.keys [] count (count - length b.keys) next_one (omega arith) fits distinct in
    let stop = keys_stop (count - length b.keys) b.keys next_one (omega arith) Unreadable (behind_on (both (free_number b.keys) mac) key_kind next_one (two_bytes n ++ more) refl ∙ both_first (free_number b.keys) mac (two_bytes n ++ more) Unreadable e) in
    not_read (up_to_number b count n more) Unreadable
    (faulty_keys (up_to_number b count n more) _ refl b.house (two_bytes count ++ ks) (fixed_join mac_length b.house (two_bytes count ++ ks) (eqb-true (length b.house) mac_length size)) count ks (two_byte_join count ks) Unreadable (run ∙ stop))

-- numbers up to 4095, of keys that can be
small : (ks : List KeyView) → all key.fits ks ≡ true → all (λ k. leb k.0 last_key) ks ≡ true
unfolding all behind both only two_byte
small [] h = refl
small (k ∷ ks) h =
    let (here, below) = and_parts (key.fits k) (all key.fits ks) h in
    and_from (leb k.0 last_key) (all (λ k. leb k.0 last_key) ks) (and_parts (leb k.0 last_key) true (and_parts (key_number.fits k.0) (mac.fits k.1) here).0).0 (small ks below)

parts : (bs : Bytes) (b : BookView) → book_of bs ≡ Ok b → (all key.fits b.keys ≡ true) × (apart b.keys ≡ true)
unfolding behind both named book_keys
parts bs b e = and_parts (all key.fits b.keys) (apart b.keys) (and_parts (mac.fits b.house) (all key.fits b.keys && apart b.keys) (book_exact.only bs b e).0).1

-- the number of the next key, by itself
module _ (ks : List KeyView) (n : ℕ) (more : Bytes) where
  too_far : last_key < n → (free_number ks).read (two_bytes n ++ more) ≡ Err Unreadable
  too_far far = only_stop key_number _ _ (two_bytes n ++ more) Unreadable (only_other two_byte _ _ (two_bytes n ++ more) n more (two_byte_join n more) (lt-leb n last_key far))

  there_already : taken ks n ≡ true → (free_number ks).read (two_bytes n ++ more) ≡ Err Unreadable
  there_already there = by (cases_lt last_key n)
    where
      by : (last_key < n) ⊎ (n ≤ last_key) → (free_number ks).read (two_bytes n ++ more) ≡ Err Unreadable
      by (inl far) = too_far far
      by (inr near) =
          only_other key_number _ _ (two_bytes n ++ more) n more (only_on two_byte _ _ (two_bytes n ++ more) n more (two_byte_join n more) (le-leb n last_key near)) (not_from_true (taken ks n) there)

pub one_of_a_number : OneOfANumber
one_of_a_number =
    record {
      apart = λ bs b e i j d h l. apart_at b.keys i j d (parts bs b e).1 h l;
      found = λ bs b e i d h. secret_at b.keys i d (parts bs b e).1 h;
      few = λ bs b e. few_keys b.keys (parts bs b e).1 (small b.keys (parts bs b e).0);
      second = λ b good count n more fewer there. at_number b good count n more fewer (there_already b.keys n more there);
      past = λ b good count n more fewer far. at_number b good count n more fewer (too_far b.keys n more far);
    }

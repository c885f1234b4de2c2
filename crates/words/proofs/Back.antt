-- What is printed is read back. Assumes nothing.
use Rattle.std.proofs.Common.{◌≡◌, ℕ, ◌^◌, ◌<◌, ◌≤◌, true, false, leb, List, [], ◌∷◌, map, length, Ok, codes, decimal, sym, refl, ap, subst, arith}
use Rattle.std.specs.Int.{IsInRange}
use Rattle.std.proofs.lemmas.Fmt.{digits_decimal, decimal_nonempty}
use Rattle.std.proofs.ByRecursion.{All-append}
use Rattle.std.proofs.lemmas.Bool.{and_parts, leb-true}
use Rattle.std.proofs.lemmas.Bool.Decides.{nat_tests}
use Rattle.narrow.specs.Rows.{all}
use Rattle.parts.specs.Limits.{MuseumIn, DayIn, MinuteIn, PersonsUpTo, NameIs, LineView, ALimit, AnElse, is_line, is_museum, is_letter, longest_name, within}
use Rattle.texts.specs.Cuts.{gap, words_of}
use Rattle.words.specs.Lines.{line_in}
use Rattle.words.specs.Means.{WriteAll, Means, museums_are, days_are, minutes_are, persons_are, name_is, no_name, key_is}
use Rattle.printing.specs.Printed.{list_words, span_words, line_words}
use Rattle.texts.proofs.Cuts.{Free, one_word}
use Rattle.texts.proofs.Digits.{own, digits_free}
use Rattle.words.proofs.Listing.{museum_small}
use Rattle.words.proofs.Taking.{line_takes}

gap_out : (b : ℕ) → IsInRange 48 57 b → gap b ≡ false
gap_out b h = grind (arith, nat_tests)

module _ (n : ℕ) (small : n < 2 ^ 64) where
  pub decimal_free : Free gap (decimal n)
  decimal_free = digits_free gap gap_out (decimal n) (digits_decimal own n small)

  pub decimal_full : decimal n ≡ [] → ⊥
  decimal_full e = omega (arith, ap length e, decimal_nonempty n small)

-- ---- what stands after the first word is one word

span_word : (a b : ℕ) → a < 2 ^ 64 → b < 2 ^ 64 → words_of (span_words a b) ≡ span_words a b ∷ []
span_word a b p q =
    one_word (span_words a b) (All-append (λ x. gap x ≡ false) (decimal a) (45 ∷ decimal b) (decimal_free a p) (refl, decimal_free b q))
    (λ e. omega (arith, ap length e, lib.ListN.length-append (decimal a) (45 ∷ decimal b)))

list_free : (ms : List ℕ) → all is_museum ms ≡ true → Free gap (list_words ms)
unfolding all
list_free [] e = tt
list_free (m ∷ []) e = decimal_free m (omega (arith, museum_small m (and_parts (is_museum m) _ e).0))
list_free (m ∷ n ∷ ms) e =
    let p = and_parts (is_museum m) _ e in
    All-append (λ x. gap x ≡ false) (decimal m) (44 ∷ list_words (n ∷ ms)) (decimal_free m (omega (arith, museum_small m p.0))) (refl, list_free (n ∷ ms) p.1)

list_full : (ms : List ℕ) → all is_museum ms ≡ true → 0 < length ms → list_words ms ≡ [] → ⊥
unfolding all
list_full [] e l z = omega arith
list_full (m ∷ []) e l z = decimal_full m (omega (arith, museum_small m (and_parts (is_museum m) _ e).0)) z
list_full (m ∷ n ∷ ms) e l z = omega (arith, ap length z, lib.ListN.length-append (decimal m) (44 ∷ list_words (n ∷ ms)))

letter_out : (b : ℕ) → is_letter b ≡ true → gap b ≡ false
letter_out b h = grind (arith, nat_tests)

pub name_free : (ls : List ℕ) → all is_letter ls ≡ true → Free gap ls
unfolding all
name_free [] e = tt
name_free (l ∷ ls) e = let p = and_parts (is_letter l) _ e in (letter_out l p.0, name_free ls p.1)

written : (ms : List ℕ) → WriteAll (map decimal ms) ms
written [] = tt
written (m ∷ ms) = ((0, refl), written ms)

-- ---- a line's words are that line

means_at : {ws us : List (List ℕ)} {v : LineView} → ws ≡ us → Means us v → Means ws v
means_at {v = v} e m = subst (λ x. Means x v) (sym e) m

printed : (v : LineView) → is_line v ≡ true → Means (words_of (line_words v)) v
unfolding words_of
printed (ALimit (MuseumIn ms)) e =
    let a = and_parts (within 1 8 (length ms)) _ e in
    let some : 0 < length ms = leb-true 1 (length ms) (and_parts (leb 1 (length ms)) _ a.0).0 in
    means_at (ap (λ x. codes "museums" ∷ x) (one_word (list_words ms) (list_free ms a.1) (list_full ms a.1 some))) (museums_are (map decimal ms) ms (written ms))
printed (ALimit (DayIn m n)) e =
    let s = and_parts (leb m n) _ e in
    let le : m ≤ n = leb-true m n s.0 in
    let most : n ≤ 65535 = leb-true n 65535 s.1 in
    means_at (ap (λ x. codes "days" ∷ x) (span_word m n (omega arith) (omega arith))) (days_are (decimal m) (decimal n) m n (0, refl) (0, refl))
printed (ALimit (MinuteIn m n)) e =
    let s = and_parts (leb m n) _ e in
    let le : m ≤ n = leb-true m n s.0 in
    let most : n ≤ 65535 = leb-true n 65535 s.1 in
    means_at (ap (λ x. codes "minutes" ∷ x) (span_word m n (omega arith) (omega arith))) (minutes_are (decimal m) (decimal n) m n (0, refl) (0, refl))
printed (ALimit (PersonsUpTo n)) e =
    let low : n ≤ 255 = leb-true n 255 e in
    means_at (ap (λ x. codes "persons" ∷ x) (one_word (decimal n) (decimal_free n (omega arith)) (decimal_full n (omega arith)))) (persons_are (decimal n) n (0, refl))
printed (ALimit (NameIs [])) e = no_name
printed (ALimit (NameIs (l ∷ ls))) e =
    let a = and_parts (leb (length (l ∷ ls)) longest_name) _ e in
    means_at (ap (λ x. codes "name" ∷ x) (one_word (l ∷ ls) (name_free (l ∷ ls) a.1) (λ z. omega (arith, ap length z)))) (name_is (l ∷ ls))
printed (AnElse k) e =
    let low : k ≤ 4095 = leb-true k 4095 e in
    means_at (ap (λ x. codes "else" ∷ x) (one_word (decimal k) (decimal_free k (omega arith)) (decimal_full k (omega arith)))) (key_is (decimal k) k (0, refl))

pub line_back : (v : LineView) → is_line v ≡ true → line_in (line_words v) ≡ Ok v
line_back v e = line_takes (words_of (line_words v)) v (printed v e) e

-- Text that is written, piece by piece. Assumes nothing.
use Rattle.std.proofs.Common.{◌≡◌, ℕ, ◌+◌, ◌-◌, ◌<◌, ◌≤◌, true, List, [], ◌∷◌, ◌++◌, length, get_or, take, drop, codes, IsUtf8, IsAscii, decimal, sym, refl, ap, ◌∙◌, append-nil, arith}
use Rattle.std.specs.List.{flat_map}
use Rattle.std.specs.Fmt.{IsPlainFormatter, HasWritten}
use Rattle.std.specs.declared.fmt.Formatter.{Formatter}
use Rattle.std.proofs.Output.{has_written_append, has_written_of_eq, writes_in_calls_nil}
use Rattle.std.proofs.lemmas.Str.Ascii.{IsAscii-nil, IsAscii-cons}
use Rattle.std.proofs.lemmas.List.{nil_from_length, flat_map_more, take_more, take_all, take_rest}
use Rattle.std.proofs.lemmas.Bool.{and_parts}
use Rattle.std.proofs.lemmas.Str.{IsUtf8-from_ascii}
use Rattle.std.proofs.lemmas.Bool.Decides.{nat_tests}
use Rattle.narrow.specs.Rows.{all}
use Rattle.parts.specs.Limits.{is_letter, is_name, longest_name}
use Rattle.printing.specs.Printed.{list_words, end_words}

-- ---- letters are text

letter_low : (b : ℕ) → is_letter b ≡ true → b < 128
letter_low b e = grind (arith, nat_tests)

letters_ascii : (ls : List ℕ) → all is_letter ls ≡ true → IsAscii ls
unfolding all
letters_ascii [] e = IsAscii-nil
letters_ascii (l ∷ ls) e = let p = and_parts (is_letter l) _ e in IsAscii-cons l ls (letter_low l p.0) (letters_ascii ls p.1)

pub name_text : (ls bs : List ℕ) → is_name ls ≡ true → bs ≡ ls → IsUtf8 bs
name_text ls bs e f = rw f (IsUtf8-from_ascii ls (letters_ascii ls (and_parts (lib.Dec.leb (length ls) longest_name) _ e).1))

-- ---- numbers with commas between them: the first, and then the others with a comma before each

abbrev pub others : List ℕ → List ℕ
others ms = flat_map (λ m. 44 ∷ decimal m) ms

list_others : (m : ℕ) (ms : List ℕ) → list_words (m ∷ ms) ≡ decimal m ++ others ms
list_others m [] = sym (append-nil (decimal m))
list_others m (n ∷ ms) = ap (λ l. decimal m ++ 44 ∷ l) (list_others n ms)

list_first : (ms : List ℕ) → 0 < length ms → list_words ms ≡ decimal (get_or ms 0 0) ++ others (drop 1 ms)
list_first [] l = absurd (omega arith)
list_first (m ∷ ms) l = list_others m ms

end_is : (text ls : List ℕ) → text ≡ ls → (text ≡ [] → ⊥) → codes " name " ++ text ≡ end_words ls
end_is [] ls e some = absurd (some refl)
end_is (l ∷ text) ls e some = ap end_words e

module _ {W : Type 0} (took : W → List ℕ → W → Type 0) (f : Formatter W) where
  pub nothing_put : IsPlainFormatter f → HasWritten took f [] f
  nothing_put plain = record { wrote = writes_in_calls_nil took _; plain = plain }

  pub no_list : (ms : List ℕ) → length ms ≡ 0 → IsPlainFormatter f → HasWritten took f (list_words ms) f
  no_list ms e plain = has_written_of_eq took f [] (list_words ms) f (ap list_words (sym (nil_from_length ms e))) (nothing_put plain)

  pub one_more : (h k : Formatter W) (ms : List ℕ) (i : ℕ) → i < length ms → HasWritten took f (others (take i ms)) h → HasWritten took h (44 ∷ decimal (get_or ms i 0)) k → HasWritten took f (others (take (i + 1) ms)) k
  one_more h k ms i l p q =
      has_written_of_eq took f _ _ k (flat_map_more (λ m. 44 ∷ decimal m) [] (take i ms) (get_or ms i 0) ∙ ap others (sym (take_more ms i 0 l)))
      (has_written_append took f (others (take i ms)) h (44 ∷ decimal (get_or ms i 0)) k p q)

  pub whole_list : (h k : Formatter W) (ms : List ℕ) (i : ℕ) → 0 < length ms → length (take (length ms - 1) (drop 1 ms)) ≤ i → HasWritten took f (decimal (get_or ms 0 0)) h → HasWritten took h (others (take i (take (length ms - 1) (drop 1 ms)))) k → HasWritten took f (list_words ms) k
  whole_list h k ms i some l p q =
      has_written_of_eq took f _ _ k (ap (λ x. decimal (get_or ms 0 0) ++ others x) (take_all i _ l ∙ take_rest ms 1) ∙ sym (list_first ms some)) (has_written_append took f (decimal (get_or ms 0 0)) h _ k p q)

  -- a wish, and its name if that is not empty
  pub then_end : (h k : Formatter W) (bs text ls : List ℕ) → text ≡ ls → (text ≡ [] → ⊥) → HasWritten took f bs h → HasWritten took h (codes " name " ++ text) k → HasWritten took f (bs ++ end_words ls) k
  then_end h k bs text ls e some p q = has_written_of_eq took f _ _ k (ap (λ x. bs ++ x) (end_is text ls e some)) (has_written_append took f bs h (codes " name " ++ text) k p q)

-- Words that are a wish, and what is printed of one. Assumes nothing.
use Rattle.std.proofs.Common.{◌≡◌, ℕ, ◌^◌, ◌<◌, ◌≤◌, true, cond, leb, List, [], ◌∷◌, ◌++◌, length, Ok, Err, codes, decimal, Result, sym, refl, ap, ◌∙◌, subst, ⊎_elim, append_assoc, arith}
use Rattle.std.specs.Str.{bytes_eq}
use Rattle.std.proofs.lemmas.Slice.Eq.{bytes_eq-Decides}
use Rattle.std.proofs.lemmas.Bool.{cond-true, and_parts, and_from, leb-true, le-leb}
use Rattle.std.proofs.lemmas.Bool.Decides.{nat_tests}
use Rattle.narrow.specs.Rows.{all}
use Rattle.parts.specs.Limits.{WishView, in_range, is_museum, is_letter, longest_name, within}
use Rattle.texts.specs.declared.Cause.{Cause}
use Rattle.texts.specs.declared.Cause.TheVariants.{UnknownWord}
use Rattle.texts.specs.Cuts.{words_of, maybe_word}
use Rattle.texts.specs.Numerals.{Writes, number_of}
use Rattle.words.specs.Means.{Named, left_off, wordless, word_is, WishMeans, wish_is, fits, WishTold}
use Rattle.printing.specs.Printed.{end_words, wish_words}
use Rattle.texts.specs.Results.{and_then, and_is}
use Rattle.texts.specs.Labels.{next, labelled}
use Rattle.words.specs.Wishes.{field_in, field_of, name_end, with_name, with_persons, with_minute, with_day, wish_of, wish_in}
use Rattle.words.proofs.Back.{decimal_free, decimal_full, name_free}
use Rattle.texts.proofs.Cuts.{one_word, word_then}
use Rattle.texts.proofs.Digits.{number_takes, number_told}
use Rattle.texts.proofs.Steps.{err_ok, then_ok, is_ok, cond_ok, maybe_told}

-- ---- words that are a wish are read as it

field_takes : (most : ℕ) (label a : List ℕ) (n : ℕ) (ws : List (List ℕ)) → most < 2 ^ 64 → Writes a n → n ≤ most → field_of most label (label ∷ a ∷ ws) ≡ Ok (n, ws)
unfolding field_in labelled
field_takes most label a n ws small h le =
    ap (λ r. and_then r (λ p. and_is (number_of most p.0) (λ k. (k, p.1)))) (cond-true (bytes_eq label label) (Ok (a, ws)) (Err UnknownWord) ((bytes_eq-Decides label label).1 refl))
    ∙ ap (λ r. and_is r (λ k. (k, ws))) (number_takes a n (omega arith) h most le)

named_takes : (ws : List (List ℕ)) (name : List ℕ) → Named ws name → name_end ws ≡ Ok name
named_takes ws name left_off = refl
named_takes ws name wordless = refl
named_takes ws name (word_is ls) = refl

pub wish_takes : (ws : List (List ℕ)) (w : WishView) → WishMeans ws w → fits w ≡ true → wish_of ws ≡ Ok w
unfolding wish_of
wish_takes ws v (wish_is a b c d rest w p q r s n) e =
    let m = and_parts (leb w.museum 255) _ e in
    let y = and_parts (leb w.day 65535) _ m.1 in
    let t = and_parts (leb w.minute 65535) _ y.1 in
    ap (λ x. and_then x (λ k. with_day k.0 k.1)) (field_takes 255 (codes "museum") a w.museum _ (omega arith) p (leb-true _ _ m.0))
    ∙ ap (λ x. and_then x (λ k. with_minute w.museum k.0 k.1)) (field_takes 65535 (codes "day") b w.day _ (omega arith) q (leb-true _ _ y.0))
    ∙ ap (λ x. and_then x (λ k. with_persons w.museum w.day k.0 k.1)) (field_takes 65535 (codes "minute") c w.minute _ (omega arith) r (leb-true _ _ t.0))
    ∙ ap (λ x. and_then x (λ k. with_name w.museum w.day w.minute k.0 k.1)) (field_takes 255 (codes "persons") d w.persons _ (omega arith) s (leb-true _ _ t.1))
    ∙ ap (λ x. and_is x (λ name. record { museum = w.museum; day = w.day; minute = w.minute; persons = w.persons; name = name })) (named_takes rest w.name n)

-- ---- words that are read as a wish are it

record Field (most : ℕ) (label : List ℕ) (ws : List (List ℕ)) (p : ℕ × List (List ℕ)) : Type 0 where
  word : List ℕ
  are : ws ≡ label ∷ word ∷ p.1
  writes : Writes word p.0
  low : p.0 ≤ most

next_told : (ws : List (List ℕ)) (p : List ℕ × List (List ℕ)) → next ws ≡ Ok p → ws ≡ p.0 ∷ p.1
next_told [] p e = absurd (err_ok _ _ e)
next_told (w ∷ ws) p e = let is : (w, ws) ≡ p = cc in ap (λ q. q.0 ∷ q.1) is

field_told : (most : ℕ) (label : List ℕ) (ws : List (List ℕ)) (p : ℕ × List (List ℕ)) → most < 2 ^ 64 → field_of most label ws ≡ Ok p → Field most label ws p
unfolding field_in labelled
field_told most label ws p small e =
    let a = then_ok (labelled label ws) _ p e in
    let b = then_ok (next ws) (λ q. cond (bytes_eq q.0 label) (next q.1) (Err UnknownWord)) a.0 a.1 in
    let k = cond_ok (bytes_eq b.0.0 label) (next b.0.1) UnknownWord a.0 b.2 in
    let n = is_ok (number_of most a.0.0) (λ x. (x, a.0.1)) p a.2 in
    let t = number_told most a.0.0 n.0 small n.1 in
    let first = (bytes_eq-Decides b.0.0 label).0 k.0 in
    let one : ws ≡ label ∷ b.0.1 = next_told ws b.0 b.1 ∙ ap (λ x. x ∷ b.0.1) first in
    let two : b.0.1 ≡ a.0.0 ∷ a.0.1 = next_told b.0.1 a.0 k.1 in
    subst (Field most label ws) (sym n.2) (record { word = a.0.0; are = one ∙ ap (λ x. label ∷ x) two; writes = t.0; low = t.1 })

named_told : (ws : List (List ℕ)) (name : List ℕ) → name_end ws ≡ Ok name → Named ws name
named_told [] name e = let is : [] ≡ name = cc in subst (Named []) is left_off
named_told (w ∷ ws) name e =
    let k = cond_ok (bytes_eq w (codes "name")) (maybe_word ws) UnknownWord name e in
    let first : w ≡ codes "name" = (bytes_eq-Decides w (codes "name")).0 k.0 in
    subst (λ x. Named (x ∷ ws) name) (sym first)
    (⊎_elim (λ z. subst (λ x. Named (codes "name" ∷ x) name) (sym z.0) (subst (Named (codes "name" ∷ [])) (sym z.1) wordless)) (λ z. subst (λ x. Named (codes "name" ∷ x) name) (sym z) (word_is name)) (maybe_told ws name k.1))

pub wish_told : (ws : List (List ℕ)) (w : WishView) → wish_of ws ≡ Ok w → WishMeans ws w × (fits w ≡ true)
unfolding wish_of
wish_told ws w e =
    let m = then_ok (field_of 255 (codes "museum") ws) (λ k. with_day k.0 k.1) w e in
    let y = then_ok (field_of 65535 (codes "day") m.0.1) (λ k. with_minute m.0.0 k.0 k.1) w m.2 in
    let t = then_ok (field_of 65535 (codes "minute") y.0.1) (λ k. with_persons m.0.0 y.0.0 k.0 k.1) w y.2 in
    let p = then_ok (field_of 255 (codes "persons") t.0.1) (λ k. with_name m.0.0 y.0.0 t.0.0 k.0 k.1) w t.2 in
    let n = is_ok (name_end p.0.1) (λ name. record { museum = m.0.0; day = y.0.0; minute = t.0.0; persons = p.0.0; name = name }) w p.2 in
    let a = field_told 255 (codes "museum") ws m.0 (omega arith) m.1 in
    let b = field_told 65535 (codes "day") m.0.1 y.0 (omega arith) y.1 in
    let c = field_told 65535 (codes "minute") y.0.1 t.0 (omega arith) t.1 in
    let d = field_told 255 (codes "persons") t.0.1 p.0 (omega arith) p.1 in
    whole m.0 y.0 t.0 p.0 n.0 n.2 a b c d (named_told p.0.1 n.0 n.1)
  where
    whole : (m y t p : ℕ × List (List ℕ)) (name : List ℕ) → w ≡ record { museum = m.0; day = y.0; minute = t.0; persons = p.0; name = name } → Field 255 (codes "museum") ws m → Field 65535 (codes "day") m.1 y → Field 65535 (codes "minute") y.1 t → Field 255 (codes "persons") t.1 p → Named p.1 name → WishMeans ws w × (fits w ≡ true)
    whole m y t p name is a b c d n =
        let v : WishView = record { museum = m.0; day = y.0; minute = t.0; persons = p.0; name = name } in
        let all : ws ≡ codes "museum" ∷ a.word ∷ codes "day" ∷ b.word ∷ codes "minute" ∷ c.word ∷ codes "persons" ∷ d.word ∷ p.1 =
        a.are ∙ ap (λ x. codes "museum" ∷ a.word ∷ x) (b.are ∙ ap (λ x. codes "day" ∷ b.word ∷ x) (c.are ∙ ap (λ x. codes "minute" ∷ c.word ∷ x) d.are))
        in
        subst (λ x. WishMeans ws x × (fits x ≡ true)) (sym is) (
          subst (λ x. WishMeans x v) (sym all) (wish_is a.word b.word c.word d.word p.1 v a.writes b.writes c.writes d.writes n),
          and_from (leb m.0 255) _ (le-leb _ _ a.low) (and_from (leb y.0 65535) _ (le-leb _ _ b.low) (and_from (leb t.0 65535) _ (le-leb _ _ c.low) (le-leb _ _ d.low))),
        )

-- what is read is so
pub told : (ws : List (List ℕ)) → WishTold ws (wish_of ws)
told ws = by (wish_of ws) refl
  where
    by : (r : Result WishView Cause) → wish_of ws ≡ r → WishTold ws r
    by (Ok w) e = wish_told ws w e
    by (Err c) e = λ w m i. err_ok c w (sym e ∙ wish_takes ws w m i)

-- ---- what is printed is read back

end_words_lem : List ℕ → List (List ℕ)
end_words_lem [] = []
end_words_lem (l ∷ ls) = codes "name" ∷ (l ∷ ls) ∷ []

end_named : (ls : List ℕ) → Named (end_words_lem ls) ls
unfolding end_words_lem
end_named [] = left_off
end_named (l ∷ ls) = word_is (l ∷ ls)

-- a number before the end
last_number : (n : ℕ) (ls : List ℕ) → n < 2 ^ 64 → all is_letter ls ≡ true → words_of (decimal n ++ end_words ls) ≡ decimal n ∷ end_words_lem ls
unfolding end_words_lem
last_number n [] small e = ap words_of (mathlib.Core.List.append-nil (decimal n)) ∙ one_word (decimal n) (decimal_free n small) (decimal_full n small)
last_number n (l ∷ ls) small e =
    word_then (decimal n) (codes "name " ++ (l ∷ ls)) (decimal_free n small) (decimal_full n small)
    ∙ ap (λ x. decimal n ∷ x) (word_then (codes "name") (l ∷ ls) (refl, (refl, (refl, (refl, tt)))) (λ z. omega (arith, ap length z)) ∙ ap (λ x. codes "name" ∷ x) (one_word (l ∷ ls) (name_free (l ∷ ls) e) (λ z. omega (arith, ap length z))))

number_then : (n : ℕ) (rest : List ℕ) → n < 2 ^ 64 → words_of (decimal n ++ 32 ∷ rest) ≡ decimal n ∷ words_of rest
number_then n rest small = word_then (decimal n) rest (decimal_free n small) (decimal_full n small)

label_then : (label rest : List ℕ) → Rattle.texts.proofs.Cuts.Free Rattle.texts.specs.Cuts.gap label → 0 < length label → words_of (label ++ 32 ∷ rest) ≡ label ∷ words_of rest
label_then label rest h l = word_then label rest h (λ z. omega (arith, ap length z))

module _ (m d t n : ℕ) (ls : List ℕ) (m-small : m < 2 ^ 64) (d_small : d < 2 ^ 64) (t-small : t < 2 ^ 64) (n-small : n < 2 ^ 64) (letters : all is_letter ls ≡ true) where
  regroup : (codes "museum " ++ (decimal m ++ (codes " day " ++ (decimal d ++ (codes " minute " ++ (decimal t ++ (codes " persons " ++ decimal n))))))) ++ end_words ls
      ≡ codes "museum" ++ 32 ∷ (decimal m ++ 32 ∷ (codes "day" ++ 32 ∷ (decimal d ++ 32 ∷ (codes "minute" ++ 32 ∷ (decimal t ++ 32 ∷ (codes "persons" ++ 32 ∷ (decimal n ++ end_words ls)))))))
  regroup = simp append_assoc

  wish_words_lem : words_of ((codes "museum " ++ (decimal m ++ (codes " day " ++ (decimal d ++ (codes " minute " ++ (decimal t ++ (codes " persons " ++ decimal n))))))) ++ end_words ls)
      ≡ codes "museum" ∷ decimal m ∷ codes "day" ∷ decimal d ∷ codes "minute" ∷ decimal t ∷ codes "persons" ∷ decimal n ∷ end_words_lem ls
  wish_words_lem =
      ap words_of regroup ∙ label_then (codes "museum") _ (refl, (refl, (refl, (refl, (refl, (refl, tt)))))) (omega arith)
      ∙ ap (λ x. codes "museum" ∷ x) (number_then m _ m-small ∙ ap (λ x. decimal m ∷ x) (label_then (codes "day") _ (refl, (refl, (refl, tt))) (omega arith)
      ∙ ap (λ x. codes "day" ∷ x) (number_then d _ d_small ∙ ap (λ x. decimal d ∷ x) (label_then (codes "minute") _ (refl, (refl, (refl, (refl, (refl, (refl, tt)))))) (omega arith)
      ∙ ap (λ x. codes "minute" ∷ x) (number_then t _ t-small ∙ ap (λ x. decimal t ∷ x) (label_then (codes "persons") _ (refl, (refl, (refl, (refl, (refl, (refl, (refl, tt))))))) (omega arith)
      ∙ ap (λ x. codes "persons" ∷ x) (last_number n ls n-small letters)))))))

museum_low : (m : ℕ) → is_museum m ≡ true → m ≤ 255
museum_low m e = grind (arith, nat_tests)

within_low : (a b n : ℕ) → within a b n ≡ true → n ≤ b
within_low a b n e = grind (arith, nat_tests)

pub wish_back : (w : WishView) → in_range w ≡ true → wish_in (wish_words w) ≡ Ok w
wish_back w e =
    let m = and_parts (is_museum w.museum) _ e in
    let y = and_parts (within 1 65535 w.day) _ m.1 in
    let t = and_parts (leb w.minute 1439) _ y.1 in
    let p = and_parts (within 1 200 w.persons) _ t.1 in
    let letters = (and_parts (leb (length w.name) longest_name) _ p.1).1 in
    let a : w.museum ≤ 255 = museum_low w.museum m.0 in
    let b : w.day ≤ 65535 = within_low 1 65535 w.day y.0 in
    let c : w.minute ≤ 1439 = leb-true w.minute 1439 t.0 in
    let d : w.persons ≤ 200 = within_low 1 200 w.persons p.0 in
    let words = wish_words_lem w.museum w.day w.minute w.persons w.name (omega arith) (omega arith) (omega arith) (omega arith) letters in
    wish_takes (words_of (wish_words w)) w (subst (λ x. WishMeans x w) (sym words) (wish_is _ _ _ _ _ w (0, refl) (0, refl) (0, refl) (0, refl) (end_named w.name)))
    (and_from (leb w.museum 255) _ (le-leb _ _ a) (and_from (leb w.day 65535) _ (le-leb _ _ b) (and_from (leb w.minute 65535) _ (le-leb _ _ (omega arith)) (le-leb _ _ (omega arith)))))

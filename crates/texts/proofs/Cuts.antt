-- A text that is cut at the bytes that pass a test, and its words. Assumes nothing.
use Rattle.std.proofs.Common.{◌≡◌, ℕ, ◌<◌, Bool, true, false, cond, eqb, List, [], ◌∷◌, ◌++◌, length, get_or, take, drop, IfSome, Some, None, Option, sym, refl, ap, ◌∙◌, subst, ⊎_elim, arith, Bor, MatchOption}
use lib.Utf8.{scalar}
use Rattle.std.specs.declared.str.Split.{Split}
use Rattle.std.specs.Char.{char_set_contains}
use Rattle.std.specs.Str.Pattern.{FindsBy, FindsChar, FindsPrefixBy, HasPassingCharAt, IsSplitAtFirstMatch, CutsPrefixes, IsTrimStartMatches, IsFullyTrimmed, SplitsAroundMatch}
use Rattle.std.specs.Str.Iter.{split_text, split_has_more, split_pattern, split_steps}
use Rattle.std.specs.Option.{option_map, unwrap_or}
use Rattle.std.specs.Str.{NoCharPasses}
use Rattle.std.specs.List.{AllByRecursion}
use Rattle.std.proofs.ByRecursion.{All-from_get_or}
use Rattle.std.proofs.lemmas.List.{take-append-drop, nil_from_length}
use Rattle.std.proofs.lemmas.Str.Pattern.{drop_at_char, IsSplitOnceResult, split_parts}
use Rattle.std.proofs.lemmas.Bool.{cases_lt, cases_Bool, both_ways, cond-true, cond-false, eqb-true, ne_eqb}
use Rattle.std.proofs.lemmas.Str.{NoCharPasses-byte, len_utf8_bounds, encode_ascii}
use Rattle.std.proofs.lemmas.Bool.Decides.{nat_tests}
use Rattle.texts.specs.Cuts.{gap, onto, parts, at_first, full, words_of}
use Rattle.texts.specs.Results.{both_parts}

-- no byte passes t
abbrev pub Free : (ℕ → Bool) → List ℕ → Type 0
Free t bs = AllByRecursion (λ b. t b ≡ false) bs

pub parts_all : (t : ℕ → Bool) (bs : List ℕ) → Free t bs → parts t bs ≡ bs ∷ []
parts_all t [] h = refl
parts_all t (b ∷ bs) h = rw h.0 (ap (onto b) (parts_all t bs h.1))

pub parts_cut : (t : ℕ → Bool) (xs : List ℕ) (c : ℕ) (ys : List ℕ) → t c ≡ true → Free t xs → parts t (xs ++ c ∷ ys) ≡ xs ∷ parts t ys
parts_cut t [] c ys e h = rw e refl
parts_cut t (x ∷ xs) c ys e h = rw h.0 (ap (onto x) (parts_cut t xs c ys e h.1))

-- t passes only ASCII characters, so that a text without one has no byte that passes
module _ (t : ℕ → Bool) (ascii : (c : ℕ) → t c ≡ true → c < 128) where
  pub free : (bs : List ℕ) → NoCharPasses t bs → Free t bs
  free bs w =
      All-from_get_or (λ b. t b ≡ false) bs 0
      (λ k l. ⊎_elim (NoCharPasses-byte t bs k w l) (λ wide. ⊎_elim (λ e. absurd (omega (arith, ascii _ e))) (λ e. e) (cases_Bool (t (get_or bs k 0)))) (cases_lt (get_or bs k 0) 128))

  -- a text with its first such character, from i to j
  pub cut_at : (w : List ℕ) (i j : ℕ) → FindsBy t w (Some (i, j)) → parts t w ≡ take i w ∷ parts t (drop j w)
  cut_at w i j f =
      let c : ℕ = f.1.0 in
      let cut = drop_at_char c w i j f.1.2 (ascii c f.1.1) in
      let whole : w ≡ take i w ++ c ∷ drop j w = sym (take-append-drop i w) ∙ ap (λ l. take i w ++ l) cut in
      ap (parts t) whole ∙ parts_cut t (take i w) c (drop j w) f.1.1 (free (take i w) f.0)

  -- a call of `next` on what is split at such characters gave x, with rest to come if live
  part : (w x : List ℕ) (live : Bool) (rest : List ℕ) (o : Option (ℕ × ℕ)) → FindsBy t w o → MatchOption o ((x ≡ w) × (live ≡ false)) (λ q. 0 < q.1 → (x ≡ take q.0 w) × (live ≡ true) × (rest ≡ drop q.1 w)) → parts t w ≡ x ∷ cond live (parts t rest) []
  part w x live rest None f h = rw (h.0, h.1) (parts_all t w (free w f))
  part w x live rest (Some q) f h =
      let k = h (omega (arith, f.1.2.ends, (len_utf8_bounds f.1.0).0)) in
      rw (k.0, k.1, k.2) (cut_at w q.0 q.1 f)

-- ---- what `split` does, part by part

-- the parts that are still to come
abbrev pub to_come : {P : Type 0} → (ℕ → Bool) → Split P → List (List ℕ)
to_come t s = cond (split_has_more s) (parts t (split_text s)) []

-- what `split` at a character says of `next`
abbrev pub Next : Split ℕ → Bor (List ℕ) → Split ℕ → Type 0
Next s x u = split_steps FindsChar (λ c d. d ≡ c) s (Some x) u

-- at the character d
module _ (d : ℕ) (ascii : d < 128) where
  abbrev is : ℕ → Bool
  is b = eqb b d

  is_ascii : (c : ℕ) → is c ≡ true → c < 128
  is_ascii c e = omega (arith, eqb-true c d e)

  finds : (w : List ℕ) (o : Option (ℕ × ℕ)) → FindsChar d w o → FindsBy is w o
  finds w None f = f
  finds w (Some q) f = (f.0, (d, grind (arith, nat_tests), f.1))

  -- a call of `next` took the part x of s, and left u
  pub took : (s u : Split ℕ) (x : Bor (List ℕ)) → split_pattern s ≡ d → split_steps FindsChar (λ c e. e ≡ c) s (Some x) u → to_come is s ≡ x.now ∷ to_come is u
  took s u x e h = rw (sym h.0) (part is is_ascii (split_text s) x.now (split_has_more u) (split_text u) cut.1.0 (finds (split_text s) cut.1.0 cut.1.1) cut.1.2)
    where
      cut : IsSplitAtFirstMatch (FindsChar d) (split_text s) x.now (split_has_more u) (split_text u)
      cut = rw e at h.1.1

  -- ---- what `split_once` gives

  lacks_free : (x : List ℕ) → ((i : ℕ) → i < length x → get_or x i 0 ≡ d → ⊥) → Free is x
  lacks_free x h = All-from_get_or (λ b. is b ≡ false) x 0 (λ k l. ne_eqb _ d (h k l))

  pub first_takes : (xs ys : List ℕ) → Free is xs → at_first is (xs ++ d ∷ ys) ≡ Some (xs, ys)
  unfolding at_first
  first_takes [] ys h = cond-true (is d) _ _ (grind (arith, nat_tests))
  first_takes (x ∷ xs) ys h = cond-false (is x) _ _ h.0 ∙ ap (option_map (λ p. (x ∷ p.0, p.1))) (first_takes xs ys h.1)

  first_none : (bs : List ℕ) → Free is bs → at_first is bs ≡ None
  unfolding at_first
  first_none [] h = refl
  first_none (b ∷ bs) h = cond-false (is b) _ _ h.0 ∙ ap (option_map (λ p. (b ∷ p.0, p.1))) (first_none bs h.1)

  pub split_is : (w : List ℕ) (r : Option (Bor (List ℕ) × Bor (List ℕ))) → IsSplitOnceResult d w r → option_map both_parts r ≡ at_first is w
  split_is w None h = sym (first_none w (lacks_free w (split_parts d w None h ascii)))
  split_is w (Some x) h =
      let p = split_parts d w (Some x) h ascii in
      sym (ap (at_first is) p.0 ∙ first_takes x.0.now x.1.now (lacks_free x.0.now p.1))

  abbrev Cut : List ℕ → List ℕ × List ℕ → Type 0
  Cut bs p = bs ≡ p.0 ++ d ∷ p.1

  pub first_told : (bs : List ℕ) (p : List ℕ × List ℕ) → at_first is bs ≡ Some p → Cut bs p
  unfolding at_first
  first_told [] p e = let z : ◌≡◌ {A = ℕ} 0 1 = cc in absurd (omega arith)
  first_told (b ∷ bs) p e = by (is b) (at_first is bs) refl (λ q. first_told bs q) e
    where
      by : (t : Bool) (o : Option (List ℕ × List ℕ)) → is b ≡ t → ((q : List ℕ × List ℕ) → o ≡ Some q → Cut bs q) → cond t (Some ([], bs)) (option_map (λ q. (b ∷ q.0, q.1)) o) ≡ Some p → Cut (b ∷ bs) p
      by true o f ih e = let same : ([], bs) ≡ p = cc in subst (Cut (b ∷ bs)) same (ap (λ x. x ∷ bs) (eqb-true b d f))
      by false None f ih e = let z : ◌≡◌ {A = ℕ} 0 1 = cc in absurd (omega arith)
      by false (Some q) f ih e = let same : (b ∷ q.0, q.1) ≡ p = cc in subst (Cut (b ∷ bs)) same (ap (λ l. b ∷ l) (ih q refl))

-- ---- words

pub gap_ascii : (c : ℕ) → gap c ≡ true → c < 128
gap_ascii c e = grind (arith, nat_tests)

-- l lists the characters that pass t
abbrev pub IsList : List ℕ → (ℕ → Bool) → Type 0
IsList l t = (c : ℕ) → char_set_contains l c ≡ t c

-- what a search for gaps says that it looks for
abbrev pub Lists : (ℕ → Bool) → Type 0
Lists t = IsList (32 ∷ 9 ∷ 13 ∷ []) t

-- what `split` at a list of characters says of `next`
abbrev pub NextWord : Split (List ℕ) → Bor (List ℕ) → Split (List ℕ) → Type 0
NextWord s x u = split_steps (λ l w o. (t : ℕ → Bool) → IsList l t → FindsBy t w o) (λ l m. (t : ℕ → Bool) → IsList l t → IsList m t) s (Some x) u

-- a call of `next` took the part x of s, which is cut at gaps, and left u
pub took_word : (s u : Split (List ℕ)) (x : Bor (List ℕ)) → IsList (split_pattern s) gap → NextWord s x u → to_come gap s ≡ x.now ∷ to_come gap u
took_word s u x e h = rw (sym h.0) (part gap gap_ascii (split_text s) x.now (split_has_more u) (split_text u) h.1.1.1.0 (h.1.1.1.1 gap e) h.1.1.1.2)

abbrev pub Begins : List ℕ → Option ℕ → Type 0
Begins s o = (t : ℕ → Bool) → Lists t → FindsPrefixBy t s o

abbrev pub Finds : List ℕ → Option (ℕ × ℕ) → Type 0
Finds s o = (t : ℕ → Bool) → Lists t → FindsBy t s o

full_skip : (t : ℕ → Bool) (b : ℕ) (bs : List ℕ) → t b ≡ true → full (parts t (b ∷ bs)) ≡ full (parts t bs)
full_skip t b bs e = rw e

full_some : (w : List ℕ) (ps : List (List ℕ)) → (w ≡ [] → ⊥) → full (w ∷ ps) ≡ w ∷ full ps
full_some [] ps h = absurd (h refl)
full_some (b ∷ w) ps h = refl

-- a word by itself, and one before others
pub one_word : (w : List ℕ) → Free gap w → (w ≡ [] → ⊥) → words_of w ≡ w ∷ []
unfolding words_of
one_word w h some = ap full (parts_all gap w h) ∙ full_some w [] some

pub word_then : (w rest : List ℕ) → Free gap w → (w ≡ [] → ⊥) → words_of (w ++ 32 ∷ rest) ≡ w ∷ words_of rest
unfolding words_of
word_then w rest h some = ap full (parts_cut gap w 32 rest refl h) ∙ full_some w (parts gap rest) some

-- a gap in front says nothing
past_gap : (m : List ℕ) (n : ℕ) → HasPassingCharAt gap m 0 n → words_of m ≡ words_of (drop n m)
unfolding words_of
past_gap m n h = ap words_of (drop_at_char h.0 m 0 n h.2 (gap_ascii h.0 h.1)) ∙ full_skip gap h.0 (drop n m) h.1

past_gaps : (s ns r : List ℕ) → CutsPrefixes Begins s ns r → words_of s ≡ words_of r
past_gaps s [] r h = ap words_of (sym h)
past_gaps s (n ∷ ns) r h = past_gaps s ns h.0 h.1 ∙ past_gap h.0 n (h.2 gap (λ c. refl)) ∙ ap words_of (sym h.3)

-- what is left begins with no gap
no_gap : (r : List ℕ) → IsFullyTrimmed Begins r → (b : ℕ) (bs : List ℕ) → r ≡ b ∷ bs → gap b ≡ false
no_gap r h b bs e = by h.0 (h.1 gap (λ c. refl)) h.2
  where
    by : (o : Option ℕ) → FindsPrefixBy gap r o → IfSome o (λ n. n ≡ 0) → gap b ≡ false
    by (Some n) k z = absurd (omega (arith, z, k.2.ends, (len_utf8_bounds k.0).0))
    by None k z =
        ⊎_elim
        (λ g. let low = gap_ascii b g in let is : scalar b ≡ true = grind (arith, nat_tests) in k b bs is (e ∙ ap (λ l. l ++ bs) (sym (encode_ascii b low))))
        (λ g. g) (cases_Bool (gap b))

module _ (s r : List ℕ) (trimmed : IsTrimStartMatches Begins s r) where
  same : words_of s ≡ words_of r
  same = past_gaps s trimmed.0.0 r trimmed.0.1

  pub no_words : length r ≡ 0 → words_of s ≡ []
  unfolding words_of
  no_words e = same ∙ ap words_of (nil_from_length r e)

  last_word : 0 < length r → Finds r None → words_of s ≡ r ∷ words_of []
  unfolding words_of
  last_word some f = same ∙ one_word r (free gap gap_ascii r (f gap (λ c. refl))) (λ e. omega (arith, ap length e))

  first_word : (i j : ℕ) (x y : List ℕ) → Finds r (Some (i, j)) → x ≡ take i r → y ≡ drop j r → words_of s ≡ x ∷ words_of y
  unfolding words_of
  first_word i j x y f e g =
      let found = f gap (λ c. refl) in
      let starts : take i r ≡ [] → ⊥ =
      λ z. both_ways (gap found.1.0)
      (no_gap r trimmed.1 found.1.0 (drop j r) (sym (take-append-drop i r) ∙ ap (λ l. l ++ drop i r) z ∙ drop_at_char found.1.0 r i j found.1.2 (gap_ascii _ found.1.1)))
      found.1.1
      in
      same ∙ ap full (cut_at gap gap_ascii r i j found) ∙ full_some (take i r) _ starts ∙ rw (e, g)

  -- what the code makes of the first gap, or of none
  pub next_is : 0 < length r → (o : Option (Bor (List ℕ) × Bor (List ℕ))) (d : Bor (List ℕ) × Bor (List ℕ)) → d.0.now ≡ r → d.1.now ≡ []
      → MatchOption o (Finds r None) (λ p. SplitsAroundMatch Finds r p.0.now p.1.now)
      → words_of s ≡ (unwrap_or o d).0.now ∷ words_of (unwrap_or o d).1.now
  next_is some None d e g f = rw (e, g) (last_word some f)
  next_is some (Some p) d e g f = first_word f.0 f.1 p.0.now p.1.now f.2 f.3 f.4

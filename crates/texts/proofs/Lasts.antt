-- The last word of a text, as the code cuts it off. Assumes nothing.
use Rattle.std.proofs.Common.{◌≡◌, ℕ, ◌-◌, ◌<◌, Bool, true, false, List, [], ◌∷◌, ◌++◌, length, take, drop, IfSome, Some, None, Option, MatchOption, Bor, sym, refl, ap, ◌∙◌, ⊎_elim, arith}
use lib.Utf8.{scalar}
use mathlib.Mathlib.Data.List.Basic.{eq-nil-or-concat'}
use Rattle.std.specs.Option.{unwrap_or}
use Rattle.std.specs.Str.Pattern.{RFindsBy, FindsSuffixBy, HasPassingCharAt, CutsSuffixes, IsTrimEndMatches, IsFullyTrimmed, SplitsAroundMatch}
use Rattle.std.proofs.lemmas.List.{take-append-drop, nil_from_length}
use Rattle.std.proofs.lemmas.Str.Pattern.{drop_at_char}
use Rattle.std.proofs.lemmas.Bool.{cases_Bool, cond-true, cond-false}
use Rattle.std.proofs.lemmas.Str.{len_utf8_bounds, encode_ascii}
use Rattle.std.proofs.lemmas.Bool.Decides.{nat_tests}
use Rattle.texts.specs.Cuts.{gap, or_here, at_last, closing, trimmed, after_gap, last_of, last_word}
use Rattle.texts.specs.Results.{both_parts}
use Rattle.texts.proofs.Cuts.{Free, free, gap_ascii, Lists}

-- what `trim_end_matches` and `rsplit_once` say where they look for gaps
abbrev pub Closes : List ℕ → Option ℕ → Type 0
Closes s o = (t : ℕ → Bool) → Lists t → FindsSuffixBy t s o

abbrev pub FindsLast : List ℕ → Option (ℕ × ℕ) → Type 0
FindsLast s o = (t : ℕ → Bool) → Lists t → RFindsBy t s o

-- ---- gaps at the end

trimmed_gap : (bs : List ℕ) (c : ℕ) → gap c ≡ true → trimmed (bs ++ c ∷ []) ≡ trimmed bs
trimmed_gap [] c e = cond-true (gap c) _ _ e
trimmed_gap (b ∷ bs) c e = ap (closing b) (trimmed_gap bs c e)

closing_some : (x : ℕ) (xs : List ℕ) (c : ℕ) → closing x (xs ++ c ∷ []) ≡ x ∷ (xs ++ c ∷ [])
closing_some x [] c = refl
closing_some x (y ∷ ys) c = refl

trimmed_none : (bs : List ℕ) (c : ℕ) → gap c ≡ false → trimmed (bs ++ c ∷ []) ≡ bs ++ c ∷ []
trimmed_none [] c e = cond-false (gap c) _ _ e
trimmed_none (b ∷ bs) c e = ap (closing b) (trimmed_none bs c e) ∙ closing_some b bs c

past_gap : (m : List ℕ) (n : ℕ) → HasPassingCharAt gap m (length m - n) (length m) → trimmed m ≡ trimmed (take (length m - n) m)
past_gap m n h =
    let cut = drop_at_char h.0 m (length m - n) (length m) h.2 (gap_ascii h.0 h.1) in
    let end : drop (length m) m ≡ [] = nil_from_length _ (omega (arith, lib.ListN.length-drop (length m) m)) in
    let whole : m ≡ take (length m - n) m ++ h.0 ∷ [] = sym (take-append-drop (length m - n) m) ∙ ap (λ l. take (length m - n) m ++ l) (cut ∙ ap (λ l. h.0 ∷ l) end) in
    ap trimmed whole ∙ trimmed_gap (take (length m - n) m) h.0 h.1

past_gaps : (s ns r : List ℕ) → CutsSuffixes Closes s ns r → trimmed s ≡ trimmed r
past_gaps s [] r h = ap trimmed (sym h)
past_gaps s (n ∷ ns) r h = past_gaps s ns h.0 h.1 ∙ past_gap h.0 n (h.2 gap (λ c. refl)) ∙ ap trimmed (sym h.3)

-- what is left ends with no gap
kept : (r : List ℕ) → IsFullyTrimmed Closes r → trimmed r ≡ r
kept r h = by h.0 (h.1 gap (λ c. refl)) h.2
  where
    by : (o : Option ℕ) → FindsSuffixBy gap r o → IfSome o (λ n. n ≡ 0) → trimmed r ≡ r
    by (Some n) k z = absurd (omega (arith, z, k.2.ends, (len_utf8_bounds k.0).0))
    by None k z =
        ⊎_elim (λ e. ap trimmed e ∙ sym e)
        (λ s. ap trimmed s.2
        ∙ trimmed_none s.0 s.1
        (⊎_elim
        (λ g. let low = gap_ascii s.1 g in let is : scalar s.1 ≡ true = grind (arith, nat_tests) in k s.1 s.0 is (s.2 ∙ ap (λ l. s.0 ++ l) (sym (encode_ascii s.1 low))))
        (λ g. g) (cases_Bool (gap s.1)))
        ∙ sym s.2)
        (eq-nil-or-concat' r)

-- ---- the last gap

last_none : (bs : List ℕ) → Free gap bs → at_last gap bs ≡ None
unfolding at_last
last_none [] h = refl
last_none (b ∷ bs) h = ap (or_here gap b bs) (last_none bs h.1) ∙ cond-false (gap b) _ _ h.0

last_takes : (xs : List ℕ) (c : ℕ) (ys : List ℕ) → gap c ≡ true → Free gap ys → at_last gap (xs ++ c ∷ ys) ≡ Some (xs, ys)
unfolding at_last
last_takes [] c ys e h = ap (or_here gap c ys) (last_none ys h) ∙ cond-true (gap c) _ _ e
last_takes (x ∷ xs) c ys e h = ap (or_here gap x (xs ++ c ∷ ys)) (last_takes xs c ys e h)

-- ---- the code's cuts

last_some : (r : List ℕ) → 0 < length r → last_of r ≡ Some (after_gap r (at_last gap r))
last_some [] l = absurd (omega arith)
last_some (b ∷ bs) l = refl

module _ (s r : List ℕ) (peeled : IsTrimEndMatches Closes s r) where
  same : last_word s ≡ last_of r
  unfolding last_word
  same = ap last_of (past_gaps s peeled.0.0 r peeled.0.1 ∙ kept r peeled.1)

  pub no_last : length r ≡ 0 → None ≡ last_word s
  no_last e = sym (same ∙ ap last_of (nil_from_length r e))

  only_last : 0 < length r → FindsLast r None → Some ([], r) ≡ last_word s
  only_last some f = sym (same ∙ last_some r some ∙ ap (λ o. Some (after_gap r o)) (last_none r (free gap gap_ascii r (f gap (λ c. refl)))))

  last_found : 0 < length r → (i j : ℕ) (x y : List ℕ) → FindsLast r (Some (i, j)) → x ≡ take i r → y ≡ drop j r → Some (x, y) ≡ last_word s
  last_found some i j x y f e g =
      let found = f gap (λ c. refl) in
      let c : ℕ = found.1.0 in
      let cut = drop_at_char c r i j found.1.2 (gap_ascii c found.1.1) in
      let whole : r ≡ take i r ++ c ∷ drop j r = sym (take-append-drop i r) ∙ ap (λ l. take i r ++ l) cut in
      let at : at_last gap r ≡ Some (take i r, drop j r) = ap (at_last gap) whole ∙ last_takes (take i r) c (drop j r) found.1.1 (free gap gap_ascii (drop j r) found.0) in
      sym (same ∙ last_some r some ∙ ap (λ o. Some (after_gap r o)) at ∙ rw (e, g))

  -- what the code makes of the last gap, or of none
  pub last_is : 0 < length r → (o : Option (Bor (List ℕ) × Bor (List ℕ))) (d : Bor (List ℕ) × Bor (List ℕ)) → d.0.now ≡ [] → d.1.now ≡ r
      → MatchOption o (FindsLast r None) (λ p. SplitsAroundMatch FindsLast r p.0.now p.1.now)
      → Some (both_parts (unwrap_or o d)) ≡ last_word s
  last_is some None d e g f = (λ k. Some (e k, g k)) ∙ only_last some f
  last_is some (Some p) d e g f = last_found some f.0 f.1 p.0.now p.1.now f.2 f.3 f.4

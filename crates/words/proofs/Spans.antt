-- Two numbers with a dash between them. Assumes nothing.
use Rattle.std.proofs.Common.{◌≡◌, ℕ, ◌≤◌, true, false, cond, leb, List, [], ◌∷◌, ◌++◌, Some, None, Ok, Option, Result, sym, refl, ap, ◌∙◌, subst, arith}
use Rattle.std.specs.Option.{option_map, ok_or}
use Rattle.std.specs.Int.{IsInRange}
use Rattle.std.proofs.lemmas.Bool.{cond-true, and_parts, and_from, leb-true, le-leb}
use Rattle.std.proofs.lemmas.Bool.Decides.{nat_tests}
use Rattle.parts.specs.Limits.{is_span}
use Rattle.texts.specs.declared.Cause.{Cause}
use Rattle.texts.specs.declared.Cause.TheVariants.{NotASpan, Backward}
use Rattle.texts.specs.Cuts.{dash, at_first}
use Rattle.words.specs.Lines.{ordered, between, at_dash, span_of}
use Rattle.texts.specs.Numerals.{Writes, number_of}
use Rattle.texts.specs.Results.{and_then}
use Rattle.texts.proofs.Cuts.{first_takes, first_told}
use Rattle.texts.proofs.Digits.{number_takes, number_told, writes_digits, digits_free}
use Rattle.texts.proofs.Steps.{then_ok, cond_ok, err_ok}

-- the first dash is where a text is cut
dash_first : (w : List ℕ) → at_first dash w ≡ at_dash w
unfolding at_first at_dash
dash_first [] = refl
dash_first (b ∷ bs) = ap (λ o. cond (dash b) (Some ([], bs)) (option_map (λ p. (b ∷ p.0, p.1)) o)) (dash_first bs)

-- ---- what `split_once` gave

-- the numbers on both sides of a dash
abbrev pub ends : List ℕ × List ℕ → Result (ℕ × ℕ) Cause
ends p = and_then (number_of 65535 p.0) (λ a. and_then (number_of 65535 p.1) (λ b. ordered a b))

pub spans : (w : List ℕ) → and_then (ok_or (at_first dash w) NotASpan) ends ≡ span_of w
unfolding span_of
spans w = by (at_first dash w) ∙ ap between (dash_first w)
  where
    by : (o : Option (List ℕ × List ℕ)) → and_then (ok_or o NotASpan) ends ≡ between o
    by None = refl
    by (Some p) = refl

-- ---- which words are spans

dash_out : (b : ℕ) → IsInRange 48 57 b → dash b ≡ false
dash_out b h = grind (arith, nat_tests)

pub span_takes : (x y : List ℕ) (a b : ℕ) → Writes x a → Writes y b → is_span a b ≡ true → span_of (x ++ 45 ∷ y) ≡ Ok (a, b)
unfolding span_of
span_takes x y a b p q e =
    let s = and_parts (leb a b) _ e in
    let le : a ≤ b = leb-true a b s.0 in
    let most : b ≤ 65535 = leb-true b 65535 s.1 in
    ap between (sym (dash_first (x ++ 45 ∷ y)) ∙ first_takes 45 (omega arith) x y (digits_free dash dash_out x (writes_digits x a (omega arith) p)))
    ∙ ap (λ r. and_then r (λ m. and_then (number_of 65535 y) (λ n. ordered m n))) (number_takes x a (omega arith) p 65535 (omega arith))
    ∙ ap (λ r. and_then r (λ n. ordered a n)) (number_takes y b (omega arith) q 65535 most) ∙ cond-true (leb a b) _ _ s.0

pub record Spanned (w : List ℕ) (s : ℕ × ℕ) : Type 0 where
  pub front : List ℕ
  pub back : List ℕ
  pub cut : w ≡ front ++ 45 ∷ back
  pub from : Writes front s.0
  pub to : Writes back s.1
  pub span : is_span s.0 s.1 ≡ true

pub span_told : (w : List ℕ) (s : ℕ × ℕ) → span_of w ≡ Ok s → Spanned w s
unfolding span_of
span_told w s e = by (at_first dash w) refl (ap between (dash_first w) ∙ e)
  where
    by : (o : Option (List ℕ × List ℕ)) → at_first dash w ≡ o → between o ≡ Ok s → Spanned w s
    by None d e = absurd (err_ok _ _ e)
    by (Some p) d e =
        let a = then_ok (number_of 65535 p.0) _ s e in
        let b = then_ok (number_of 65535 p.1) _ s a.2 in
        let k = cond_ok (leb a.0 b.0) (Ok (a.0, b.0)) Backward s b.2 in
        let is : (a.0, b.0) ≡ s = cc in
        let from = number_told 65535 p.0 a.0 (omega arith) a.1 in
        let to = number_told 65535 p.1 b.0 (omega arith) b.1 in
        subst (Spanned w) is
        (record {
          front = p.0;
          back = p.1;
          cut = first_told 45 (omega arith) w p d;
          from = from.0;
          to = to.0;
          span = and_from (leb a.0 b.0) _ k.0 (le-leb b.0 65535 to.1);
        })

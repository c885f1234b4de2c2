-- What stands after a line's first word, as the code reads it. Assumes nothing.
use Rattle.std.proofs.Common.{◌≡◌, ℕ, ◌<◌, ◌≤◌, false, cond, leb, List, [], length, Some, None, Ok, Err, Option, MatchOption, sym, ap, ◌∙◌, ⊎_elim, arith}
use Rattle.std.proofs.lemmas.Bool.{cond-true, cond-false, and_parts, and_cases, le-leb, lt-leb, both_ways}
use Rattle.narrow.specs.Rows.{all}
use Rattle.parts.specs.declared.Span.{Span}
use Rattle.parts.specs.declared.KeyNumber.{KeyNumber}
use Rattle.parts.specs.Items.{Museums, Name, items}
use Rattle.parts.specs.Limits.{is_museums, is_name, is_letter, longest_name, last_key}
use Rattle.texts.specs.declared.Cause.{Cause}
use Rattle.texts.specs.declared.Cause.TheVariants.{NoSuchMuseum, NoSuchKey, Backward, BadLetter, LongName}
use Rattle.texts.specs.Cuts.{parts, comma}
use Rattle.words.specs.Lines.{listed, known_museums, museums_of, ordered, span_of, name_of, key_of}
use Rattle.texts.specs.Numerals.{number_of}
use Rattle.texts.specs.Results.{and_then}

module _ (w : List ℕ) where
  -- ---- museums
  pub list_fails : (c : Cause) → Err c ≡ listed [] (parts comma w) → Err c ≡ museums_of w
  unfolding museums_of
  list_fails c e = ap (λ r. and_then r known_museums) e

  module _ (ms : List ℕ) (e : Ok ms ≡ listed [] (parts comma w)) where
    list_is : museums_of w ≡ known_museums ms
    unfolding museums_of
    list_is = ap (λ r. and_then r known_museums) (sym e)

    pub list_told : (o : Option Museums) → MatchOption o (is_museums ms ≡ false) (λ m. items m ≡ ms) → MatchOption o (Err NoSuchMuseum ≡ museums_of w) (λ m. Ok (items m) ≡ museums_of w)
    list_told None h = sym (list_is ∙ cond-false (is_museums ms) _ _ h)
    list_told (Some m) h = ap Ok h ∙ sym (list_is ∙ cond-true (is_museums ms) _ _ (ap is_museums (sym h) ∙ m.possible))

  -- ---- a key
  pub key_fails : (c : Cause) → Err c ≡ number_of 65535 w → Err c ≡ key_of w
  unfolding key_of
  key_fails c e = ap (λ r. and_then r (λ k. cond (leb k last_key) (Ok k) (Err NoSuchKey))) e

  module _ (n : ℕ) (e : Ok n ≡ number_of 65535 w) where
    key_reads : key_of w ≡ cond (leb n last_key) (Ok n) (Err NoSuchKey)
    unfolding key_of
    key_reads = ap (λ r. and_then r (λ k. cond (leb k last_key) (Ok k) (Err NoSuchKey))) (sym e)

    pub key_told : (o : Option KeyNumber) → MatchOption o (4095 < n) (λ k. k.number ≡ n) → MatchOption o (Err NoSuchKey ≡ key_of w) (λ k. Ok k.number ≡ key_of w)
    key_told None h = sym (key_reads ∙ cond-false (leb n last_key) _ _ (lt-leb n 4095 h))
    key_told (Some k) h = ap Ok h ∙ sym (key_reads ∙ cond-true (leb n last_key) _ _ (le-leb n 4095 (omega (arith, k.known))))

  -- ---- a name, whose letters are ls
  pub name_long : 32 < length w → Err LongName ≡ name_of w
  unfolding name_of
  name_long h = sym (cond-false (leb (length w) longest_name) _ _ (lt-leb (length w) 32 h))

  pub name_told : length w ≤ 32 → (o : Option Name) → MatchOption o (is_name w ≡ false) (λ n. items n ≡ w) → MatchOption o (Err BadLetter ≡ name_of w) (λ n. Ok (items n) ≡ name_of w)
  unfolding name_of
  name_told l None h =
      let fits = le-leb (length w) 32 l in
      sym (cond-true (leb (length w) longest_name) _ _ fits ∙ cond-false (all is_letter w) _ _
      (⊎_elim (λ e. absurd (both_ways (leb (length w) longest_name) e fits)) (λ e. e) (and_cases (leb (length w) longest_name) _ h)))
  name_told l (Some n) e =
      let p = and_parts (leb (length w) longest_name) _ (ap is_name (sym e) ∙ n.possible) in
      ap Ok e ∙ sym (cond-true (leb (length w) longest_name) _ _ p.0 ∙ cond-true (all is_letter w) _ _ p.1)

  -- ---- a span
  module _ (a b : ℕ) (e : span_of w ≡ ordered a b) where
    pub span_told : (o : Option Span) → MatchOption o (b < a) (λ s. (s.from ≡ a) × (s.to ≡ b)) → MatchOption o (Err Backward ≡ span_of w) (λ s. Ok (s.from, s.to) ≡ span_of w)
    span_told None h = sym (e ∙ cond-false (leb a b) _ _ (lt-leb a b h))
    span_told (Some s) h = (λ k. Ok (h.0 k, h.1 k)) ∙ sym (e ∙ cond-true (leb a b) _ _ (le-leb a b (omega (arith, h.0, h.1, s.ordered))))

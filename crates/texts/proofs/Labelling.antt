-- Words that are told by the word before them, as the code reads them. Assumes nothing.
use Rattle.std.proofs.Common.{◌≡◌, ℕ, true, false, cond, not, List, Ok, Err, sym, ap, ◌∙◌}
use Rattle.std.specs.Str.{bytes_eq}
use Rattle.std.proofs.lemmas.Slice.Eq.{bytes_eq-Decides}
use Rattle.std.specs.Cmp.Lexicographic.{same_text, other_text}
use Rattle.std.proofs.lemmas.Bool.{false_from_ne_true, not-true, not-false, cond-true, cond-false}
use Rattle.texts.specs.declared.Cause.{Cause}
use Rattle.texts.specs.declared.Cause.TheVariants.{UnknownWord}
use Rattle.texts.specs.Labels.{next, labelled}
use Rattle.texts.specs.Results.{and_then}

pub differs : (w text : List ℕ) → (w ≡ text → ⊥) → bytes_eq w text ≡ false
differs w text h = false_from_ne_true (bytes_eq w text) (λ e. h ((bytes_eq-Decides w text).0 e))

-- what `!=` says
module _ (xs ys : List ℕ) where
  pub apart : true ≡ not (bytes_eq xs ys) → xs ≡ ys → ⊥
  apart h = other_text xs ys (sym (not-true (bytes_eq xs ys) (sym h)))

  pub alike : false ≡ not (bytes_eq xs ys) → xs ≡ ys
  alike h = same_text xs ys (sym (not-false (bytes_eq xs ys) (sym h)))

module _ (label : List ℕ) (ws : List (List ℕ)) where
  pub no_label : (c : Cause) → Err c ≡ next ws → Err c ≡ labelled label ws
  unfolding labelled
  no_label c e = ap (λ r. and_then r (λ p. cond (bytes_eq p.0 label) (next p.1) (Err UnknownWord))) e

  module _ (w : List ℕ) (us : List (List ℕ)) (e : Ok (w, us) ≡ next ws) where
    label_is : labelled label ws ≡ cond (bytes_eq w label) (next us) (Err UnknownWord)
    unfolding labelled
    label_is = ap (λ r. and_then r (λ p. cond (bytes_eq p.0 label) (next p.1) (Err UnknownWord))) (sym e)

    pub wrong_label : (w ≡ label → ⊥) → Err UnknownWord ≡ labelled label ws
    wrong_label h = sym (label_is ∙ cond-false (bytes_eq w label) _ _ (differs w label h))

    pub right_label : w ≡ label → next us ≡ labelled label ws
    right_label h = sym (label_is ∙ cond-true (bytes_eq w label) _ _ ((bytes_eq-Decides w label).1 h))

-- What a line says, by its first word. Assumes nothing.
use Rattle.std.proofs.Common.{◌≡◌, ℕ, Bool, List, [], ◌∷◌, Some, None, Ok, Err, codes, sym, ap, ◌∙◌}
use Rattle.std.specs.Result.{result_map_both}
use Rattle.std.specs.Str.{bytes_eq}
use Rattle.std.proofs.lemmas.Bool.{cond-false}
use Rattle.texts.proofs.Labelling.{differs}
use Rattle.script.specs.declared.Cause.TheVariants.{Words}
use Rattle.texts.specs.declared.Cause.TheVariants.{UnknownWord}
use Rattle.script.specs.Rules.{house_sense, sense}

module _ (begun : Bool) (ws : List (List ℕ)) where
  pub nothing : ws ≡ [] → Ok None ≡ sense begun ws
  unfolding sense
  nothing e = ap (sense begun) (sym e)

  module _ (w : List ℕ) (us : List (List ℕ)) (e : ws ≡ w ∷ us) where
    pub other : (w ≡ codes "house" → ⊥) → Err (Words UnknownWord) ≡ sense begun ws
    unfolding sense
    other h = sym (ap (sense begun) e ∙ cond-false (bytes_eq w (codes "house")) _ _ (differs w (codes "house") h))

    pub house : w ≡ codes "house" → result_map_both Some (λ c. c) (house_sense begun us) ≡ sense begun ws
    unfolding sense
    house h = ap (λ k. sense begun (k ∷ us)) (sym h) ∙ ap (sense begun) (sym e)

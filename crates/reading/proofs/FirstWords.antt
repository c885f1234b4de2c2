-- The first word of a statement says which it is. Assumes nothing.
use Rattle.std.proofs.Common.{◌≡◌, ℕ, cond, List, Err, codes, Result, sym, ◌∙◌, subst}
use Rattle.std.specs.Str.{bytes_eq}
use Rattle.std.proofs.lemmas.Bool.{cond-false}
use Rattle.texts.specs.declared.Cause.{Cause}
use Rattle.texts.specs.declared.Cause.TheVariants.{UnknownWord}
use Rattle.texts.proofs.Labelling.{differs}
use Rattle.statements.specs.Said.{Said}
use Rattle.statements.specs.Views.{stated}
use Rattle.statements.specs.declared.Statement.{Statement}
use Rattle.trouble.specs.declared.Trouble.{Trouble}
use Rattle.trouble.specs.Told.{Told}
use Rattle.reading.specs.Forms.{said_by}

-- w is the word v
pub said_at : {w v : List ℕ} (text : List ℕ) (r : Result Statement (Trouble Cause)) → w ≡ v → Told stated r (said_by v text) → Told stated r (said_by w text)
said_at text r e h = subst (λ u. Told stated r (said_by u text)) (sym e) h

module _ (w text : List ℕ) where
  pub at_none : (w ≡ codes "house" → ⊥) → (w ≡ codes "key" → ⊥) → (w ≡ codes "ticket" → ⊥) → (w ≡ codes "yes" → ⊥) → (w ≡ codes "add" → ⊥) → (w ≡ codes "tie" → ⊥) → (w ≡ codes "give" → ⊥) → (w ≡ codes "wish" → ⊥) → (w ≡ codes "show" → ⊥) → Err UnknownWord ≡ said_by w text
  unfolding said_by
  at_none h0 h1 h2 h3 h4 h5 h6 h7 h8 =
      sym (out (codes "house") h0 _ _ ∙ out (codes "key") h1 _ _ ∙ out (codes "ticket") h2 _ _ ∙ out (codes "yes") h3 _ _ ∙ out (codes "add") h4 _ _ ∙ out (codes "tie") h5 _ _ ∙ out (codes "give") h6 _ _ ∙ out (codes "wish") h7 _ _ ∙ out (codes "show") h8 _ _)
    where
      out : (v : List ℕ) → (w ≡ v → ⊥) → (r s : Result Said Cause) → cond (bytes_eq w v) r s ≡ s
      out v h r s = cond-false (bytes_eq w v) r s (differs w v h)

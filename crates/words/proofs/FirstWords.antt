-- The first word of a line, and what follows it. Assumes nothing.
use Rattle.std.proofs.Common.{◌≡◌, ℕ, List, [], ◌∷◌, IsOkAnd, MatchResult, Ok, Err, codes, Result, sym, ap, ◌∙◌}
use Rattle.std.specs.Str.{bytes_eq}
use Rattle.std.proofs.lemmas.Bool.{cond-false}
use Rattle.parts.specs.Limits.{ALimit, AnElse}
use Rattle.texts.specs.declared.Cause.{Cause}
use Rattle.texts.specs.declared.Cause.TheVariants.{UnknownWord, MissingWord}
use Rattle.texts.specs.Cuts.{words_of, one_word}
use Rattle.words.specs.Lines.{key_of, limit_of, line_of, line_in}
use Rattle.texts.specs.Labels.{next}
use Rattle.texts.specs.Results.{and_then, and_is}
use Rattle.texts.proofs.Labelling.{differs}
use Rattle.texts.proofs.Steps.{err_ok, next_told}

-- what `map` gave
pub mapped : {Y Z X V : Type 0} {Q : Y → Z → Type 0} (seen : Y → X) (view : Z → V) (g : X → V) (m : Result Y Cause) (q : Result Z Cause) → MatchResult m (λ y. IsOkAnd q (Q y)) (λ c. q ≡ Err c) → ((y : Y) (z : Z) → Q y z → view z ≡ g (seen y)) → and_is q view ≡ and_is (and_is m seen) g
mapped seen view g (Ok y) (Ok z) k makes = ap Ok (makes y z k)
mapped seen view g (Ok y) (Err c) k makes = absurd k
mapped seen view g (Err c) q k makes = ap (λ r. and_is r view) k

-- what `and_then` gave
then_read : {W Y X : Type 0} {P : W → Type 0} (now : W → List ℕ) (seen : Y → X) (f : List ℕ → Result X Cause) (s : Result W Cause) (m : Result Y Cause) → MatchResult s P (λ c. m ≡ Err c) → ((w : W) → P w → and_is m seen ≡ f (now w)) → and_is m seen ≡ and_then (and_is s now) f
then_read now seen f (Ok w) m h reads = reads w h
then_read now seen f (Err c) m h reads = ap (λ r. and_is r seen) h

-- q is what is made by g of what f reads of the word t, as t said
pub chained : {W Y Z X V : Type 0} {P : W → Type 0} {Q : Y → Z → Type 0} {t : Result (List ℕ) Cause} {u : Result V Cause} (f : List ℕ → Result X Cause) (g : X → V) (now : W → List ℕ) (seen : Y → X) (view : Z → V) (s : Result W Cause) (m : Result Y Cause) (q : Result Z Cause)
    → and_is s now ≡ t → and_is (and_then t f) g ≡ u → MatchResult s P (λ c. m ≡ Err c) → MatchResult m (λ y. IsOkAnd q (Q y)) (λ c. q ≡ Err c) → ((w : W) → P w → and_is m seen ≡ f (now w)) → ((y : Y) (z : Z) → Q y z → view z ≡ g (seen y)) → and_is q view ≡ u
chained f g now seen view s m q word at h k reads makes = mapped seen view g m q k makes ∙ ap (λ r. and_is r g) (then_read now seen f s m h reads ∙ ap (λ r. and_then r f) word) ∙ at

-- kind is the word v
pub limit_at : {kind v : List ℕ} (ws : List (List ℕ)) → kind ≡ v → limit_of v ws ≡ limit_of kind ws
limit_at ws e = ap (λ k. limit_of k ws) (sym e)

module _ (kind : List ℕ) (ws : List (List ℕ)) where
  pub at_none : (kind ≡ codes "museums" → ⊥) → (kind ≡ codes "days" → ⊥) → (kind ≡ codes "minutes" → ⊥) → (kind ≡ codes "persons" → ⊥) → (kind ≡ codes "name" → ⊥) → Err UnknownWord ≡ limit_of kind ws
  unfolding limit_of
  at_none a b c d e =
      sym (cond-false (bytes_eq kind (codes "museums")) _ _ (differs kind _ a) ∙ cond-false (bytes_eq kind (codes "days")) _ _ (differs kind _ b) ∙ cond-false (bytes_eq kind (codes "minutes")) _ _ (differs kind _ c)
      ∙ cond-false (bytes_eq kind (codes "persons")) _ _ (differs kind _ d) ∙ cond-false (bytes_eq kind (codes "name")) _ _ (differs kind _ e))

  -- a text that begins with the word kind
  module _ (text : List ℕ) (begins : Ok (kind, ws) ≡ next (words_of text)) where
    pub at_else : kind ≡ codes "else" → and_is (and_then (one_word ws) key_of) AnElse ≡ line_in text
    unfolding line_of
    at_else e = ap (λ k. line_of (k ∷ ws)) (sym e) ∙ ap line_of (sym (next_told (words_of text) begins))

    pub at_limit : (kind ≡ codes "else" → ⊥) → and_is (limit_of kind ws) ALimit ≡ line_in text
    unfolding line_of
    at_limit h = sym (ap line_of (next_told (words_of text) begins) ∙ cond-false (bytes_eq kind (codes "else")) _ _ (differs kind _ h))

pub no_line : (text : List ℕ) (c : Cause) → Err c ≡ next (words_of text) → Err c ≡ line_in text
unfolding line_of
no_line text c e = by (words_of text) e
  where
    by : (ws : List (List ℕ)) → Err c ≡ next ws → Err c ≡ line_of ws
    by [] e = let same : c ≡ MissingWord = cc in ap Err same
    by (w ∷ ws) e = absurd (err_ok c _ e)

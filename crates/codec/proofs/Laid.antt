-- What is laid down piece by piece. Assumes nothing.
use Rattle.std.proofs.Common.{◌≡◌, ℕ, cond, is_ok, List, [], ◌∷◌, ◌++◌, Ok, Err, Result, sym, ap, ◌∙◌, append_assoc, append-nil, IfOk}
use Rattle.std.proofs.lemmas.Result.{IfOk-weaker}
use Rattle.narrow.specs.Term.{Bytes}
use Rattle.codec.specs.Format.{write_several}

-- a piece behind others
pub laid_on : (out0 out1 out2 a b : Bytes) → out1 ≡ out0 ++ a → out2 ≡ out1 ++ b → out2 ≡ out0 ++ (a ++ b)
laid_on out0 out1 out2 a b e q = q ∙ (ap (λ (o : Bytes). o ++ b) e ∙ append_assoc out0 a b)

-- several, and then one more
pub several_push : {A : Type 0} (f : A → Bytes) (xs : List A) (y : A) → write_several f (xs ++ y ∷ []) ≡ write_several f xs ++ f y
unfolding write_several
several_push f [] y = append-nil (f y)
several_push f (x ∷ xs) y = ap (λ (b : Bytes). f x ++ b) (several_push f xs y) ∙ sym (append_assoc (f x) (write_several f xs) (f y))

-- a last one, if there was memory for it
pub laid_end : {U E : Type 0} (r : Result U E) (out0 out1 out2 a b : Bytes) → out1 ≡ out0 ++ a → IfOk r (λ _. out2 ≡ out1 ++ b) → IfOk r (λ _. out2 ≡ out0 ++ (a ++ b))
laid_end r out0 out1 out2 a b e h = IfOk-weaker r (λ _. out2 ≡ out1 ++ b) (λ _. out2 ≡ out0 ++ (a ++ b)) (λ _ q. laid_on out0 out1 out2 a b e q) h

-- a kind, a piece and a last one
pub laid_kind : {U E : Type 0} (r : Result U E) (out0 out1 out2 out3 a b : Bytes) (k : ℕ) → out1 ≡ out0 ++ k ∷ [] → out2 ≡ out1 ++ a → IfOk r (λ _. out3 ≡ out2 ++ b) → IfOk r (λ _. out3 ≡ out0 ++ (k ∷ (a ++ b)))
laid_kind r out0 out1 out2 out3 a b k e q h = laid_end r out0 out2 out3 (k ∷ a) b (laid_on out0 out1 out2 (k ∷ []) a e q) h

-- what a list became, if there was memory for that
pub laid_last : {U E : Type 0} (r : Result U E) (now longer before due : Bytes) → now ≡ cond (is_ok r) longer before → longer ≡ due → IfOk r (λ _. now ≡ due)
laid_last (Ok u) now longer before due e q = e ∙ q
laid_last (Err f) now longer before due e q = tt

-- a count, and then so many lines
pub laid_row : (out0 out1 : Bytes) (n n' : ℕ) (tail tail' : Bytes) → out1 ≡ out0 ++ n' ∷ [] → n' ≡ n → tail' ≡ tail → out1 ++ tail' ≡ out0 ++ (n ∷ tail)
laid_row out0 out1 n n' tail tail' e many is = (λ i. e i ++ is i) ∙ (append_assoc out0 (n' ∷ []) tail ∙ ap (λ (k : ℕ). out0 ++ (k ∷ tail)) many)

module _ (out0 out1 out2 : Bytes) (k : ℕ) (head head' : Bytes) (none : out0 ≡ []) (kind : out1 ≡ out0 ++ k ∷ []) (front : out2 ≡ out1 ++ head') (is : head' ≡ head) where
  -- a kind and then a part
  laid_one : out2 ≡ k ∷ head
  laid_one = cc

  -- then another part
  pub laid_two : (out3 tail tail' : Bytes) → out3 ≡ out2 ++ tail' → tail' ≡ tail → out3 ≡ k ∷ (head ++ tail)
  laid_two out3 tail tail' back is' = cc

-- What stands before a comment. Assumes nothing.
use Rattle.std.proofs.Common.{◌≡◌, ℕ, suc, ◌<◌, Bool, true, false, List, [], ◌∷◌, ◌++◌, length, get_or, Some, None, Option, Bor, sym, refl, ap, ◌∙◌, arith}
use Rattle.std.specs.Option.{unwrap_or}
use Rattle.std.proofs.lemmas.Str.Pattern.{IsSplitOnceResult, split_parts}
use Rattle.std.proofs.lemmas.Bool.{ne_eqb}
use Rattle.scripting.specs.Rules.{hash, before, uncommented}

-- no byte passes t
abbrev Lacking : (ℕ → Bool) → List ℕ → Type 0
Lacking t bs = (k : ℕ) → k < length bs → t (get_or bs k 0) ≡ false

lacking_tail : (t : ℕ → Bool) (b : ℕ) (bs : List ℕ) → Lacking t (b ∷ bs) → Lacking t bs
lacking_tail t b bs h k l = h (suc k) (omega arith)

before_all : (t : ℕ → Bool) (bs : List ℕ) → Lacking t bs → before t bs ≡ bs
before_all t [] h = refl
before_all t (b ∷ bs) h = rw (h 0 (omega arith)) (ap (λ l. b ∷ l) (before_all t bs (lacking_tail t b bs h)))

before_cut : (t : ℕ → Bool) (xs : List ℕ) (c : ℕ) (ys : List ℕ) → t c ≡ true → Lacking t xs → before t (xs ++ c ∷ ys) ≡ xs
before_cut t [] c ys e h = rw e refl
before_cut t (x ∷ xs) c ys e h = rw (h 0 (omega arith)) (ap (λ l. x ∷ l) (before_cut t xs c ys e (lacking_tail t x xs h)))

-- what the code makes of the first `#`, or of none
pub code_is : (line : List ℕ) (o : Option (Bor (List ℕ) × Bor (List ℕ))) (d : Bor (List ℕ) × Bor (List ℕ)) → d.0.now ≡ line → IsSplitOnceResult 35 line o → (unwrap_or o d).0.now ≡ uncommented line
code_is line None d e h = let p = split_parts 35 line None h (omega arith) in e ∙ sym (before_all hash line (λ k l. ne_eqb _ 35 (p k l)))
code_is line (Some x) d e h = let p = split_parts 35 line (Some x) h (omega arith) in sym (ap (before hash) p.0 ∙ before_cut hash x.0.now 35 _ refl (λ k l. ne_eqb _ 35 (p.1 k l)))

-- A comment says nothing. Assumes nothing.
use Rattle.std.proofs.Common.{◌≡◌, ℕ, ◌+◌, Bool, true, false, cond, eqb, List, [], ◌∷◌, ◌++◌, Some, None, Ok, Err, Option, Result, refl, ap, ◌∙◌, append-nil}
use Rattle.std.specs.Str.Iter.{LacksByte}
use Rattle.std.proofs.ByRecursion.{All-from_get_or}
use Rattle.std.proofs.lemmas.Bool.{ne_eqb}
use Rattle.texts.specs.Cuts.{onto}
use Rattle.texts.proofs.Cuts.{Free, parts_all, parts_cut}
use Rattle.scripting.specs.Laws.{AfterLine, CommentsAside}
use Rattle.scripting.specs.Rules.{newline, uncommented, lines_in, Outcome, some_of, outcome, reads}
use Rattle.scripting.proofs.Lines.{after}

-- lines that differ in no more than their comments
abbrev Alike : List (List ℕ) → List (List ℕ) → Type 0
Alike [] [] = Unit {0}
Alike [] (m ∷ ms) = ⊥
Alike (l ∷ ls) [] = ⊥
Alike (l ∷ ls) (m ∷ ms) = (uncommented l ≡ uncommented m) × Alike ls ms

alike_same : (ls : List (List ℕ)) → Alike ls ls
alike_same [] = tt
alike_same (l ∷ ls) = (refl, alike_same ls)

alike_onto : (b : ℕ) (ls ms : List (List ℕ)) → Alike ls ms → Alike (onto b ls) (onto b ms)
alike_onto b [] [] h = (refl, tt)
alike_onto b [] (m ∷ ms) h = absurd h
alike_onto b (l ∷ ls) [] h = absurd h
alike_onto b (l ∷ ls) (m ∷ ms) h = (ap (λ bs. cond (eqb b 35) [] (b ∷ bs)) h.0, h.1)

free : (bs : List ℕ) → LacksByte 10 bs → Free newline bs
free bs lacks = All-from_get_or (λ b. newline b ≡ false) bs 0 (λ k l. ne_eqb _ 10 (lacks k l))

alike_lines : (front comment back : List ℕ) → LacksByte 10 comment → AfterLine back → Alike (lines_in (front ++ (35 ∷ (comment ++ back)))) (lines_in (front ++ back))
alike_lines [] comment [] lacks ends = rw (append-nil comment, parts_all newline comment (free comment lacks)) (refl, tt)
alike_lines [] comment (b ∷ back) lacks ends = rw (ends, parts_cut newline comment 10 back refl (free comment lacks)) (refl, alike_same (lines_in back))
alike_lines (b ∷ front) comment back lacks ends = first (newline b) _ _ (alike_lines front comment back lacks ends)
  where
    first : (t : Bool) (ls ms : List (List ℕ)) → Alike ls ms → Alike (cond t ([] ∷ ls) (onto b ls)) (cond t ([] ∷ ms) (onto b ms))
    first true ls ms h = (refl, h)
    first false ls ms h = alike_onto b ls ms h

module _ {X C : Type 0} (sense : Bool → List ℕ → Result (Option X) C) where
  alike_outcome : (said : List (ℕ × X)) (n : ℕ) (ls ms : List (List ℕ)) → Alike ls ms → outcome sense said n ls ≡ outcome sense said n ms
  alike_outcome said n [] [] h = refl
  alike_outcome said n [] (m ∷ ms) h = absurd h
  alike_outcome said n (l ∷ ls) [] h = absurd h
  alike_outcome said n (l ∷ ls) (m ∷ ms) h = rest (sense (some_of said) (uncommented l)) (λ p. alike_outcome p (n + 1) ls ms h.1) ∙ ap (λ bs. after sense said n ms (sense (some_of said) bs)) h.0
    where
      rest : (q : Result (Option X) C) → ((p : List (ℕ × X)) → outcome sense p (n + 1) ls ≡ outcome sense p (n + 1) ms) → after sense said n ls q ≡ after sense said n ms q
      rest (Ok None) same = same said
      rest (Ok (Some s)) same = same (said ++ (n, s) ∷ [])
      rest (Err c) same = refl

  pub aside : (text : List ℕ) (o : Outcome X C) → o ≡ reads sense text → CommentsAside sense text o
  aside text o e front comment back f lacks ends = e ∙ ap (reads sense) f ∙ alike_outcome [] 1 (lines_in (front ++ (35 ∷ (comment ++ back)))) (lines_in (front ++ back)) (alike_lines front comment back lacks ends)

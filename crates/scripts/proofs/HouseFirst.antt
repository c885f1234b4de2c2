-- The house is opened first, and only once. Assumes nothing.
use Rattle.std.proofs.Common.{◌≡◌, ℕ, ◌+◌, Bool, true, false, cond, List, [], ◌∷◌, ◌++◌, Some, None, Ok, Err, Option, Result, sym, refl, subst, arith}
use Rattle.std.proofs.ByRecursion.{All-append}
use Rattle.std.proofs.lemmas.Bool.{not-false}
use Rattle.statements.specs.Said.{Said}
use Rattle.scripting.specs.Rules.{uncommented, some_of, outcome, lines_in}
use Rattle.scripting.proofs.Lines.{after}
use Rattle.scripts.specs.declared.Cause.{Cause}
use Rattle.scripts.specs.declared.Cause.TheVariants.{HouseFirst}
use Rattle.scripts.specs.Laws.{HouseOpensFirst}
use Rattle.scripts.specs.Rules.{alone, opens, misplaced, placed, sense, Outcome, reads}

-- a statement that was let stand where it is
stands : (begun : Bool) (q : Result (Option Said) Cause) (s : Said) → placed begun q ≡ Ok (Some s) → misplaced begun s ≡ false
stands begun (Ok None) s e = let z : ◌≡◌ {A = ℕ} 0 1 = cc in absurd (omega arith)
stands begun (Err c) s e = let z : ◌≡◌ {A = ℕ} 0 1 = cc in absurd (omega arith)
stands begun (Ok (Some t)) s e = by (misplaced begun t) refl e
  where
    by : (b : Bool) → misplaced begun t ≡ b → ◌≡◌ {A = Result (Option Said) Cause} (cond b (Err HouseFirst) (Ok (Some t))) (Ok (Some s)) → misplaced begun s ≡ false
    by true f e = let z : ◌≡◌ {A = ℕ} 0 1 = cc in absurd (omega arith)
    by false f e = let is : t ≡ s = cc in subst (λ u. misplaced begun u ≡ false) is f

-- one statement more
more : (past : List (ℕ × Said)) (n : ℕ) (s : Said) → HouseOpensFirst past → misplaced (some_of past) s ≡ false → HouseOpensFirst (past ++ (n, s) ∷ [])
more [] n s h e = (not-false (opens s) e, tt)
more (p ∷ ps) n s h e = (h.0, All-append (λ t. opens t.1 ≡ false) ps ((n, s) ∷ []) h.1 (e, tt))

abbrev Goes : List (ℕ × Said) → ℕ → List (List ℕ) → Type 0
Goes past n ls = HouseOpensFirst past → HouseOpensFirst (outcome sense past n ls).said

-- one line, which says q, before lines that hold to this
step : (past : List (ℕ × Said)) (n : ℕ) (l : List ℕ) (ls : List (List ℕ)) → ((p : List (ℕ × Said)) → Goes p (n + 1) ls) → HouseOpensFirst past → (q : Result (Option Said) Cause) → sense (some_of past) (uncommented l) ≡ q → HouseOpensFirst (after sense past n ls q).said
step past n l ls goes h (Ok None) e = goes past h
step past n l ls goes h (Ok (Some s)) e = goes (past ++ (n, s) ∷ []) (more past n s h (stands (some_of past) (alone (uncommented l)) s e))
step past n l ls goes h (Err c) e = h

goes : (past : List (ℕ × Said)) (n : ℕ) (ls : List (List ℕ)) → Goes past n ls
goes past n [] h = h
goes past n (l ∷ ls) h = step past n l ls (λ p. goes p (n + 1) ls) h (sense (some_of past) (uncommented l)) refl

pub house_first : (text : List ℕ) (o : Outcome) → o ≡ reads text → HouseOpensFirst o.said
house_first text o e = subst (λ p. HouseOpensFirst p.said) (sym e) (goes [] 1 (lines_in text) tt)

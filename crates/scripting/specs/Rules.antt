-- How a text with a statement a line is read, over its bytes. Assumes nothing.
use Rattle.std.specs.Prelude.{ℕ, ◌+◌, Bool, true, false, cond, List, [], ◌∷◌, ◌++◌, Some, None, Ok, Err, Option, Result, ◌==◌}
use Rattle.texts.specs.Cuts.{parts}
use Rattle.scripting.specs.declared.Fault.{Fault}

-- ---- a text and its lines

-- the byte that parts lines
abbrev pub newline : ℕ → Bool
newline b = b == 10

-- the byte that begins a comment
abbrev pub hash : ℕ → Bool
hash b = b == 35

-- what stands before the first byte that passes t
abbrev pub before : (ℕ → Bool) → List ℕ → List ℕ
before t [] = []
before t (b ∷ bs) = cond (t b) [] (b ∷ before t bs)

-- the lines of a text
abbrev pub lines_in : List ℕ → List (List ℕ)
lines_in bs = parts newline bs

-- the part of a line that is no comment
abbrev pub uncommented : List ℕ → List ℕ
uncommented bs = before hash bs

-- ---- what a script says

-- each statement with the number of its line, and the first line that can't be read
pub record Outcome (X C : Type 0) : Type 0 where
  pub said : List (ℕ × X)
  pub stop : Option (Fault C)

-- whether there is a statement
abbrev pub some_of : {X : Type 0} → List (ℕ × X) → Bool
some_of [] = false
some_of (s ∷ ss) = true

-- what lines come to that are numbered from n, where said was said before them and sense is what a line's code says
abbrev pub outcome : {X C : Type 0} → (Bool → List ℕ → Result (Option X) C) → List (ℕ × X) → ℕ → List (List ℕ) → Outcome X C
outcome sense said n [] = record { said = said; stop = None }
outcome sense said n (l ∷ ls) =
    elim (sense (some_of said) (uncommented l)) [
      | Ok o ↦ elim o [ None ↦ outcome sense said (n + 1) ls | Some s ↦ outcome sense (said ++ (n, s) ∷ []) (n + 1) ls ]
      | Err c ↦ record { said = said; stop = Some (record { line = n; cause = c }) }
    ]

-- what a text comes to
abbrev pub reads : {X C : Type 0} → (Bool → List ℕ → Result (Option X) C) → List ℕ → Outcome X C
reads sense bs = outcome sense [] 1 (lines_in bs)

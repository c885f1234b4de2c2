-- What holds of every script, above the rules that say how it is read. Assumes nothing.
use Rattle.std.specs.Prelude.{◌≡◌, ℕ, ◌+◌, Bool, ◌⊎◌, List, [], ◌∷◌, ◌++◌, length, Some, None, Ok, Err, Option, Result, IsErr, MatchOption, ◌≢◌}
use Rattle.std.specs.Str.Iter.{LacksByte}
use Rattle.std.specs.List.{AllByRecursion}
use Rattle.scripting.specs.declared.Fault.{Fault}
use Rattle.scripting.specs.Rules.{uncommented, Outcome, some_of, reads}

-- a line says what it says by itself, or can't be read where it stands
abbrev pub AsAlone : {Y C : Type 0} → Result Y C → Result Y C → Type 0
AsAlone alone here = (alone ≡ here) ⊎ IsErr here

-- ---- a script says what its lines say, each read by itself, up to the first that can't be read

-- the statement of a line, with its number
abbrev pub heard : {X C : Type 0} → ℕ → Result (Option X) C → List (ℕ × X)
heard n (Ok None) = []
heard n (Ok (Some s)) = (n, s) ∷ []
heard n (Err c) = []

-- the statements of the lines that can be read, the first of which has the number n
abbrev pub statements_of : {X C : Type 0} → (List ℕ → Result (Option X) C) → ℕ → List (List ℕ) → List (ℕ × X)
statements_of alone n [] = []
statements_of alone n (l ∷ ls) = heard n (alone (uncommented l)) ++ statements_of alone (n + 1) ls

-- the line can be read by itself
abbrev pub Readable : {X C : Type 0} → (List ℕ → Result (Option X) C) → List ℕ → Type 0
Readable {C = C} alone l = (c : C) → alone (uncommented l) ≢ Err c

-- the fault stands at the first line that is not read, and the statements are those before it
pub record FirstFault {X C : Type 0} (alone : List ℕ → Result (Option X) C) (sense : Bool → List ℕ → Result (Option X) C) (ls : List (List ℕ)) (said : List (ℕ × X)) (f : Fault C) : Type 0 where
  pub before : List (List ℕ)
  pub here : List ℕ
  pub after : List (List ℕ)
  pub split : ls ≡ before ++ here ∷ after
  pub number : f.line ≡ 1 + length before
  pub readable : AllByRecursion (Readable alone) before
  pub cause : sense (some_of said) (uncommented here) ≡ Err f.cause
  pub spoken : said ≡ statements_of alone 1 before

-- what a script comes to, line by line
abbrev pub LineByLine : {X C : Type 0} → (List ℕ → Result (Option X) C) → (Bool → List ℕ → Result (Option X) C) → List (List ℕ) → Outcome X C → Type 0
LineByLine alone sense ls o = MatchOption o.stop (AllByRecursion (Readable alone) ls × (o.said ≡ statements_of alone 1 ls)) (FirstFault alone sense ls o.said)

-- ---- a comment says nothing: the script without it comes to the same

-- a line ends where this begins
abbrev pub AfterLine : List ℕ → Type 0
AfterLine [] = Unit {0}
AfterLine (b ∷ bs) = b ≡ 10

-- a comment, up to the end of its line, can be left out
abbrev pub CommentsAside : {X C : Type 0} → (Bool → List ℕ → Result (Option X) C) → List ℕ → Outcome X C → Type 0
CommentsAside sense text o = (front comment back : List ℕ) → text ≡ front ++ (35 ∷ (comment ++ back)) → LacksByte 10 comment → AfterLine back → o ≡ reads sense (front ++ back)

-- What is judged, in words of its own: without the passes over the lines. Assumes nothing.
use Rattle.std.specs.Prelude.{◌≡◌, ℕ, ◌<◌, true, List, [], length, Ok, Err, ◌≢◌, slice_index_or}
use mathlib.Core.List.{Memᴰ}
use Rattle.narrow.specs.Rows.{any}
use Rattle.narrow.specs.Term.{Bytes}
use Rattle.narrow.specs.Ticket.{Yes}
use Rattle.narrow.specs.Policy.{Limit, Else, Meaning, all_met, serves, today}
use Rattle.judging.specs.declared.Failing.TheVariants.{LimitFails, NoYes, NoneHolds}
use Rattle.judging.specs.Judged.{Judgement, judged}

-- all that a yes says are limits that hold
abbrev pub Holds : Meaning → Yes → Type 0
Holds v y = (m : Bytes) → Memᴰ m y.lines → v m ≡ Limit true

-- the line is no limit that holds, and no else
abbrev pub BadLimit : Meaning → Bytes → Type 0
BadLimit v l = (v l ≢ Limit true) × ((k : ℕ) → v l ≢ Else k)

-- the line is an else for which there is no yes
abbrev pub Lacking : Meaning → List Yes → Bytes → Type 0
Lacking v ys l = (k : ℕ) × (v l ≡ Else k) × ((y : Yes) → Memᴰ y ys → y.key ≢ k)

-- the line is an else for which no yes holds
abbrev pub Unheld : Meaning → List Yes → Bytes → Type 0
Unheld v ys l = (k : ℕ) × (v l ≡ Else k) × ((y : Yes) → Memᴰ y ys → y.key ≡ k → Holds v y → ⊥)

-- it is so at a place, and at none before it
pub record Least (P : Bytes → Type 0) (ls : List Bytes) (i : ℕ) : Type 0 where
  pub within : i < length ls
  pub here : P (slice_index_or ls i [])
  pub before : (j : ℕ) → j < i → P (slice_index_or ls j []) → ⊥

-- it is so at no place
abbrev pub Nowhere : (Bytes → Type 0) → List Bytes → Type 0
Nowhere P ls = (i : ℕ) → i < length ls → P (slice_index_or ls i []) → ⊥

-- the cause of each judgement: the least place at which it holds, where no cause that is told before it holds anywhere
abbrev pub Cause : Meaning → List Bytes → List Yes → Judgement → Type 0
Cause v ls ys (Ok _) = Nowhere (BadLimit v) ls × Nowhere (Lacking v ys) ls × Nowhere (Unheld v ys) ls
Cause v ls ys (Err (LimitFails i)) = Least (BadLimit v) ls i
Cause v ls ys (Err (NoYes i)) = Nowhere (BadLimit v) ls × Least (Lacking v ys) ls i
Cause v ls ys (Err (NoneHolds i)) = Nowhere (BadLimit v) ls × Nowhere (Lacking v ys) ls × Least (Unheld v ys) ls i

-- A judgement is told exactly if its cause holds; and a wish is let through exactly if all lines are met, as the model says.
pub record Judges (v : Meaning) (ls : List Bytes) (ys : List Yes) : Type 0 where
  pub told : (j : Judgement) → judged v ls ys ≡ j → Cause v ls ys j
  pub exactly : (j : Judgement) → Cause v ls ys j → judged v ls ys ≡ j
  pub met : judged v ls ys ≡ Ok tt → all_met v (λ k. any (serves (today v) k) ys) ls ≡ true
  pub each_met : all_met v (λ k. any (serves (today v) k) ys) ls ≡ true → judged v ls ys ≡ Ok tt

abbrev pub JudgedRight : Type 0
JudgedRight = (v : Meaning) (ls : List Bytes) (ys : List Yes) → Judges v ls ys

-- What a function answers that may refuse, by what is due. Assumes nothing.
use Rattle.std.specs.Prelude.{◌≡◌, ℕ, ◌<◌, ◌++◌, length, Ok, Err, Option, Result, MatchOption, MatchResult}
use Rattle.narrow.specs.Term.{Bytes}
use Rattle.lines.specs.declared.Fault.{Fault}

-- what was read at the front, as a reading of its view and of what follows has it; or that reading's fault
abbrev pub ReadAs : {A B : Type 0} → (Bytes → Result (B × Bytes) Fault) → (A → B) → Bytes → Result A Fault → Bytes → Type 0
ReadAs read view before result after = MatchResult result (λ x. read before ≡ Ok (view x, after)) (λ f. read before ≡ Err f)

-- a change as it is due; or the fault that is due, and then nothing is changed
abbrev pub ChangedAs : {A B U : Type 0} → (A → B) → Result B Fault → A → Result U Fault → A → Type 0
ChangedAs view due before result after = MatchResult result (λ _. due ≡ Ok (view after)) (λ f. (due ≡ Err f) × (after ≡ before))

-- so many bytes are taken from the front: there are too few, and none is, or those of what is taken stand before what follows
abbrev pub TakesFront : {T : Type 0} → ℕ → (T → Bytes) → Bytes → Option T → Bytes → Type 0
TakesFront size bytes_of before result after = MatchOption result ((length before < size) × (after ≡ before)) (λ x. before ≡ bytes_of x ++ after)

-- Bytes as a whole, those that are left over, and those that are put behind others. Assumes nothing.
use Rattle.std.specs.Prelude.{◌≡◌, [], ◌++◌, Ok, Result, IfOk, ◌≢◌}
use Rattle.narrow.specs.Term.{Bytes}
use Rattle.lines.specs.declared.Fault.{Fault}
use Rattle.lines.specs.declared.Fault.TheVariants.{Shape}
use Rattle.codec.specs.Format.{Format}

-- these bytes are read as this, and those follow
abbrev pub Reads : {A B : Type 0} → Format B → (A → B) → Bytes → A → Bytes → Type 0
Reads f view bs x rest = f.read bs ≡ Ok (view x, rest)

-- something was read at the front, and bytes follow: that is told as fault 1
abbrev pub LeftOver : {A : Type 0} → (Bytes → A → Bytes → Type 0) → Bytes → Fault → Type 0
LeftOver {A} reads bs f = (x : A) × (rest : Bytes) × reads bs x rest × (rest ≢ []) × (f ≡ Shape)

-- these bytes are put behind what was there, if there is memory for them
abbrev pub Appends : {U E : Type 0} → Bytes → Bytes → Result U E → Bytes → Type 0
Appends added before result after = IfOk result (λ _. after ≡ before ++ added)

-- What was read, where memory may be wanting. Assumes nothing.
use Rattle.std.specs.Prelude.{◌≡◌, Ok, Err, Result}
use Rattle.trouble.specs.declared.Trouble.{Trouble}
use Rattle.trouble.specs.declared.Trouble.TheVariants.{Unreadable, NoMemory}

-- what was read is what s says, if there was memory
abbrev pub Told : {X Y C : Type 0} → (X → Y) → Result X (Trouble C) → Result Y C → Type 0
Told view (Ok x) s = Ok (view x) ≡ s
Told view (Err (Unreadable c)) s = Err c ≡ s
Told view (Err NoMemory) s = Unit {0}

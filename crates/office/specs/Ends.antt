-- What the program is asked for, and how it ends. Assumes nothing.
use Rattle.std.specs.Prelude.{ℕ, cond, List, [], ◌∷◌, Some, None, Ok, Err, codes, Option, Result}
use Rattle.std.specs.Str.{bytes_eq}
use Rattle.scripting.specs.declared.Fault.{Fault}
use Rattle.script.specs.declared.Cause.{Cause}
use Rattle.office.specs.declared.arguments.Asked.{Asked}
use Rattle.office.specs.declared.arguments.Asked.TheVariants.{Play, Help}
use Rattle.office.specs.declared.reasons.Reason.{Reason}
use Rattle.office.specs.declared.reasons.Reason.TheVariants.{Argument, Script}

-- with no argument a script is played
abbrev pub asked_by : List (List ℕ) → Result Asked Reason
asked_by [] = Ok Play
asked_by (w ∷ []) = cond (bytes_eq w (codes "--help")) (Ok Help) (Err Argument)
asked_by (w ∷ v ∷ ws) = Err Argument

-- a script ends well unless it has a fault
abbrev pub end_of : Option (Fault Cause) → Result (Unit {0}) Reason
end_of None = Ok tt
end_of (Some f) = Err (Script f)

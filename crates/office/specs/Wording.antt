-- What people are told where the program ends with status 1, in bytes. Assumes nothing.
use Rattle.std.specs.Prelude.{ℕ, List, ◌++◌, codes, decimal}
use Rattle.script.specs.Wording.{worded}
use Rattle.office.specs.declared.reasons.Reason.{Reason}
use Rattle.office.specs.declared.reasons.Reason.TheVariants.{Argument, Input, NotText, Output, NoMemory, Script}

-- a reason in plain words
abbrev pub reason_worded : Reason → List ℕ
reason_worded Argument = codes "office takes no argument but --help"
reason_worded Input = codes "standard input can't be read"
reason_worded NotText = codes "standard input is not UTF-8 text"
reason_worded Output = codes "standard output can't be written"
reason_worded NoMemory = codes "no memory"
reason_worded (Script f) = decimal f.line ++ (codes ": " ++ worded f.cause)

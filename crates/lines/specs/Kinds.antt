-- The kinds of lines in the code, by their numbers. Assumes nothing.
use Rattle.std.specs.Prelude.{◌≡◌, ◌≢◌, ℕ, Result, MatchResult}
use Rattle.lines.specs.declared.Fault.{Fault}
use Rattle.lines.specs.declared.Fault.TheVariants.{Shape}
use Rattle.lines.specs.declared.kinds.Kind.{Kind}
use Rattle.lines.specs.declared.kinds.Kind.TheVariants as kind
use Rattle.lines.specs.Format.{museums_kind, days_kind, minutes_kind, persons_kind, name_kind, else_kind}

abbrev pub kind_number : Kind → ℕ
kind_number kind.Museums = museums_kind
kind_number kind.Days = days_kind
kind_number kind.Minutes = minutes_kind
kind_number kind.Persons = persons_kind
kind_number kind.Name = name_kind
kind_number kind.Else = else_kind

-- the kind with this number, or there is none
abbrev pub KindRead : ℕ → Result Kind Fault → Type 0
KindRead n r = MatchResult r (λ k. n ≡ kind_number k) (λ f. (f ≡ Shape) × ((k : Kind) → n ≢ kind_number k))

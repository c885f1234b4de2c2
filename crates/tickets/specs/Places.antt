-- Whether a row of lines is that of a ticket or that of a yes, as a test. Assumes nothing.
use Rattle.std.specs.Prelude.{Bool, true, false}
use Rattle.lines.specs.declared.Place.{Place}
use Rattle.lines.specs.declared.Place.TheVariants.{Ticket, Yes}

-- whether the two are one place
abbrev pub is_at : Place → Place → Bool
is_at Ticket Ticket = true
is_at Ticket Yes = false
is_at Yes Ticket = false
is_at Yes Yes = true

abbrev pub on_ticket : Place → Bool
on_ticket = is_at Ticket

abbrev pub on_yes : Place → Bool
on_yes = is_at Yes

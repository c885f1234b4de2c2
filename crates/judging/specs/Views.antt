-- Yeses as the model speaks of them. Assumes nothing.
use Rattle.std.specs.Prelude.{List, map}
use Rattle.narrow.specs.Ticket.{Yes}
use Rattle.tickets.specs.declared.TiedYes.{TiedYes}
use Rattle.tickets.specs.Views.{yes_body}

abbrev pub bodies : List TiedYes → List Yes
bodies ys = map (λ y. yes_body y.body) ys

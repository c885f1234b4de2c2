-- What the code's values stand for. Assumes nothing.
use Rattle.std.specs.Prelude.{map, vec_items}
use Rattle.wishes.specs.Views.{wish_view}
use Rattle.tickets.specs.Views.{ticket_view, tied_view}
use Rattle.showing.specs.declared.shown.Shown.{Shown}
use Rattle.showing.specs.Showing.{ShownView}

abbrev pub shown_view : Shown → ShownView
shown_view s = record { asked = wish_view s.wish; ticket = ticket_view s.ticket; yeses = map tied_view (vec_items s.yeses) }

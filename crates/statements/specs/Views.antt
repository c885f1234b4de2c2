-- The code's values as the forms speak of them: a text is its bytes. Assumes nothing.
use Rattle.std.specs.Prelude.{ℕ, List, map, vec_items, string_bytes, Vec, String}
use Rattle.std.specs.declared.alloc.Global.{Global}
use Rattle.lines.specs.declared.Line.{Line}
use Rattle.parts.specs.Limits.{LineView, WishView}
use Rattle.lines.specs.Views.{line_view}
use Rattle.statements.specs.declared.Gift.{Gift}
use Rattle.statements.specs.declared.Gift.TheVariants as gift
use Rattle.statements.specs.declared.asked.Asked.{Asked}
use Rattle.statements.specs.declared.Statement.{Statement}
use Rattle.statements.specs.declared.Statement.TheVariants.{House, Key, Ticket, Yes, Add, Tie, Give, Wish, Show}
use Rattle.statements.specs.Said.{Gifted, a_thing, a_key, Said, house_of, key_to, ticket_to, yes_by, add_by, tie_by, given, wish_of, shown}

-- lines as they are
abbrev pub lines_view : Vec Line Global → List LineView
lines_view v = map line_view (vec_items v)

-- names by their bytes
abbrev pub names_view : Vec (String Global) Global → List (List ℕ)
names_view v = map string_bytes (vec_items v)

-- a wish as it is
abbrev pub asked_view : Asked → WishView
asked_view a = record { museum = a.museum; day = a.day; minute = a.minute; persons = a.persons; name = vec_items a.name }

-- what is given
abbrev pub gifted : Gift → Gifted
gifted (gift.Thing name) = a_thing (string_bytes name)
gifted (gift.Key k) = a_key k.number

-- what a statement says
abbrev pub stated : Statement → Said
stated (House seed) = house_of (string_bytes seed)
stated (Key key person) = key_to key.number (string_bytes person)
stated (Ticket name number lines person) = ticket_to (string_bytes name) number (lines_view lines) (string_bytes person)
stated (Yes name key limits person) = yes_by (string_bytes name) key.number (lines_view limits) (string_bytes person)
stated (Add name old lines person) = add_by (string_bytes name) (string_bytes old) (lines_view lines) (string_bytes person)
stated (Tie name y ticket person) = tie_by (string_bytes name) (string_bytes y) (string_bytes ticket) (string_bytes person)
stated (Give what from to) = given (gifted what) (string_bytes from) (string_bytes to)
stated (Wish person wish) = wish_of (string_bytes person) (asked_view wish)
stated (Show person ticket tied wish) = shown (string_bytes person) (string_bytes ticket) (names_view tied) (asked_view wish)

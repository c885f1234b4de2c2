-- Which lines may stand on a ticket and on a yes, and how many. Assumes nothing.
use Rattle.std.specs.Prelude.{ℕ, Bool, false, cond, List, [], ◌∷◌, ◌++◌, length, Ok, Err, Result, nat_lt}
use Rattle.narrow.specs.Policy.{most_lines}
use Rattle.narrow.specs.Term.{Bytes}
use Rattle.lines.specs.declared.Fault.{Fault}
use Rattle.lines.specs.declared.Fault.TheVariants.{Unreadable, TooMany}
use Rattle.lines.specs.declared.Place.{Place}
use Rattle.lines.specs.declared.Place.TheVariants.{Ticket, Yes}
use Rattle.parts.specs.Limits.{LineView}
use Rattle.lines.specs.Meaning.{may_stand}
use Rattle.lines.specs.Reading.{line_of}

-- how many limits a yes has at the most
abbrev pub most_limits : ℕ
most_limits = 16

abbrev pub most_at : Place → ℕ
most_at Ticket = most_lines
most_at Yes = most_limits

abbrev pub stands_if : Place → Result LineView Fault → Bool
stands_if p (Ok v) = may_stand p v
stands_if p (Err f) = false

-- the bytes are a line that may stand there
unfoldable pub stands : Place → Bytes → Bool
stands p l = stands_if p (line_of l)

-- the row with one line more, or why it can't be: the line is read first, then held to its place, then to the room
abbrev pub pushed_if : Place → List Bytes → Bytes → Result LineView Fault → Result (List Bytes) Fault
pushed_if p ls l (Ok v) = cond (may_stand p v) (cond (nat_lt (length ls) (most_at p)) (Ok (ls ++ l ∷ [])) (Err TooMany)) (Err Unreadable)
pushed_if p ls l (Err f) = Err f

unfoldable pub pushed : Place → List Bytes → Bytes → Result (List Bytes) Fault
pushed p ls l = pushed_if p ls l (line_of l)

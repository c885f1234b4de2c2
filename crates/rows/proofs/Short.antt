-- How much room lines take. Assumes nothing.
use Rattle.std.proofs.Common.{◌≡◌, ◌*◌, ◌≤◌, true, leb, List, [], ◌∷◌, length, get_or, Ok, Err, Result, refl, ap, arith, length-append}
use Rattle.std.proofs.lemmas.Bool.{and_parts, leb-true}
use Rattle.narrow.specs.Rows.{all}
use Rattle.narrow.specs.Term.{Bytes}
use Rattle.narrow.proofs.Rows.{contradiction}
use Rattle.lines.specs.declared.Fault.{Fault}
use Rattle.lines.specs.declared.Place.{Place}
use Rattle.lines.specs.declared.Place.TheVariants.{Ticket, Yes}
use Rattle.parts.specs.Limits.{MuseumIn, DayIn, MinuteIn, PersonsUpTo, NameIs, LineView, ALimit, AnElse, is_line, within, most_museums, longest_name, is_museum, is_letter}
use Rattle.lines.specs.Format.{line_bytes}
use Rattle.lines.specs.Reading.{line_of}
use Rattle.lines.proofs.Decoding.{line_read_only}
use Rattle.rows.specs.declared.row.Lines.{Lines}
use Rattle.rows.specs.Standing.{most_at, stands_if, stands}
use Rattle.rows.specs.Row.{rows}
use Rattle.rows.specs.Wire.{wire}
use Rattle.rows.proofs.Held.{row_count, row_used}

-- a line that can be has at most 34 bytes
line_short : (v : LineView) → is_line v ≡ true → length (line_bytes v) ≤ 34
line_short (ALimit (MuseumIn ms)) e = omega (arith, leb-true (length ms) most_museums (and_parts (leb 1 (length ms)) (leb (length ms) most_museums) (and_parts (within 1 most_museums (length ms)) (all is_museum ms) e).0).1)
line_short (ALimit (DayIn a b)) e = omega arith
line_short (ALimit (MinuteIn a b)) e = omega arith
line_short (ALimit (PersonsUpTo n)) e = omega arith
line_short (ALimit (NameIs ls)) e = omega (arith, leb-true (length ls) longest_name (and_parts (leb (length ls) longest_name) (all is_letter ls) e).0)
line_short (AnElse k) e = omega arith

pub stands_short : (p : Place) (l : Bytes) → stands p l ≡ true → length l ≤ 34
unfolding stands
stands_short p l = read (line_of l) refl
  where
    read : (r : Result LineView Fault) → line_of l ≡ r → stands_if p r ≡ true → length l ≤ 34
    read (Ok v) e h = let (can, same) = line_read_only l v e in omega (arith, line_short v can, ap length same)
    read (Err f) e h = contradiction (cc)

pub wire_short : (p : Place) (ls : List Bytes) → all (stands p) ls ≡ true → length (wire ls) ≤ 35 * length ls
unfolding wire all
wire_short p [] e = omega arith
wire_short p (l ∷ ls) e =
    let (here, below) = and_parts (stands p l) (all (stands p) ls) e in
    omega (arith, stands_short p l here, wire_short p ls below, length-append l (wire ls))

-- the room that a row takes
pub row_short : (r : Lines) → get_or r.marks r.count 0 ≤ 35 * r.count
unfolding rows
row_short r = omega (arith, row_used r, wire_short r.place (rows r) r.legible, row_count r)

-- there are at most as many lines as there is room for marks
pub most_few : (p : Place) → most_at p ≤ 32
most_few Ticket = omega arith
most_few Yes = omega arith

pub row_few : (r : Lines) → r.count ≤ 32
row_few r = omega (arith, r.few, most_few r.place)

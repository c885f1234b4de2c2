-- What tickets and yeses say, through a change of their rows of lines. Assumes nothing.
use Rattle.std.proofs.Common.{◌≡◌, ◌≤◌, true, List, length, Ok, Err, Result, sym, refl, ap, ◌∙◌, arith}
use mathlib.Core.HLevel.{is_prop→PathP}
use mathlib.Core.Path.{PathP}
use denote.Struct.Props.{props}
use Rattle.std.specs.Result.{result_map_both}
use Rattle.std.proofs.lemmas.List.{length_push}
use Rattle.narrow.specs.Term.{Bytes}
use Rattle.narrow.proofs.Rows.{contradiction}
use Rattle.hmac.specs.Hmac.{hmac_of}
use Rattle.lines.specs.declared.Fault.{Fault}
use Rattle.lines.specs.declared.Place.{Place}
use Rattle.lines.specs.declared.Place.TheVariants as place
use Rattle.rows.specs.declared.row.Lines.{Lines}
use Rattle.rows.specs.Due.{ChangedAs}
use Rattle.rows.specs.Row.{rows}
use Rattle.rows.specs.Standing.{pushed}
use Rattle.rows.proofs.Held.{row_count}
use Rattle.rows.proofs.Pushing.{push_parts}
use Rattle.tickets.specs.declared.bodies.TicketBody.{TicketBody}
use Rattle.tickets.specs.declared.bodies.YesBody.{YesBody}
use Rattle.tickets.specs.Places.{is_at, on_ticket, on_yes}
use Rattle.tickets.specs.Making.{Maced, added}

pub one_place : (q p : Place) → is_at q p ≡ true → p ≡ q
one_place place.Ticket place.Ticket e = refl
one_place place.Ticket place.Yes e = contradiction (cc)
one_place place.Yes place.Ticket e = contradiction (cc)
one_place place.Yes place.Yes e = refl

-- a row that was made longer has a line
pub some_line : (p : Place) (ls : List Bytes) (l : Bytes) (r : Lines) → pushed p ls l ≡ Ok (rows r) → 1 ≤ r.count
some_line p ls l r e = omega (arith, row_count r, ap length (push_parts p ls l (rows r) e).0, length_push ls l)

-- rows that are one stand at a place in one way
still_there : (q : Place) (r s : Lines) (e : r ≡ s) (x : is_at q r.place ≡ true) (y : is_at q s.place ≡ true) → PathP (λ i. is_at q (e i).place ≡ true) x y
still_there q r s e x y =
    let one : (t : Lines) → IsProp (is_at q t.place ≡ true) = λ t. hlevel props in
    is_prop→PathP (λ j. is_at q (e j).place ≡ true) (λ j. one (e j)) x y

-- with a row that is as it was, the whole is as it was
pub ticket_back : (b : TicketBody) (ls : Lines) (x : on_ticket ls.place ≡ true) (y : 1 ≤ ls.count) → ls ≡ b.lines →
    record { number = b.number; lines = ls; stands = x; some = y } ≡ b
ticket_back b ls x y e =
    let two : (r : Lines) → IsProp (1 ≤ r.count) = λ r. hlevel props in
    λ i. record {
      number = b.number;
      lines = e i;
      stands = still_there place.Ticket ls b.lines e x b.stands i;
      some = is_prop→PathP (λ j. 1 ≤ (e j).count) (λ j. two (e j)) y b.some i;
    }

pub yes_back : (b : YesBody) (ls : Lines) (x : on_yes ls.place ≡ true) → ls ≡ b.limits → record { key = b.key; limits = ls; stands = x } ≡ b
yes_back b ls x e = λ i. record { key = b.key; limits = e i; stands = still_there place.Yes ls b.limits e x b.stands i }

-- what comes of making the whole longer, by what came of making its row longer
pub longer_at : {A : Type 0} (whole : List Bytes → A) (p q : Place) (ls : List Bytes) (l : Bytes) (r : Result (List Bytes) Fault) → p ≡ q → pushed p ls l ≡ r →
    result_map_both whole (λ f. f) (pushed q ls l) ≡ result_map_both whole (λ f. f) r
longer_at whole p q ls l r at e = ap (result_map_both whole (λ f. f)) (ap (λ o. pushed o ls l) (sym at) ∙ e)

-- the same with a MAC, by what came of making the body longer
module _ {A : Type 0} (longer : A → Bytes → Result A Fault) (t : Maced A) (l : Bytes) where
  pub added_on : (a : A) → longer t.of l ≡ Ok a → added longer t l ≡ Ok (record { of = a; mac = hmac_of t.mac l })
  unfolding added
  added_on a e = ap (result_map_both _ (λ f. f)) e

  pub added_stop : (f : Fault) → longer t.of l ≡ Err f → added longer t l ≡ Err f
  unfolding added
  added_stop f e = ap (result_map_both _ (λ g. g)) e

-- whatever came of making a row longer that had a line, it has one
pub still_some : {U : Type 0} (r : Result U Fault) (p : Place) (before after : Lines) (l : Bytes) → 1 ≤ before.count → ChangedAs rows (pushed p (rows before) l) before r after → 1 ≤ after.count
still_some (Ok u) p before after l h e = some_line p (rows before) l after e
still_some (Err f) p before after l h (q, e) = omega (arith, ap (λ (r : Lines). r.count) e)

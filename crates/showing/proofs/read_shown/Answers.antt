use Rattle.std.proofs.Common.{◌≡◌, true, false, Bool, [], ◌∷◌, map, length, Some, None, Ok, Err, vec_items, Option, Vec, sym, refl, ap, ◌∙◌}
use Rattle.std.specs.Prelude.{◌≢◌, MatchOption}
use Rattle.std.specs.Borrow.{Bor}
use Rattle.std.specs.declared.alloc.Global.{Global}
use Rattle.std.specs.Bool.{then_some}
use Rattle.std.specs.Option.{option_map}
use Rattle.std.proofs.lemmas.Bool.{eqb-true, eqb-false}
use Rattle.std.proofs.lemmas.Bool.Decides.{Decides-eqb}
use Rattle.std.proofs.lemmas.List.{nil_from_length}
use Rattle.std.proofs.lemmas.Option.{MatchOption-at_some}
use Rattle.std.proofs.lemmas.Slice.Eq.{strip_prefix_is}
use Rattle.narrow.specs.Term.{Bytes}
use Rattle.narrow.proofs.Rows.{contradiction, when_true_is}
use Rattle.parts.specs.Limits.{WishView, in_range}
use Rattle.trouble.proofs.Chains.{stops, hands_on}
use Rattle.rows.proofs.Rowings.{absent, wanting}
use Rattle.tickets.specs.declared.TiedYes.{TiedYes}
use Rattle.tickets.specs.Views.{ticket_view, tied_view}
use Rattle.codec.specs.Things.{ticket}
use Rattle.wishes.specs.Reading.{wish_of}
use Rattle.wishes.specs.Views.{raw_view, wish_view, wish_read}
use Rattle.wishes.specs.declared.wish.RawWish.{RawWish}
use Rattle.showing.specs.Showing.{shown_kind}
use Rattle.showing.specs.Views.{shown_view}
use Rattle.showing.proofs.Shows.{not_read, more_left, out_of_range, all_read, other_kind, no_wish, no_ticket, no_yeses, parts_read}
use Rattle.showing.proofs.read_shown.Goals as goal

not_in_range : (w v : WishView) → None ≡ then_some (in_range w) v → in_range w ≡ false
not_in_range w v = by (in_range w)
  where
    by : (b : Bool) → None ≡ then_some b v → b ≡ false
    by true e = contradiction (cc)
    by false e = refl

-- what was read up to the ticket: the kind, the wish, and where the ticket is read
front_read : (bs at : Bytes) (r : Option (Bor Bytes)) (rest : Bor Bytes) (o : Option (RawWish × Bor Bytes)) (w : RawWish) (left : Bor Bytes) → r ≡ Some rest →
    MatchOption r ((t : Bytes) → bs ≢ shown_kind ∷ t) (λ x. bs ≡ shown_kind ∷ x.now) → wish_read o ≡ wish_of rest.now → o ≡ Some (w, left) → at ≡ left.now →
    (bs ≡ shown_kind ∷ rest.now) × (wish_of rest.now ≡ Some (raw_view w, left.now)) × (ticket.read left.now ≡ ticket.read at)
front_read bs at r rest o w left there kind wish some same = (MatchOption-at_some _ _ _ there kind, sym wish ∙ ap wish_read some, ap ticket.read (sym same))

pub returns-in_err-rest : goal.returns-in_err-rest
returns-in_err-rest c =
    let (other, same) = wanting _ _ _ _ _ c.in_err-rest.ensures.value (strip_prefix_is Decides-eqb c.args.bytes.now (shown_kind ∷ []) _ c.strip_prefix.ensures.cases) in
    stops shown_view c.from_residual.result c.from_residual.ensures.1 (sym (not_read c.args.bytes.now _ (other_kind c.args.bytes.now other) ∙ ap Err same))

pub returns-in_err-raw : goal.returns-in_err-raw
returns-in_err-raw c =
    let kind = MatchOption-at_some _ _ _ c.in_ok-rest.ensures.ok_part (strip_prefix_is Decides-eqb c.args.bytes.now (shown_kind ∷ []) _ c.strip_prefix.ensures.cases) in
    let (none, same) = absent _ _ _ c.in_err-raw.ensures.value in
    stops shown_view c.from_residual-in_err-raw.result c.from_residual-in_err-raw.ensures.1 (sym (not_read c.args.bytes.now _ (no_wish c.args.bytes.now _ kind (sym c.read_wish.ensures ∙ ap wish_read none)) ∙ ap Err same))

pub returns-in_err-ticket : goal.returns-in_err-ticket
returns-in_err-ticket c =
    let (kind, asked, at) = front_read _ _ _ _ _ _ _ c.in_ok-rest.ensures.ok_part (strip_prefix_is Decides-eqb c.args.bytes.now (shown_kind ∷ []) _ c.strip_prefix.ensures.cases) c.read_wish.ensures c.in_ok-raw.ensures.ok_part c.new-reader.ensures in
    stops shown_view c.from_residual-in_err-ticket.result c.from_residual-in_err-ticket.ensures.1 (sym (not_read c.args.bytes.now _ (no_ticket c.args.bytes.now _ kind _ _ asked _ (at ∙ c.in_err-ticket.ensures))))

pub returns-in_err-yeses : goal.returns-in_err-yeses
returns-in_err-yeses c =
    let (kind, asked, at) = front_read _ _ _ _ _ _ _ c.in_ok-rest.ensures.ok_part (strip_prefix_is Decides-eqb c.args.bytes.now (shown_kind ∷ []) _ c.strip_prefix.ensures.cases) c.read_wish.ensures c.in_ok-raw.ensures.ok_part c.new-reader.ensures in
    hands_on shown_view c.from_residual-in_err-yeses.result (λ (v : Vec TiedYes Global). (map tied_view (vec_items v), c.read_yeses.new.reader.rest.now)) _ _
    c.from_residual-in_err-yeses.ensures.1 c.in_err-yeses.ensures.read
    (λ f e. sym (not_read c.args.bytes.now f (no_yeses c.args.bytes.now _ kind _ _ asked _ _ (at ∙ c.in_ok-ticket.ensures) f (sym e))))

pub returns-then-not-is_empty : goal.returns-then-not-is_empty
returns-then-not-is_empty c =
    let (kind, asked, at) = front_read _ _ _ _ _ _ _ c.in_ok-rest.ensures.ok_part (strip_prefix_is Decides-eqb c.args.bytes.now (shown_kind ∷ []) _ c.strip_prefix.ensures.cases) c.read_wish.ensures c.in_ok-raw.ensures.ok_part c.new-reader.ensures in
    rw c.into.ensures
    (sym (more_left c.args.bytes.now _ _ (parts_read c.args.bytes.now _ kind _ _ asked _ _ (at ∙ c.in_ok-ticket.ensures) _ _ (sym c.in_ok-yeses.ensures.read))
    (λ e. eqb-false _ _ (sym c.if-not-is_empty.ensures) (ap length e))))

pub returns-in_err-wish : goal.returns-in_err-wish
returns-in_err-wish c =
    let (kind, asked, at) = front_read _ _ _ _ _ _ _ c.in_ok-rest.ensures.ok_part (strip_prefix_is Decides-eqb c.args.bytes.now (shown_kind ∷ []) _ c.strip_prefix.ensures.cases) c.read_wish.ensures c.in_ok-raw.ensures.ok_part c.new-reader.ensures in
    let (out, same) = absent _ _ _ c.in_err-wish.ensures.value in
    stops shown_view c.from_residual-in_err-wish.result c.from_residual-in_err-wish.ensures.1 (sym (out_of_range c.args.bytes.now _ _ (parts_read c.args.bytes.now _ kind _ _ asked _ _ (at ∙ c.in_ok-ticket.ensures) _ _ (sym c.in_ok-yeses.ensures.read))
    (nil_from_length _ (eqb-true _ _ (sym c.if-not-is_empty.ensures))) (not_in_range (raw_view c.in_ok-raw.raw) _ (sym (ap (option_map wish_view) out) ∙ c.in_range.ensures)) ∙ ap Err same))

pub returns : goal.returns
returns c =
    let (kind, asked, at) = front_read _ _ _ _ _ _ _ c.in_ok-rest.ensures.ok_part (strip_prefix_is Decides-eqb c.args.bytes.now (shown_kind ∷ []) _ c.strip_prefix.ensures.cases) c.read_wish.ensures c.in_ok-raw.ensures.ok_part c.new-reader.ensures in
    let ranged = sym c.in_range.ensures ∙ ap (option_map wish_view) c.in_ok-wish.ensures.ok_part in
    let (good, same) = when_true_is (in_range (raw_view c.in_ok-raw.raw)) (raw_view c.in_ok-raw.raw) _ ranged in
    sym (all_read c.args.bytes.now _ _ (parts_read c.args.bytes.now _ kind _ _ asked _ _ (at ∙ c.in_ok-ticket.ensures) _ _ (sym c.in_ok-yeses.ensures.read))
    (nil_from_length _ (eqb-true _ _ (sym c.if-not-is_empty.ensures))) good ∙
    ap (λ (w : WishView). Ok (record { asked = w; ticket = ticket_view c.in_ok-ticket.ticket; yeses = map tied_view (vec_items c.in_ok-yeses.yeses) })) same)

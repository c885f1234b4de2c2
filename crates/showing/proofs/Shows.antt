-- What is shown is exact. Assumes nothing.
use Rattle.std.proofs.Common.{◌≡◌, true, false, ◌⊎◌, List, [], ◌∷◌, Some, None, Ok, Err, Option, Result, sym, refl, ap, ◌∙◌, inl, inr}
use Rattle.std.specs.Option.{ok_or}
use Rattle.std.proofs.lemmas.Bool.{cond-true, cond-false}
use Rattle.narrow.specs.Term.{Bytes}
use Rattle.narrow.specs.Policy.{most_yeses}
use Rattle.narrow.proofs.Rows.{contradiction}
use Rattle.parts.specs.Limits.{WishView, in_range}
use Rattle.wishes.specs.Reading.{wish_of}
use Rattle.lines.specs.declared.Fault.{Fault}
use Rattle.lines.specs.declared.Fault.TheVariants.{Shape, Range}
use Rattle.rows.proofs.Exactly.{next_value, next_on, next_stop, chosen}
use Rattle.codec.specs.Format.{wish, counted, whole}
use Rattle.codec.specs.Laws.{Exact}
use Rattle.codec.specs.Things.{ticket, tied}
use Rattle.codec.proofs.Combined.{wish_exact, behind_exact, both_exact, named_exact, counted_exact}
use Rattle.codec.proofs.EachKind.{ticket_exact, tied_exact}
use Rattle.codec.proofs.Steps.{behind_on, behind_other, named_on, named_stop, both_first, both_second, both_on}
use Rattle.codec.proofs.Wholly.{inverse, whole_stop, whole_over, whole_on}
use Rattle.tickets.specs.Making.{Ticket, Tied}
use Rattle.showing.specs.Showing.{ShownView, shown, shown_kind, ranged, shown_of}
use Rattle.showing.specs.Laws.{ShownExact}

format_exact : Exact shown
format_exact =
    behind_exact _
    (named_exact _ (both_exact _ _ wish_exact (both_exact ticket _ ticket_exact (counted_exact tied tied_exact most_yeses))) _ _ (λ a. refl) (λ b. refl)) shown_kind

in_range_lem : (s t : ShownView) → ranged s ≡ Ok t → (in_range s.asked ≡ true) × (s ≡ t)
in_range_lem s t e = by (chosen (in_range s.asked) (Ok s) (Err Range) (Ok t) e)
  where
    by : ((in_range s.asked ≡ true) × (◌≡◌ {A = Result ShownView Fault} (Ok s) (Ok t))) ⊎ ((in_range s.asked ≡ false) × (◌≡◌ {A = Result ShownView Fault} (Err Range) (Ok t))) → (in_range s.asked ≡ true) × (s ≡ t)
    by (inl (h, q)) = (h, cc)
    by (inr (h, q)) = contradiction (cc)

pub shown_exact : ShownExact
unfolding shown_of
shown_exact =
    let both_ways = inverse shown format_exact in
    record {
      format = (format_exact, both_ways);
      back = λ s fits h. next_on _ _ s (both_ways.back s fits) ∙ cond-true (in_range s.asked) _ _ h;
      only =
          λ bs s e.
          let (t, read, q) = next_value (whole shown bs) ranged s e in
          let (h, same) = in_range_lem t s q in
          let (fits, bytes) = both_ways.only bs t read in
          (ap shown.fits (sym same) ∙ fits, ap (λ (v : ShownView). in_range v.asked) (sym same) ∙ h, bytes ∙ ap shown.write same);
    }

-- what was written and is read is that, and its wish is in range
pub shown_same : (x v : ShownView) → shown.fits x ≡ true → shown_of (shown.write x) ≡ Ok v → (in_range x.asked ≡ true) × (x ≡ v)
unfolding shown_of
shown_same x v fits e = in_range_lem x v (sym (next_on _ ranged x ((inverse shown format_exact).back x fits)) ∙ e)

-- what is told, by what was read at the front
module _ (bs : Bytes) where
  pub not_read : (f : Fault) → shown.read bs ≡ Err f → shown_of bs ≡ Err f
  unfolding shown_of
  not_read f e = next_stop _ ranged f (whole_stop shown bs f e)

  module _ (s : ShownView) (rest : Bytes) (e : shown.read bs ≡ Ok (s, rest)) where
    pub more_left : (rest ≡ [] → ⊥) → shown_of bs ≡ Err Shape
    unfolding shown_of
    more_left ne = next_stop _ ranged Shape (whole_over shown bs s rest e ne)

    ended : rest ≡ [] → shown_of bs ≡ ranged s
    unfolding shown_of
    ended none = next_on _ ranged s (whole_on shown bs s rest e none)

    pub out_of_range : rest ≡ [] → in_range s.asked ≡ false → shown_of bs ≡ Err Range
    out_of_range none h = ended none ∙ cond-false (in_range s.asked) _ _ h

    pub all_read : rest ≡ [] → in_range s.asked ≡ true → shown_of bs ≡ Ok s
    all_read none h = ended none ∙ cond-true (in_range s.asked) _ _ h

-- what is read at the front, part by part
pub other_kind : (bs : Bytes) → ((rest : Bytes) → bs ≡ shown_kind ∷ rest → ⊥) → shown.read bs ≡ Err Shape
other_kind bs ne = behind_other _ shown_kind bs ne

module _ (bs r0 : Bytes) (kind : bs ≡ shown_kind ∷ r0) where
  pub no_wish : wish_of r0 ≡ None → shown.read bs ≡ Err Shape
  unfolding wish
  no_wish e = behind_on _ shown_kind bs r0 kind ∙ named_stop _ _ _ _ _ (both_first wish _ r0 Shape (ap (λ (o : Option (WishView × Bytes)). ok_or o Shape) e))

  module _ (w : WishView) (r1 : Bytes) (asked : wish_of r0 ≡ Some (w, r1)) where
    wished : wish.read r0 ≡ Ok (w, r1)
    unfolding wish
    wished = ap (λ (o : Option (WishView × Bytes)). ok_or o Shape) asked

    pub no_ticket : (f : Fault) → ticket.read r1 ≡ Err f → shown.read bs ≡ Err f
    no_ticket f e = behind_on _ shown_kind bs r0 kind ∙ named_stop _ _ _ _ _ (both_second wish _ r0 w r1 wished f (both_first ticket _ r1 f e))

    module _ (t : Ticket) (r2 : Bytes) (one : ticket.read r1 ≡ Ok (t, r2)) where
      pub no_yeses : (f : Fault) → (counted most_yeses tied).read r2 ≡ Err f → shown.read bs ≡ Err f
      no_yeses f e = behind_on _ shown_kind bs r0 kind ∙ named_stop _ _ _ _ _ (both_second wish _ r0 w r1 wished f (both_second ticket _ r1 t r2 one f e))

      pub parts_read : (ys : List Tied) (r3 : Bytes) → (counted most_yeses tied).read r2 ≡ Ok (ys, r3) → shown.read bs ≡ Ok (record { asked = w; ticket = t; yeses = ys }, r3)
      parts_read ys r3 e =
          behind_on _ shown_kind bs r0 kind ∙ named_on _ _ _ _ _ _ (both_on wish _ r0 w r1 wished (t, ys) r3 (both_on ticket _ r1 t r2 one ys r3 e))

-- What `can` says, by membership: which tickets are tried, and how an else is met. Assumes nothing.
use Rattle.std.proofs.Common.{◌≡◌, ℕ, Bool, true, false, eqb, ◌⊎◌, List, [], is_some, Some, None, Decides, filter, Option, sym, refl, ap, ◌∙◌, subst, inl, inr, ⊎_elim, append-nil}
use mathlib.Core.List.Memᴰ
use mathlib.Core.List.{Memᴰ}
use Rattle.std.specs.Option.{option_or}
use Rattle.std.specs.Bool.{then_some}
use Rattle.std.proofs.lemmas.Bool.{and_parts, and_from, both_ways}
use Rattle.std.proofs.lemmas.Bool.Decides.{Decides-eqb}
use Rattle.narrow.specs.Rows.{any, gather, same_row, begins_with}
use Rattle.narrow.specs.Term.{Bytes}
use Rattle.narrow.specs.Ticket.{Ticket, Yes, Extends, Shown, Thing, ATicket, AYes, ATied, AKey, bare}
use Rattle.narrow.specs.Policy.{Policy, Closed, all_met, serves}
use Rattle.narrow.specs.Can.{same_bytes, same_ticket, extends, the_ticket, tied_ticket, can_make_ticket, tried, by_key, by_free, by_tied, if_serves, first_by, yes_for, can_by, shown_by, shows, can}
use Rattle.narrow.proofs.Rows.{contradiction, any_in, any_from, or_other_cases, or_other_left, or_other_right, some_value, when_true_is, when_true_some, first_in, first_from, gather_in, gather_from, kept_in, kept_from, same_row_lem, begins_with_lem}
use Rattle.narrow.proofs.Lets.{all_met_more, all_met_front}

pub same_bytes_lem : (a b : Bytes) → Decides (same_bytes a b) (a ≡ b)
same_bytes_lem a b = same_row_lem eqb Decides-eqb a b

pub same_ticket_lem : (t s : Ticket) → Decides (same_ticket t s) (t ≡ s)
same_ticket_lem t s =
    let number = same_bytes_lem t.number s.number in
    let lines = same_row_lem same_bytes same_bytes_lem t.lines s.lines in (
      λ e.
          let both = and_parts (same_bytes t.number s.number) (same_row same_bytes t.lines s.lines) e in
          let n = number.0 both.0 in
          let l = lines.0 both.1 in
          λ i. record { number = n i; lines = l i },
      λ e.
          and_from (same_bytes t.number s.number) (same_row same_bytes t.lines s.lines)
          (number.1 (ap (λ (u : Ticket). u.number) e)) (lines.1 (ap (λ (u : Ticket). u.lines) e)),
    )

pub extends_is : (t s : Ticket) → Decides (extends t s) (Extends t s)
extends_is t s =
    let number = same_bytes_lem t.number s.number in
    let lines = begins_with_lem same_bytes same_bytes_lem t.lines s.lines in (
      λ e.
          let both = and_parts (same_bytes t.number s.number) (begins_with same_bytes t.lines s.lines) e in
          (number.0 both.0, lines.0 both.1),
      λ e. and_from (same_bytes t.number s.number) (begins_with same_bytes t.lines s.lines) (number.1 e.0) (lines.1 e.1),
    )

-- a yes that a given thing gives for showing with a ticket
pub data Way (t : Ticket) : Thing → Yes → Type 0 where
  via_key : (k : ℕ) → Way t (AKey k) (bare k)
  via_free : (y : Yes) → Way t (AYes y) y
  via_tie : (s : Ticket) (y : Yes) → s ≡ t → Way t (ATied s y) y

by_key_lem : (t : Ticket) (x : Thing) (y : Yes) → by_key x ≡ Some y → Way t x y
by_key_lem t (ATicket s) y e = contradiction (cc)
by_key_lem t (AYes z) y e = contradiction (cc)
by_key_lem t (ATied s z) y e = contradiction (cc)
by_key_lem t (AKey k) y e = let h : bare k ≡ y = cc in subst (Way t (AKey k)) h (via_key k)

by_free_lem : (t : Ticket) (x : Thing) (y : Yes) → by_free x ≡ Some y → Way t x y
by_free_lem t (ATicket s) y e = contradiction (cc)
by_free_lem t (AYes z) y e = let h : z ≡ y = cc in subst (Way t (AYes z)) h (via_free z)
by_free_lem t (ATied s z) y e = contradiction (cc)
by_free_lem t (AKey k) y e = contradiction (cc)

by_tied_lem : (t : Ticket) (x : Thing) (y : Yes) → by_tied t x ≡ Some y → Way t x y
by_tied_lem t (ATicket s) y e = contradiction (cc)
by_tied_lem t (AYes z) y e = contradiction (cc)
by_tied_lem t (ATied s z) y e =
    let h = when_true_is (same_ticket s t) z y e in
    subst (Way t (ATied s z)) h.1 (via_tie s z ((same_ticket_lem s t).0 h.0))
by_tied_lem t (AKey k) y e = contradiction (cc)

if_serves_lem : (p : Policy) (k : ℕ) (o : Option Yes) (y : Yes) → if_serves p k o ≡ Some y → (o ≡ Some y) × (serves p k y ≡ true)
if_serves_lem p k None y e = contradiction (cc)
if_serves_lem p k (Some z) y e =
    let h = when_true_is (serves p k z) z y e in
    (ap Some h.1, ap (serves p k) (sym h.1) ∙ h.0)

if_serves_from : (p : Policy) (k : ℕ) (o : Option Yes) (y : Yes) → o ≡ Some y → serves p k y ≡ true → is_some (if_serves p k o) ≡ true
if_serves_from p k o y e h = ap (λ (a : Option Yes). is_some (if_serves p k a)) e ∙ ap is_some (when_true_some (serves p k y) y h)

first_by_in : (way : Thing → Option Yes) (p : Policy) (k : ℕ) (g : List Thing) (y : Yes) → first_by way p k g ≡ Some y →
    (x : Thing) × Memᴰ x g × (way x ≡ Some y) × (serves p k y ≡ true)
first_by_in way p k g y e =
    let r = first_in (λ x. if_serves p k (way x)) g y e in
    let h = if_serves_lem p k (way r.0) y r.2 in
    (r.0, r.1, h.0, h.1)

first_by_from : (way : Thing → Option Yes) (p : Policy) (k : ℕ) {g : List Thing} {x : Thing} (y : Yes) → Memᴰ x g → way x ≡ Some y → serves p k y ≡ true →
    is_some (first_by way p k g) ≡ true
first_by_from way p k {x = x} y m e h = first_from (λ z. if_serves p k (way z)) m (if_serves_from p k (way x) y e h)

-- the yes that is shown for an else is there in one of the three ways, and serves
pub yes_for_in : (p : Policy) (g : List Thing) (t : Ticket) (k : ℕ) (y : Yes) → yes_for p g t k ≡ Some y → (x : Thing) × Memᴰ x g × Way t x y × (serves p k y ≡ true)
unfolding yes_for
yes_for_in p g t k y e =
    step (or_other_cases (first_by by_key p k g) (option_or (first_by by_free p k g) (first_by (by_tied t) p k g)) y e)
  where
    rest : (first_by by_free p k g ≡ Some y) ⊎ (first_by (by_tied t) p k g ≡ Some y) → (x : Thing) × Memᴰ x g × Way t x y × (serves p k y ≡ true)
    rest (inl h) = let r = first_by_in by_free p k g y h in (r.0, r.1, by_free_lem t r.0 y r.2, r.3)
    rest (inr h) = let r = first_by_in (by_tied t) p k g y h in (r.0, r.1, by_tied_lem t r.0 y r.2, r.3)

    step : (first_by by_key p k g ≡ Some y) ⊎ (option_or (first_by by_free p k g) (first_by (by_tied t) p k g) ≡ Some y) → (x : Thing) × Memᴰ x g × Way t x y × (serves p k y ≡ true)
    step (inl h) = let r = first_by_in by_key p k g y h in (r.0, r.1, by_key_lem t r.0 y r.2, r.3)
    step (inr h) = rest (or_other_cases (first_by by_free p k g) (first_by (by_tied t) p k g) y h)

-- and where one is there that serves, one is shown
pub yes_for_from : (p : Policy) (g : List Thing) (t : Ticket) (k : ℕ) {x : Thing} {y : Yes} → Memᴰ x g → Way t x y → serves p k y ≡ true → is_some (yes_for p g t k) ≡ true
unfolding yes_for
yes_for_from p g t k m (via_key j) h =
    or_other_left (first_by by_key p k g) (option_or (first_by by_free p k g) (first_by (by_tied t) p k g)) (first_by_from by_key p k (bare j) m refl h)
yes_for_from p g t k m (via_free y) h =
    or_other_right (first_by by_key p k g) (option_or (first_by by_free p k g) (first_by (by_tied t) p k g))
    (or_other_left (first_by by_free p k g) (first_by (by_tied t) p k g) (first_by_from by_free p k y m refl h))
yes_for_from p g t k m (via_tie s y e) h =
    or_other_right (first_by by_key p k g) (option_or (first_by by_free p k g) (first_by (by_tied t) p k g))
    (or_other_right (first_by by_free p k g) (first_by (by_tied t) p k g)
    (first_by_from (by_tied t) p k y m (when_true_some (same_ticket s t) y ((same_ticket_lem s t).1 e)) h))

-- things by the ticket that they are, or are tied to
pub ticket_in : (g : List Thing) (t : Ticket) → Memᴰ t (gather the_ticket g) → Memᴰ (ATicket t) g
ticket_in g t m = let r = gather_in the_ticket g t m in Memᴰ.cast (is r.0 r.2) r.1
  where
    is : (x : Thing) → the_ticket x ≡ Some t → ATicket t ≡ x
    is (ATicket s) e = let h : s ≡ t = cc in ap ATicket (sym h)
    is (AYes y) e = contradiction (cc)
    is (ATied s y) e = contradiction (cc)
    is (AKey k) e = contradiction (cc)

pub tied_in : (g : List Thing) (t : Ticket) → Memᴰ t (gather tied_ticket g) → (y : Yes) × Memᴰ (ATied t y) g
tied_in g t m = let r = gather_in tied_ticket g t m in let y = is r.0 r.2 in (y.0, Memᴰ.cast y.1 r.1)
  where
    is : (x : Thing) → tied_ticket x ≡ Some t → (y : Yes) × (ATied t y ≡ x)
    is (ATicket s) e = contradiction (cc)
    is (AYes y) e = contradiction (cc)
    is (ATied s y) e = let h : s ≡ t = cc in (y, ap (λ (u : Ticket). ATied u y) (sym h))
    is (AKey k) e = contradiction (cc)

-- a ticket can be made that extends a given one
can_make_is : (g : List Thing) (t : Ticket) → can_make_ticket g t ≡ true → (s : Ticket) × Memᴰ (ATicket s) g × Extends t s
can_make_is g t e =
    let r = any_in (extends t) (gather the_ticket g) e in
    (r.0, ticket_in g r.0 r.1, (extends_is t r.0).0 r.2)

can_make_from : {g : List Thing} (t s : Ticket) → Memᴰ (ATicket s) g → Extends t s → can_make_ticket g t ≡ true
can_make_from t s m e = any_from (extends t) (gather_from the_ticket s m refl) ((extends_is t s).1 e)

-- a tried ticket extends a given one
pub tried_extends : (g : List Thing) (t : Ticket) → Memᴰ t (tried g) → (s : Ticket) × Memᴰ (ATicket s) g × Extends t s
unfolding tried
tried_extends g t m = ⊎_elim given made (Memᴰ.append_cases (gather the_ticket g) m)
  where
    given : Memᴰ t (gather the_ticket g) → (s : Ticket) × Memᴰ (ATicket s) g × Extends t s
    given i = (t, ticket_in g t i, (refl, ([], sym (append-nil t.lines))))

    made : Memᴰ t (filter (can_make_ticket g) (gather tied_ticket g)) → (s : Ticket) × Memᴰ (ATicket s) g × Extends t s
    made i = can_make_is g t (kept_in (can_make_ticket g) (gather tied_ticket g) t i).1

-- and is a given one, or one that a yes is tied to
pub tried_thing : (g : List Thing) (t : Ticket) → Memᴰ t (tried g) → Memᴰ (ATicket t) g ⊎ ((y : Yes) × Memᴰ (ATied t y) g)
unfolding tried
tried_thing g t m = ⊎_elim (λ i. inl (ticket_in g t i)) made (Memᴰ.append_cases (gather the_ticket g) m)
  where
    made : Memᴰ t (filter (can_make_ticket g) (gather tied_ticket g)) → Memᴰ (ATicket t) g ⊎ ((y : Yes) × Memᴰ (ATied t y) g)
    made i = inr (tied_in g t (kept_in (can_make_ticket g) (gather tied_ticket g) t i).0)

pub given_tried : (g : List Thing) (t : Ticket) → Memᴰ (ATicket t) g → Memᴰ t (tried g)
unfolding tried
given_tried g t m = Memᴰ.append_left (filter (can_make_ticket g) (gather tied_ticket g)) (gather_from the_ticket t m refl)

pub made_tried : (g : List Thing) (t s : Ticket) → Memᴰ t (gather tied_ticket g) → Memᴰ (ATicket s) g → Extends t s → Memᴰ t (tried g)
unfolding tried
made_tried g t s m i e = Memᴰ.append_right (gather the_ticket g) (kept_from (can_make_ticket g) m (can_make_from t s i e))

pub can_by_parts : (p : Policy) (g : List Thing) (t : Ticket) → can_by p g t ≡ true → (p.takes t ≡ true) × (all_met p.says (λ k. is_some (yes_for p g t k)) t.lines ≡ true)
unfolding can_by
can_by_parts p g t e = and_parts (p.takes t) (all_met p.says (λ k. is_some (yes_for p g t k)) t.lines) e

pub can_by_from : (p : Policy) (g : List Thing) (t : Ticket) → p.takes t ≡ true → all_met p.says (λ k. is_some (yes_for p g t k)) t.lines ≡ true → can_by p g t ≡ true
unfolding can_by
can_by_from p g t a b = and_from (p.takes t) (all_met p.says (λ k. is_some (yes_for p g t k)) t.lines) a b

-- what is shown is shown by a tried ticket by which one can
pub shows_in : (p : Policy) (g : List Thing) (s : Shown) → shows p g ≡ Some s → (t : Ticket) × Memᴰ t (tried g) × (can_by p g t ≡ true) × (shown_by p g t ≡ s)
unfolding shows
shows_in p g s e =
    let r = first_in (λ t. then_some (can_by p g t) (shown_by p g t)) (tried g) s e in
    let h = when_true_is (can_by p g r.0) (shown_by p g r.0) s r.2 in
    (r.0, r.1, h.0, h.1)

pub can_shows : (p : Policy) (g : List Thing) → can p g ≡ true → (s : Shown) × (shows p g ≡ Some s)
unfolding can
can_shows p g e = some_value (shows p g) e

pub cannot_shows : (p : Policy) (g : List Thing) → can p g ≡ false → shows p g ≡ None
unfolding can
cannot_shows p g = none (shows p g)
  where
    none : (o : Option Shown) → is_some o ≡ false → o ≡ None
    none None e = refl
    none (Some s) e = contradiction (cc)

pub can_tried : (p : Policy) (g : List Thing) → can p g ≡ true → (t : Ticket) × Memᴰ t (tried g) × (can_by p g t ≡ true)
can_tried p g e =
    let s = can_shows p g e in
    let r = shows_in p g s.0 s.1 in
    (r.0, r.1, r.2)

pub can_from : (p : Policy) (g : List Thing) (t : Ticket) → Memᴰ t (tried g) → can_by p g t ≡ true → can p g ≡ true
unfolding can shows
can_from p g t m e = first_from (λ u. then_some (can_by p g u) (shown_by p g u)) m (ap is_some (when_true_some (can_by p g t) (shown_by p g t) e))

-- a ticket that can be made, is taken, and has each line met by what was given
pub record Reach (p : Policy) (g : List Thing) (t : Ticket) : Type 0 where
  pub taken : p.takes t ≡ true
  pub base : Ticket
  pub base_given : Memᴰ (ATicket base) g
  pub longer : Extends t base
  pub each_met : all_met p.says (λ k. is_some (yes_for p g t k)) t.lines ≡ true

-- where no yes is tied to a ticket, an else on it is met for every other ticket too
untied : (p : Policy) (g : List Thing) (t s : Ticket) → any (λ u. same_ticket u t) (gather tied_ticket g) ≡ false → (k : ℕ) → is_some (yes_for p g t k) ≡ true → is_some (yes_for p g s k) ≡ true
untied p g t s none k e =
    let y = some_value (yes_for p g t k) e in
    let r = yes_for_in p g t k y.0 y.1 in
    other r.1 r.2 r.3
  where
    other : {x : Thing} {y : Yes} → Memᴰ x g → Way t x y → serves p k y ≡ true → is_some (yes_for p g s k) ≡ true
    other m (via_key j) h = yes_for_from p g s k m (via_key j) h
    other m (via_free y) h = yes_for_from p g s k m (via_free y) h
    other m (via_tie u y e) h =
        absurd (both_ways (any (λ v. same_ticket v t) (gather tied_ticket g)) none (any_from (λ v. same_ticket v t) (gather_from tied_ticket u m refl) ((same_ticket_lem u t).1 e)))

-- whoever reaches a ticket can: by that ticket, if a yes is tied to it, and else by the given one that it extends
pub reach_can : (p : Policy) → Closed p → (g : List Thing) (t : Ticket) → Reach p g t → can p g ≡ true
reach_can p closed g t r = step (any (λ u. same_ticket u t) (gather tied_ticket g)) refl
  where
    step : (b : Bool) → any (λ u. same_ticket u t) (gather tied_ticket g) ≡ b → can p g ≡ true
    step true e =
        let u = any_in (λ v. same_ticket v t) (gather tied_ticket g) e in
        can_from p g t (made_tried g t r.base (Memᴰ.cast (sym ((same_ticket_lem u.0 t).0 u.2)) u.1) r.base_given r.longer)
        (can_by_from p g t r.taken r.each_met)
    step false e =
        let s = r.base in
        can_from p g s (given_tried g s r.base_given)
        (can_by_from p g s (closed t s r.longer r.taken)
        (all_met_more p.says (λ k. is_some (yes_for p g t k)) (λ k. is_some (yes_for p g s k)) s.lines (λ l m k q. untied p g t s e k)
        (all_met_front p.says (λ k. is_some (yes_for p g t k)) t.lines s.lines r.longer.1.0 r.longer.1.1 r.each_met)))

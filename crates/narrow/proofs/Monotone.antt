-- Monotone: a line more never helps, and more given never hurts. Assumes nothing.
use Rattle.std.proofs.Common.{◌≡◌, ℕ, Bool, true, ◌⊎◌, List, [], ◌∷◌, ◌++◌, is_some, sym, refl, ap, ◌∙◌, subst, inl, inr, ⊎_elim, append_assoc, append-nil}
use mathlib.Core.List.Memᴰ
use mathlib.Core.List.{Memᴰ}
use Rattle.narrow.specs.Rows.{all}
use Rattle.narrow.specs.Term.{Bytes}
use Rattle.narrow.specs.Ticket.{Ticket, Yes, Extends, Narrows, bare, Thing, ATicket, AYes, ATied, AKey}
use Rattle.narrow.specs.Policy.{Says, Limit, Else, Unreadable, Meaning, Policy, met, all_met, no_key, holds}
use Rattle.narrow.specs.Can.{tried, yes_for, can_by, can}
use Rattle.narrow.specs.Promise.{Narrowed, ticket, free, tied, key, MoreCovered, LineLess, MoreGiven, rows_of, limits_hold, MoreHolds}
use Rattle.narrow.proofs.Rows.{contradiction, all_at, all_from, some_value}
use Rattle.narrow.proofs.Lets.{all_met_more, serves_is, serves_from, serves_front}
use Rattle.narrow.proofs.Can.{Way, via_key, via_free, via_tie, yes_for_in, yes_for_from, tried_extends, tried_thing, can_by_parts, can_by_from, can_tried, can_from, Reach, reach_can}

pub extends_trans : (t s u : Ticket) → Extends t s → Extends s u → Extends t u
extends_trans t s u a b =
    (a.0 ∙ b.0, (b.1.0 ++ a.1.0, a.1.1 ∙ ap (λ (ls : List Bytes). ls ++ a.1.0) b.1.1 ∙ append_assoc u.lines b.1.0 a.1.0))

pub extends_self : (t : Ticket) → Extends t t
extends_self t = (refl, ([], sym (append-nil t.lines)))

pub narrows_self : (y : Yes) → Narrows y y
narrows_self y = (refl, ([], sym (append-nil y.lines)))

pub narrowed_self : (x : Thing) → Narrowed x x
narrowed_self (ATicket t) = ticket (extends_self t)
narrowed_self (AYes y) = free (narrows_self y)
narrowed_self (ATied t y) = tied (narrows_self y)
narrowed_self (AKey k) = key

-- a ticket with lines left off is a ticket still
ticket_covered : {x z : Thing} (t : Ticket) → ATicket t ≡ x → Narrowed x z → (s : Ticket) × (ATicket s ≡ z) × Extends t s
ticket_covered t e (ticket {t = u} {s = s} n) = let h : t ≡ u = cc in (s, refl, extends_trans t u s (ap (λ (w : Ticket). w.number) h, ([], ap (λ (w : Ticket). w.lines) h ∙ sym (append-nil u.lines))) n)
ticket_covered t e (free n) = contradiction (cc)
ticket_covered t e (tied n) = contradiction (cc)
ticket_covered t e key = contradiction (cc)

-- what gives a yes gives one with fewer limits, where lines are left off
way_covered : (t : Ticket) {x z : Thing} {y : Yes} → Narrowed x z → Way t x y → (w : Yes) × Way t z w × Narrows y w
way_covered t (ticket n) way = elim way [ ]
way_covered t (free {z = z} n) (via_free y) = (z, via_free z, n)
way_covered t (tied {z = z} n) (via_tie s y e) = (z, via_tie s z e, n)
way_covered t key (via_key k) = (bare k, via_key k, narrows_self (bare k))

module _ (p : Policy) (g h : List Thing) (covered : (x : Thing) → Memᴰ x g → (z : Thing) × Memᴰ z h × Narrowed x z) where
  yes_covered : (t : Ticket) (k : ℕ) → is_some (yes_for p g t k) ≡ true → is_some (yes_for p h t k) ≡ true
  yes_covered t k e =
      let y = some_value (yes_for p g t k) e in
      let r = yes_for_in p g t k y.0 y.1 in
      let z = covered r.0 r.1 in
      let w = way_covered t z.2 r.2 in
      yes_for_from p h t k z.1 w.1 (serves_front p k y.0 w.0 w.2 r.3)

  reach_covered : (t : Ticket) → Memᴰ t (tried g) → can_by p g t ≡ true → Reach p h t
  reach_covered t m e =
      let both = can_by_parts p g t e in
      let s = tried_extends g t m in
      let z = covered (ATicket s.0) s.1 in
      let u = ticket_covered s.0 refl z.2 in
      record {
        taken = both.0;
        base = u.0;
        base_given = Memᴰ.cast u.1 z.1;
        longer = extends_trans t s.0 u.0 s.2 u.2;
        each_met =
            all_met_more p.says (λ k. is_some (yes_for p g t k)) (λ k. is_some (yes_for p h t k)) t.lines (λ l i k q. yes_covered t k) both.1;
      }

pub more_covered : MoreCovered
more_covered p closed g h covered e =
    let t = can_tried p g e in
    reach_can p closed h t.0 (reach_covered p g h covered t.0 t.1 t.2)

pub line_less : LineLess
line_less p closed before after x z n = more_covered p closed (before ++ x ∷ after) (before ++ z ∷ after) covered
  where
    later : (w : Thing) → (w ≡ x) ⊎ Memᴰ w after → (v : Thing) × Memᴰ v (before ++ z ∷ after) × Narrowed w v
    later w (inl e) = (z, Memᴰ.append_right before (Memᴰ.head refl), subst (λ (v : Thing). Narrowed v z) (sym e) n)
    later w (inr m) = (w, Memᴰ.append_right before (Memᴰ.tail m), narrowed_self w)

    covered : (w : Thing) → Memᴰ w (before ++ x ∷ after) → (v : Thing) × Memᴰ v (before ++ z ∷ after) × Narrowed w v
    covered w m =
        ⊎_elim (λ (i : Memᴰ w before). (w, Memᴰ.append_left (z ∷ after) i, narrowed_self w))
        (λ (i : Memᴰ w (x ∷ after)). later w (Memᴰ.cases_cons i)) (Memᴰ.append_cases before m)

pub more_given : MoreGiven
more_given p closed g h more = more_covered p closed g h (λ x m. (x, more x m, narrowed_self x))

-- a line that says no more than before, by a second meaning, is met wherever all limits hold by it
line_holds : (served : ℕ → Bool) (q : Says) → ((k : ℕ) → q ≡ Else k → served k ≡ true) → met (λ k. true) q ≡ true → met served q ≡ true
line_holds served (Limit b) elses e = e
line_holds served (Else k) elses e = elses k refl
line_holds served Unreadable elses e = e

module _ (p : Policy) (w : Meaning) (g : List Thing)
    (fewer : (x : Thing) → Memᴰ x g → (ls : List Bytes) → Memᴰ ls (rows_of x) → (l : Bytes) → Memᴰ l ls → (k : ℕ) → w l ≡ Else k → p.says l ≡ Else k)
    (rows : (x : Thing) → Memᴰ x g → (ls : List Bytes) → Memᴰ ls (rows_of x) → limits_hold p.says ls ≡ true → limits_hold w ls ≡ true) where
  abbrev other : Policy
  other = record { says = w; takes = p.takes; uses = p.uses }

  -- a row of lines that stands on a given thing
  abbrev OnGiven : List Bytes → Type 0
  OnGiven ls = (x : Thing) × Memᴰ x g × Memᴰ ls (rows_of x)

  -- such lines that are met by the first meaning are met by the second
  met_other : (served more : ℕ → Bool) (ls : List Bytes) → OnGiven ls → ((k : ℕ) → served k ≡ true → more k ≡ true) →
      all_met p.says served ls ≡ true → all_met w more ls ≡ true
  met_other served more ls (x, i, r) grow e =
      let held = rows x i ls r (all_met_more p.says served (λ k. true) ls (λ l m k q h. refl) e) in
      all_from (λ l. met more (w l)) ls
      (λ l m.
      line_holds more (w l)
      (λ k q. grow k (ap (met served) (sym (fewer x i ls r l m k q)) ∙ all_at (λ y. met served (p.says y)) m e))
      (all_at (λ y. met (λ k. true) (w y)) m held))

  way_holds : (t : Ticket) {x : Thing} {y : Yes} → Memᴰ x g → Way t x y → holds p.says y ≡ true → holds w y ≡ true
  unfolding all
  way_holds t m (via_key k) e = refl
  way_holds t m (via_free y) e = met_other no_key no_key y.lines (AYes y, m, Memᴰ.head refl) (λ k h. h) e
  way_holds t m (via_tie s y q) e = met_other no_key no_key y.lines (ATied s y, m, Memᴰ.tail (Memᴰ.head refl)) (λ k h. h) e

  yes_other : (t : Ticket) (k : ℕ) → is_some (yes_for p g t k) ≡ true → is_some (yes_for other g t k) ≡ true
  yes_other t k e =
      let y = some_value (yes_for p g t k) e in
      let r = yes_for_in p g t k y.0 y.1 in
      let s = serves_is p k y.0 r.3 in
      yes_for_from other g t k r.1 r.2
      (serves_from other k y.0 (record { used = s.used; keyed = s.keyed; held = way_holds t r.1 r.2 s.held }))

  -- the lines of a tried ticket stand on a given thing
  tried_on : (t : Ticket) → Memᴰ t (tried g) → OnGiven t.lines
  tried_on t m =
      ⊎_elim (λ (i : Memᴰ (ATicket t) g). (ATicket t, i, Memᴰ.head refl))
      (λ (i : (y : Yes) × Memᴰ (ATied t y) g). (ATied t i.0, i.1, Memᴰ.head refl)) (tried_thing g t m)

  can_other : can p g ≡ true → can other g ≡ true
  can_other e =
      let t = can_tried p g e in
      let both = can_by_parts p g t.0 t.2 in
      let served : ℕ → Bool = λ k. is_some (yes_for p g t.0 k) in
      can_from other g t.0 t.1
      (can_by_from other g t.0 both.0
      (met_other served (λ k. is_some (yes_for other g t.0 k)) t.0.lines (tried_on t.0 t.1) (yes_other t.0) both.1))

pub more_holds : MoreHolds
more_holds = can_other

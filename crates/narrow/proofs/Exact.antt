-- Sound and complete: `can` says yes exactly where something can be shown that is let through. Assumes nothing.
use Rattle.std.proofs.Common.{◌≡◌, ℕ, ◌≤◌, true, List, [], ◌∷◌, ◌++◌, map, length, is_some, Some, sym, refl, ap, ◌∙◌, subst, ⊎_elim, append_assoc, append-nil, arith}
use mathlib.Core.List.Memᴰ
use mathlib.Core.List.{Memᴰ}
use Rattle.std.proofs.lemmas.Bool.{leb-true}
use Rattle.narrow.specs.Rows.{any, all}
use Rattle.narrow.specs.Term.{Bytes, Term, Gets}
use Rattle.narrow.specs.Ticket.{Ticket, Yes, Extends, ticket_mac, yes_mac, tie_of, with_line, bare, Thing, ATicket, ATied, AKey, term_of, terms_of, Makes, given, line, yes_under, tied, Shown, CanShow, CanMake}
use Rattle.narrow.specs.Policy.{Says, Limit, Else, Unreadable, Meaning, Policy, today, most_lines, serves, lets, most_yeses}
use Rattle.narrow.specs.Can.{tried, yes_for, can_by, yes_for_line, yeses_for, shown_by, shows}
use Rattle.narrow.specs.Promise.{Sound, Complete, AttackersMeet, FewYeses}
use Rattle.narrow.proofs.Rows.{contradiction, any_in, any_from, some_value, gather_in, gather_from, gather_length, map_in, map_from}
use Rattle.narrow.proofs.Given.{ticket_given, yes_given, tie_given}
use Rattle.narrow.proofs.Lets.{all_met_more, serves_is, serves_from, serves_front, lets_parts, lets_from}
use Rattle.narrow.proofs.Can.{Way, via_key, via_free, via_tie, yes_for_in, yes_for_from, tried_extends, can_by_parts, shows_in, can_shows, cannot_shows, Reach, reach_can}

-- a ticket with lines added is made of the one without
makes_lines : {have : List Term} (s : Ticket) (more : List Bytes) → Makes have (ticket_mac s) → Makes have (ticket_mac (record { number = s.number; lines = s.lines ++ more }))
makes_lines {have} s [] d = subst (λ (ls : List Bytes). Makes have (ticket_mac (record { number = s.number; lines = ls }))) (sym (append-nil s.lines)) d
makes_lines {have} s (l ∷ more) d =
    subst (λ (ls : List Bytes). Makes have (ticket_mac (record { number = s.number; lines = ls }))) (append_assoc s.lines (l ∷ []) more)
    (makes_lines (with_line s l) more (line s l d))

makes_ticket : {g : List Thing} (t s : Ticket) → Memᴰ (ATicket s) g → Extends t s → Makes (terms_of g) (ticket_mac t)
makes_ticket {g} t s m x =
    let same : record { number = s.number; lines = s.lines ++ x.1.0 } ≡ t = λ i. record { number = sym x.0 i; lines = sym x.1.1 i } in
    subst (λ (u : Ticket). Makes (terms_of g) (ticket_mac u)) same (makes_lines s x.1.0 (given (map_from term_of m)))

-- a yes that is there in one of the three ways can be tied to the ticket, or is
makes_tie : {g : List Thing} (t : Ticket) {x : Thing} {y : Yes} → Memᴰ x g → Way t x y → Makes (terms_of g) (ticket_mac t) → Makes (terms_of g) (tie_of t y)
makes_tie t m (via_key k) d = tied t (bare k) d (yes_under k (map_from term_of m))
makes_tie t m (via_free y) d = tied t y d (given (map_from term_of m))
makes_tie {g} t m (via_tie s y e) d = subst (λ (u : Ticket). Makes (terms_of g) (tie_of u y)) e (given (map_from term_of m))

-- a yes that is shown is shown for an else line
yes_for_line_lem : (p : Policy) (g : List Thing) (t : Ticket) (q : Says) (y : Yes) → yes_for_line p g t q ≡ Some y → (k : ℕ) × (q ≡ Else k) × (yes_for p g t k ≡ Some y)
yes_for_line_lem p g t (Limit b) y e = contradiction (cc)
yes_for_line_lem p g t (Else k) y e = (k, refl, e)
yes_for_line_lem p g t Unreadable y e = contradiction (cc)

pub shown_in : (p : Policy) (g : List Thing) (t : Ticket) (y : Yes) → Memᴰ y (yeses_for p g t) → (x : Thing) × Memᴰ x g × Way t x y
unfolding yeses_for
shown_in p g t y m =
    let l = gather_in (λ l. yes_for_line p g t (p.says l)) t.lines y m in
    let k = yes_for_line_lem p g t (p.says l.0) y l.2 in
    let r = yes_for_in p g t k.0 y k.2 in
    (r.0, r.1, r.2)

shown_made : (p : Policy) (g : List Thing) (t : Ticket) → Memᴰ t (tried g) → CanMake (terms_of g) (shown_by p g t)
shown_made p g t m u i = ⊎_elim first rest (Memᴰ.cases_cons i)
  where
    mac : Makes (terms_of g) (ticket_mac t)
    mac = let s = tried_extends g t m in makes_ticket t s.0 s.1 s.2

    first : u ≡ ticket_mac t → Makes (terms_of g) u
    first e = subst (Makes (terms_of g)) (sym e) mac

    rest : Memᴰ u (map (tie_of t) (yeses_for p g t)) → Makes (terms_of g) u
    rest j =
        let y = map_in (tie_of t) (yeses_for p g t) u j in
        let r = shown_in p g t y.0 y.1 in
        subst (Makes (terms_of g)) (sym y.2) (makes_tie t r.1 r.2 mac)

-- each else line has its yes among those that are shown
shown_serves : (p : Policy) (g : List Thing) (t : Ticket) (l : Bytes) → Memᴰ l t.lines → (k : ℕ) → p.says l ≡ Else k → is_some (yes_for p g t k) ≡ true →
    any (serves p k) (yeses_for p g t) ≡ true
unfolding yeses_for
shown_serves p g t l m k q e =
    let y = some_value (yes_for p g t k) e in
    let r = yes_for_in p g t k y.0 y.1 in
    any_from (serves p k) (gather_from (λ x. yes_for_line p g t (p.says x)) y.0 m (ap (yes_for_line p g t) q ∙ y.1)) r.3

shown_let : (p : Policy) (g : List Thing) (t : Ticket) → can_by p g t ≡ true → lets p (shown_by p g t) ≡ true
shown_let p g t e =
    let both = can_by_parts p g t e in
    lets_from p (shown_by p g t) both.0
    (all_met_more p.says (λ k. is_some (yes_for p g t k)) (λ k. any (serves p k) (yeses_for p g t)) t.lines (shown_serves p g t) both.1)

pub sound : Sound
sound p g e =
    let s = can_shows p g e in
    let r = shows_in p g s.0 s.1 in
    (s.0, s.1, subst (CanMake (terms_of g)) r.3 (shown_made p g r.0 r.1), ap (lets p) (sym r.3) ∙ shown_let p g r.0 r.2)

-- the yes of a key without limits serves wherever a yes of that key does
bare_serves : (p : Policy) (k : ℕ) (y : Yes) → serves p k y ≡ true → serves p k (bare y.key) ≡ true
unfolding all
bare_serves p k y e = let s = serves_is p k y e in serves_from p k (bare y.key) (record { used = s.used; keyed = s.keyed; held = refl })

-- a shown yes whose tie can be derived serves by something that was given
tie_serves : (p : Policy) (g : List Thing) (t : Ticket) (k : ℕ) (y : Yes) → Gets (terms_of g) (tie_of t y) → serves p k y ≡ true → is_some (yes_for p g t k) ≡ true
tie_serves p g t k y d e = ⊎_elim whole parts (tie_given g t y d)
  where
    whole : Memᴰ (ATied t y) g → is_some (yes_for p g t k) ≡ true
    whole m = yes_for_from p g t k m (via_tie t y refl) e

    key : Memᴰ (AKey y.key) g → is_some (yes_for p g t k) ≡ true
    key m = yes_for_from p g t k m (via_key y.key) (bare_serves p k y e)

    parts : Gets (terms_of g) (ticket_mac t) × Gets (terms_of g) (yes_mac y) → is_some (yes_for p g t k) ≡ true
    parts q =
        ⊎_elim key (λ z. yes_for_from p g t k z.1 (via_free z.0) (serves_front p k y z.0 z.2 e)) (yes_given g y q.1)

-- whoever can show something that is let through reaches its ticket
shown_reach : (p : Policy) (g : List Thing) (s : Shown) → CanShow (terms_of g) s → lets p s ≡ true → Reach p g s.ticket
shown_reach p g s d e =
    let t = s.ticket in
    let both = lets_parts p s e in
    let b = ticket_given g t (d (ticket_mac t) (Memᴰ.head refl)) in
    record {
      taken = both.0;
      base = b.0;
      base_given = b.1;
      longer = b.2;
      each_met =
          all_met_more p.says (λ k. any (serves p k) s.yeses) (λ k. is_some (yes_for p g t k)) t.lines
          (λ l m k q h.
          let y = any_in (serves p k) s.yeses h in
          tie_serves p g t k y.0 (d (tie_of t y.0) (Memᴰ.tail (map_from (tie_of t) y.1))) y.2)
          both.1;
    }

pub complete : Complete
complete p closed g = (λ s d e. reach_can p closed g s.ticket (shown_reach p g s d e), cannot_shows p g)

pub attackers_meet : AttackersMeet
attackers_meet p closed g s d e = sound p g ((complete p closed g).0 s d e)

few : (p : Policy) (g : List Thing) (s : Shown) → shows p g ≡ Some s → length s.yeses ≤ length s.ticket.lines
unfolding yeses_for
few p g s e =
    let r = shows_in p g s e in
    subst (λ (u : Shown). length u.yeses ≤ length u.ticket.lines) r.3 (gather_length (λ l. yes_for_line p g r.0 (p.says l)) r.0.lines)

few_today : (v : Meaning) (g : List Thing) (s : Shown) → shows (today v) g ≡ Some s → length s.yeses ≤ most_yeses
few_today v g s e =
    let r = shows_in (today v) g s e in
    let most = leb-true (length r.0.lines) most_lines (can_by_parts (today v) g r.0 r.2).0 in
    omega (arith, few (today v) g s e, most, ap (λ (u : Shown). length u.ticket.lines) r.3)

pub few_yeses : FewYeses
few_yeses = (few, few_today)

-- What `can` tests, in words: some ticket that extends a given one has all its lines met.
-- Assumes nothing.
use Rattle.std.proofs.Common.{◌≡◌, ℕ, Bool, true, false, cond, ◌||◌, eqb, List, [], ◌∷◌, sym, refl, ap, ◌∙◌, subst, ⊎_elim}
use Rattle.std.proofs.lemmas.Bool.{and_parts, and_from, or_cases, or_left, or_right, eqb-true, eq-eqb, cases_Bool, false≢true}
use Rattle.narrow.specs.Numbered.Term.{Line, Limit, Else}
use Rattle.narrow.specs.Numbered.Ticket.{Holds, Ticket, YesWord, Shown, Given, all_hold, has_yes, is_in, same_ticket, tied_yes, any_made_of, tied_tickets, can}
use Rattle.narrow.proofs.RowKinds.{◌∈◌, here, in_either, in_left, in_right, in_none, in_one, in_same, IsAny, any_in, in_any, all_in, in_all, join_in, in_join}
use Rattle.narrow.proofs.Numbered.Kinds.{serves, meets, may_yes, tried, all_hold_all, has_yes_any, tied_yes_any, lines_can_all, any_can_any, is_in_any, any_made_of_any, tied_tickets_join}
use Rattle.narrow.proofs.Numbered.Same.{Extends, Narrows, same_ticket_lem, ticket_same, made_extends, extends_made}

-- how one may have a yes under key k for t: by the key, by a given yes, or by one that was tied to t
pub data May (h : Holds) (q : ℕ) (g : Given) (t : Ticket) (k : ℕ) : Type 0 where
  by_key : k ∈ g.keys → May h q g t k
  by_yes : (y : YesWord) → y ∈ g.yeses → serves h q k y ≡ true → May h q g t k
  by_tied : (w : Shown) (y : YesWord) → w ∈ g.tied → w.ticket ≡ t → y ∈ w.yeses → serves h q k y ≡ true → May h q g t k

-- some ticket that extends a given one has all its lines met
pub record Can (h : Holds) (q : ℕ) (g : Given) : Type 0 where
  pub ticket : Ticket
  pub start : Ticket
  pub given : start ∈ g.tickets
  pub extends : Extends ticket start
  pub met : (l : Line) → l ∈ ticket.lines → meets h q (may_yes h q g ticket) l ≡ true

-- was any yes tied to t
abbrev tied_to : Ticket → List Shown → Bool
tied_to t [] = false
tied_to t (w ∷ ws) = same_ticket w.ticket t || tied_to t ws

-- it asks for any
tied_to_any : (t : Ticket) → IsAny (λ (w : Shown). same_ticket w.ticket t) (tied_to t)
tied_to_any t = record { none = refl; more = λ x xs. refl }

-- what is in a row of one or none is that one
in_cond : {A : Type 0} (b : Bool) (x : A) {a : A} → a ∈ cond b (x ∷ []) [] → (a ≡ x) × (b ≡ true)
in_cond true x m = (in_one m, refl)
in_cond false x m = absurd (in_none m)

-- a yes serves without its latest limits too
pub serves_less : (h : Holds) (q k : ℕ) (y z : YesWord) → Narrows y z → serves h q k y ≡ true → serves h q k z ≡ true
serves_less h q k y z (same, (more, e)) s =
    let (p, a) = and_parts (eqb y.key k) (all_hold h q y.limits) s in
    and_from _ _ (ap (λ n. eqb n k) same ∙ p) (in_all (all_hold_all h q) z.limits (λ n m. all_in (all_hold_all h q) (in_right more m) (rw e at a)))

module _ (h : Holds) (q : ℕ) (g : Given) where
  -- where the test passes, one may have a yes
  pub may : (t : Ticket) (k : ℕ) → may_yes h q g t k ≡ true → May h q g t k
  may t k e = ⊎_elim key (λ r. ⊎_elim yes' tied (or_cases (has_yes h q k g.yeses) (tied_yes h q k t g.tied) r)) (or_cases (is_in k g.keys) (has_yes h q k g.yeses || tied_yes h q k t g.tied) e)
    where
      key : is_in k g.keys ≡ true → May h q g t k
      key e = let (x, m, p) = any_in (is_in_any k) g.keys e in by_key (in_same (sym (eqb-true x k p)) m)

      yes' : has_yes h q k g.yeses ≡ true → May h q g t k
      yes' e = let (y, m, s) = any_in (has_yes_any h q k) g.yeses e in by_yes y m s

      tied : tied_yes h q k t g.tied ≡ true → May h q g t k
      tied e =
          let (w, m, p) = any_in (tied_yes_any h q k t) g.tied e in
          let (same, some) = and_parts (same_ticket w.ticket t) (has_yes h q k w.yeses) p in
          let (y, n, s) = any_in (has_yes_any h q k) w.yeses some in
          by_tied w y m (same_ticket_lem w.ticket t same) n s

  -- where one may have a yes, the test passes
  may_test : (t : Ticket) (k : ℕ) → May h q g t k → may_yes h q g t k ≡ true
  may_test t k (by_key m) = or_left _ _ (in_any (is_in_any k) m (eq-eqb k k refl))
  may_test t k (by_yes y m s) = or_right _ _ (or_left _ _ (in_any (has_yes_any h q k) m s))
  may_test t k (by_tied w y m e n s) = or_right (is_in k g.keys) _ (or_right (has_yes h q k g.yeses) _ (in_any (tied_yes_any h q k t) m (and_from _ _ (ticket_same w.ticket t e) (in_any (has_yes_any h q k) n s))))

  -- a line that is met by yeses that one may have is met
  pub met_by : (t : Ticket) (s : ℕ → Bool) → ((k : ℕ) → s k ≡ true → May h q g t k) → (l : Line) → meets h q s l ≡ true → meets h q (may_yes h q g t) l ≡ true
  met_by t s f (Limit n) e = e
  met_by t s f (Else k) e = may_test t k (f k e)

  -- each ticket that is tried extends a given one
  pub tried_extends : (t : Ticket) → t ∈ tried g → (s : Ticket) × (s ∈ g.tickets) × Extends t s
  tried_extends t m = ⊎_elim (λ n. (t, n, (refl, ([], refl)))) tied (in_either g.tickets m)
    where
      tied : t ∈ tied_tickets g.tickets g.tied → (s : Ticket) × (s ∈ g.tickets) × Extends t s
      tied n =
          let (w, o, p) = join_in (tied_tickets_join g.tickets) g.tied n in
          let (e, made) = in_cond (any_made_of w.ticket g.tickets) w.ticket p in
          let (s, r, x) = any_in (any_made_of_any w.ticket) g.tickets made in
          (s, r, subst (λ (v : Ticket). Extends v s) (sym e) (made_extends w.ticket s x))

  -- where `can` passes, there is such a ticket
  pub can_is : can h q g ≡ true → Can h q g
  can_is e =
      let (t, m, c) = any_in (any_can_any h q g) (tried g) e in
      let (s, n, x) = tried_extends t m in
      record { ticket = t; start = s; given = n; extends = x; met = λ l o. all_in (lines_can_all h q g t) o c }

  -- where there is such a ticket, `can` passes: it is tried if a yes was tied to it, and if none was, the given one does as well
  pub is_can : Can h q g → can h q g ≡ true
  is_can c = ⊎_elim tied untied (cases_Bool (tied_to c.ticket g.tied))
    where
      passes : (t : Ticket) → t ∈ tried g → ((l : Line) → l ∈ t.lines → meets h q (may_yes h q g t) l ≡ true) → can h q g ≡ true
      passes t m met = in_any (any_can_any h q g) m (in_all (lines_can_all h q g t) t.lines met)

      tied : tied_to c.ticket g.tied ≡ true → can h q g ≡ true
      tied e =
          let (w, m, p) = any_in (tied_to_any c.ticket) g.tied e in
          let same : w.ticket ≡ c.ticket = same_ticket_lem w.ticket c.ticket p in
          let made : any_made_of w.ticket g.tickets ≡ true = ap (λ t. any_made_of t g.tickets) same ∙ in_any (any_made_of_any c.ticket) c.given (extends_made c.ticket c.start c.extends) in
          passes c.ticket (in_right g.tickets (in_join (tied_tickets_join g.tickets) m (rw made (here (sym same))))) c.met

      free : tied_to c.ticket g.tied ≡ false → (k : ℕ) → May h q g c.ticket k → May h q g c.start k
      free e k (by_key m) = by_key m
      free e k (by_yes y m s) = by_yes y m s
      free e k (by_tied w y m same n s) = absurd (false≢true (sym e ∙ in_any (tied_to_any c.ticket) m (ticket_same w.ticket c.ticket same)))

      untied : tied_to c.ticket g.tied ≡ false → can h q g ≡ true
      untied e =
          passes c.start (in_left (tied_tickets g.tickets g.tied) c.given) λ l m.
          met_by c.start (may_yes h q g c.ticket) (λ k y. free e k (may c.ticket k y)) l (c.met l (rw c.extends.1.1 (in_right c.extends.1.0 m)))

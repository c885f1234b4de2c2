-- Where `can` passes, what `shows` answers can be shown and is let through; where not, it answers none.
-- Assumes nothing.
use Rattle.std.proofs.Common.{◌≡◌, ℕ, true, false, List, [], ◌∷◌, ◌++◌, sym, refl, ◌∙◌, subst, ⊎_elim}
use Rattle.std.proofs.lemmas.Bool.{and_parts, and_from, eq-eqb, eqb-true, cases_Bool}
use Rattle.narrow.specs.Numbered.Term.{Line, Limit, Else, Term, Root, Yes, Tie, Gets, has, sum, tie, sums}
use Rattle.narrow.specs.Numbered.Ticket.{Holds, Ticket, YesWord, Shown, Given, ticket_sum, yes_sum, limit_lines, terms_of, ticket_terms, yes_terms, tied_terms, ties_of, has_yes, is_in, all_hold, same_ticket, lines_can, lets, CanShow, HasAll, first_yes, first_tied, yes_for, yeses_for, can, shows, None, Some}
use Rattle.narrow.proofs.RowKinds.{◌∈◌, here, in_left, in_right, in_none, in_one, in_same, any_in, in_any, all_in, in_all, join_in, in_join, first_in, first_none}
use Rattle.narrow.proofs.Numbered.Kinds.{serves, meets, may_yes, tried, yeses_of, shown_with, has_yes_any, tied_yes_any, lines_hold_all, lines_can_all, any_can_any, first_yes_first, first_tied_first, first_shown_first, yeses_for_join, is_in_any, ticket_terms_join, yes_terms_join, key_terms_join, ties_of_join, tied_terms_join}
use Rattle.narrow.proofs.Numbered.Same.{Extends, same_ticket_lem}
use Rattle.narrow.proofs.Numbered.Can.{tried_extends}

-- one can add lines to what one has
gets_more : {have : List Term} (r : Term) (more ls : List Line) → Gets have (sums r ls) → Gets have (sums r (more ++ ls))
unfolding sums
gets_more r [] ls d = d
gets_more r (l ∷ more) ls d = sum l (gets_more r more ls d)

module _ (g : Given) where
  -- one has a given yes
  gets_yes : {y : YesWord} → y ∈ g.yeses → Gets (terms_of g) (yes_sum y)
  gets_yes m = has (in_right (ticket_terms g.tickets) (in_left _ (in_join yes_terms_join m (here refl))))

  -- one has what was tied
  gets_tied : {w : Shown} {y : YesWord} → w ∈ g.tied → y ∈ w.yeses → Gets (terms_of g) (Tie (ticket_sum w.ticket) (yes_sum y))
  gets_tied {w} m n = has (in_right (ticket_terms g.tickets) (in_right (yes_terms g.yeses) (in_left _ (in_join tied_terms_join m (in_join (ties_of_join w.ticket) n (here refl))))))

  -- one has a given key
  gets_key : {k : ℕ} → k ∈ g.keys → Gets (terms_of g) (Yes k)
  gets_key m = has (in_right (ticket_terms g.tickets) (in_right (yes_terms g.yeses) (in_right (tied_terms g.tied) (in_join key_terms_join m (here refl)))))

  -- one can have what extends a given ticket
  gets_ticket : (t s : Ticket) → s ∈ g.tickets → Extends t s → Gets (terms_of g) (ticket_sum t)
  gets_ticket t s m (n, (more, e)) = rw (← n, e) (gets_more (Root s.number) more s.lines (has (in_left _ (in_join ticket_terms_join m (here refl)))))

-- the yes that is chosen under key k for t: it serves, and one can have its tie
record Served (h : Holds) (q : ℕ) (g : Given) (t : Ticket) (k : ℕ) : Type 0 where
  word : YesWord
  chosen : yes_for h q g t k ≡ word ∷ []
  serving : serves h q k word ≡ true
  had : Gets (terms_of g) (Tie (ticket_sum t) (yes_sum word))

module _ (h : Holds) (q : ℕ) (g : Given) (t : Ticket) (d : Gets (terms_of g) (ticket_sum t)) where
  -- where one may have a yes, one is chosen
  served : (k : ℕ) → may_yes h q g t k ≡ true → Served h q g t k
  unfolding all_hold sums limit_lines
  served k e = ⊎_elim key (λ i. ⊎_elim (free i) (tied i) (cases_Bool (has_yes h q k g.yeses))) (cases_Bool (is_in k g.keys))
    where
      key : is_in k g.keys ≡ true → Served h q g t k
      key i =
          let (x, m, p) = any_in (is_in_any k) g.keys i in
          record { word = record { key = k; limits = [] }; chosen = cc; serving = and_from _ _ (eq-eqb k k refl) refl; had = tie d (gets_key g (in_same (sym (eqb-true x k p)) m)) }

      free : is_in k g.keys ≡ false → has_yes h q k g.yeses ≡ true → Served h q g t k
      free i f =
          let (y, m, s, is) = first_in (has_yes_any h q k) (first_yes_first h q k) g.yeses f in
          record { word = y; chosen = cc; serving = s; had = tie d (gets_yes g m) }

      last : is_in k g.keys ≡ false → first_yes h q k g.yeses ≡ [] → yes_for h q g t k ≡ first_tied h q k t g.tied
      last i f = cc

      tied : is_in k g.keys ≡ false → has_yes h q k g.yeses ≡ false → Served h q g t k
      tied i f =
          let (w, m, p, is) = first_in (tied_yes_any h q k t) (first_tied_first h q k t) g.tied (cc) in
          let (same, some) = and_parts (same_ticket w.ticket t) (has_yes h q k w.yeses) p in
          let (y, n, s, are) = first_in (has_yes_any h q k) (first_yes_first h q k) w.yeses some in
          record {
            word = y;
            chosen = last i (first_none (has_yes_any h q k) (first_yes_first h q k) g.yeses f) ∙ (is ∙ are);
            serving = s;
            had = subst (λ (x : Ticket). Gets (terms_of g) (Tie (ticket_sum x) (yes_sum y))) (same_ticket_lem w.ticket t same) (gets_tied g m n);
          }

  -- what is chosen for a ticket whose lines are met can be shown
  can_show : lines_can h q g t t.lines ≡ true → CanShow (terms_of g) (shown_with h q g t)
  can_show c = (d, ties)
    where
      tied : (l : Line) → l ∈ t.lines → {y : YesWord} → y ∈ yeses_of h q g t l → Gets (terms_of g) (Tie (ticket_sum t) (yes_sum y))
      tied (Limit n) m o = absurd (in_none o)
      tied (Else k) m {y} o =
          let s = served k (all_in (lines_can_all h q g t) m c) in
          let same : y ≡ s.word = in_one (rw s.chosen at o) in
          rw same s.had

      ties : HasAll (terms_of g) (ties_of t (yeses_for h q g t t.lines))
      ties x m =
          let (y, n, o) = join_in (ties_of_join t) (yeses_for h q g t t.lines) m in
          let (l, p, r) = join_in (yeses_for_join h q g t) t.lines n in
          rw (in_one o) (tied l p r)

  -- what is chosen for a ticket whose lines are met is let through
  let_through : lines_can h q g t t.lines ≡ true → lets h q (shown_with h q g t) ≡ true
  let_through c = in_all (lines_hold_all h q (yeses_for h q g t t.lines)) t.lines (λ l m. holds l m (all_in (lines_can_all h q g t) m c))
    where
      holds : (l : Line) → l ∈ t.lines → meets h q (may_yes h q g t) l ≡ true → meets h q (λ k. has_yes h q k (yeses_for h q g t t.lines)) l ≡ true
      holds (Limit n) m e = e
      holds (Else k) m e = let s = served k e in in_any (has_yes_any h q k) (in_join (yeses_for_join h q g t) m (rw s.chosen (here refl))) s.serving

-- where `can` passes, what `shows` answers can be shown and is let through
pub sound : (h : Holds) (q : ℕ) (g : Given) → can h q g ≡ true → (s : Shown) × (shows h q g ≡ Some s) × CanShow (terms_of g) s × (lets h q s ≡ true)
sound h q g e =
    let (t, m, c, is) = first_in (any_can_any h q g) (first_shown_first h q g) (tried g) e in
    let (s, n, x) = tried_extends h q g t m in
    let d = gets_ticket g t s n x in
    (shown_with h q g t, is, can_show h q g t d c, let_through h q g t d c)

-- where `can` does not pass, `shows` answers none
pub none_shown : (h : Holds) (q : ℕ) (g : Given) → can h q g ≡ false → shows h q g ≡ None
none_shown h q g = first_none (any_can_any h q g) (first_shown_first h q g) (tried g)

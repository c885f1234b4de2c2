-- Whoever can show what is let through is told so by `can`.
-- Assumes nothing.
use Rattle.std.proofs.Common.{◌≡◌, ℕ, true, eqb, sym, refl, ⊎_elim}
use Rattle.std.proofs.lemmas.Bool.{and_parts, eqb-true}
use Rattle.narrow.specs.Numbered.Term.{Gets}
use Rattle.narrow.specs.Numbered.Ticket.{Holds, YesWord, Shown, Given, yes_sum, terms_of, all_hold, has_yes, lets, CanShow, can}
use Rattle.narrow.proofs.RowKinds.{here, in_same, any_in, all_in, in_join}
use Rattle.narrow.proofs.Numbered.Kinds.{serves, has_yes_any, lines_hold_all, ties_of_join}
use Rattle.narrow.proofs.Numbered.Parts.{ticket_given, yes_given, tie_given}
use Rattle.narrow.proofs.Numbered.Can.{May, by_key, by_yes, by_tied, serves_less, met_by, is_can}

module _ (h : Holds) (q : ℕ) (g : Given) (s : Shown) (show : CanShow (terms_of g) s) where
  -- under whatever key one has a yes that serves, one may have a yes
  may_had : (k : ℕ) (y : YesWord) → serves h q k y ≡ true → Gets (terms_of g) (yes_sum y) → May h q g s.ticket k
  may_had k y e d =
      ⊎_elim
      (λ m. by_key (in_same (sym (eqb-true y.key k (and_parts (eqb y.key k) (all_hold h q y.limits) e).0)) m))
      (λ (z, m, same, more). by_yes z m (serves_less h q k y z (same, more) e))
      (yes_given g y d)

  -- under whatever key a yes is shown that serves, one may have a yes
  may_shown : (k : ℕ) → has_yes h q k s.yeses ≡ true → May h q g s.ticket k
  may_shown k e =
      let (y, m, p) = any_in (has_yes_any h q k) s.yeses e in
      ⊎_elim (λ (w, n, same, o). by_tied w y n same o p) (may_had k y p) (tie_given g s.ticket y (show.1 _ (in_join (ties_of_join s.ticket) m (here refl))))

  -- where what can be shown is let through, `can` passes
  pub complete : lets h q s ≡ true → can h q g ≡ true
  complete e =
      let (t, m, same, more) = ticket_given g s.ticket show.0 in
      is_can h q g (record { ticket = s.ticket; start = t; given = m; extends = (same, more); met = λ l n. met_by h q g s.ticket (λ k. has_yes h q k s.yeses) may_shown l (all_in (lines_hold_all h q s.yeses) n e) })

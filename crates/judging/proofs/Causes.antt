-- What is judged is so. Assumes nothing.
use Rattle.std.proofs.Common.{◌≡◌, ℕ, ◌<◌, Bool, true, false, cond, not, ◌&&◌, eqb, ltb, List, [], length, get_or, Some, None, Ok, Err, Decides, Option, sym, refl, ap, ◌∙◌, subst, arith, MatchOption}
use mathlib.Core.List.{Memᴰ}
use Rattle.std.specs.List.{position, position_or_len}
use Rattle.std.proofs.lemmas.Bool.{and_parts, and_from, eqb-true, eq-eqb, not-true, not_from_false, false_from_ne_true, true_from_ne_false, iff_false, cond-true, cond-false, ltb-true, ltb-false, lt-ltb, le-ltb}
use Rattle.std.proofs.lemmas.List.{get_or_default}
use Rattle.std.proofs.lemmas.List.Sums.{list_all-from_AllPass, AllPass-from_list_all, position_or_len_is, fails_before_first, passes_at_first}
use Rattle.narrow.specs.Rows.{any, all}
use Rattle.narrow.specs.Term.{Bytes}
use Rattle.narrow.specs.Ticket.{Yes}
use Rattle.narrow.specs.Policy.{Says, Limit, Else, Unreadable, Meaning, met, no_key, holds, serves, today}
use Rattle.narrow.proofs.Rows.{contradiction, any_in, any_from, all_at, all_from, all_list}
use Rattle.judging.specs.declared.Failing.TheVariants.{LimitFails, NoYes, NoneHolds}
use Rattle.judging.specs.Judged.{some_yes, some_holds, limit_fails, else_fails, Judgement, placed, judged}
use Rattle.judging.specs.Laws.{Holds, BadLimit, Lacking, Unheld, Least, Nowhere, Cause, JudgedRight}

-- ---- what a test decides

yes_holds : (v : Meaning) (y : Yes) → Decides (holds v y) (Holds v y)
yes_holds v y = (λ e m i. limit (v m) (all_at (λ l. met no_key (v l)) i e), λ h. all_from (λ l. met no_key (v l)) y.lines (λ m i. ap (met no_key) (h m i)))
  where
    limit : (s : Says) → met no_key s ≡ true → s ≡ Limit true
    limit (Limit b) e = ap Limit e
    limit (Else k) e = contradiction (cc)
    limit Unreadable e = contradiction (cc)

module _ (v : Meaning) (ys : List Yes) (l : Bytes) where
  limit_decides : Decides (limit_fails (v l)) (BadLimit v l)
  limit_decides = (λ e. told (v l) refl e, λ bad. so (v l) refl bad)
    where
      told : (s : Says) → v l ≡ s → limit_fails s ≡ true → BadLimit v l
      told (Limit b) q e = (λ r. let z : not true ≡ true = ap not (limit_same b (sym q ∙ r)) ∙ e in contradiction (cc), λ k r. contradiction (cc))
        where
          limit_same : (b : Bool) → Limit b ≡ Limit true → true ≡ b
          limit_same b r = cc
      told (Else k) q e = contradiction (cc)
      told Unreadable q e = (λ r. contradiction (cc), λ k r. contradiction (cc))

      so : (s : Says) → v l ≡ s → BadLimit v l → limit_fails s ≡ true
      so (Limit b) q bad = not_from_false b (false_from_ne_true b (λ h. bad.0 (q ∙ ap Limit h)))
      so (Else k) q bad = absurd (bad.1 k q)
      so Unreadable q bad = refl

  lacking_decides : Decides (else_fails (some_yes ys) (v l)) (Lacking v ys l)
  lacking_decides = (λ e. told (v l) refl e, λ bad. so (v l) refl bad)
    where
      told : (s : Says) → v l ≡ s → else_fails (some_yes ys) s ≡ true → Lacking v ys l
      told (Limit b) q e = contradiction (cc)
      told (Else k) q e =
          (k, q, λ y i same. let z : some_yes ys k ≡ true = any_from (λ y. eqb y.key k) i (eq-eqb y.key k same) in let w : true ≡ false = sym z ∙ not-true (some_yes ys k) e in contradiction (cc))
      told Unreadable q e = contradiction (cc)

      so : (s : Says) → v l ≡ s → Lacking v ys l → else_fails (some_yes ys) s ≡ true
      so (Limit b) q (k, r, bad) = contradiction (cc)
      so (Else j) q (k, r, bad) =
          not_from_false (some_yes ys j) (false_from_ne_true (some_yes ys j) (λ e. let (y, i, same) = any_in (λ y. eqb y.key j) ys e in bad y i (eqb-true y.key j same ∙ key_same j k (sym q ∙ r))))
        where
          key_same : (j k : ℕ) → Else j ≡ Else k → j ≡ k
          key_same j k e = cc
      so Unreadable q (k, r, bad) = contradiction (cc)

  unheld_decides : Decides (else_fails (some_holds v ys) (v l)) (Unheld v ys l)
  unheld_decides = (λ e. told (v l) refl e, λ bad. so (v l) refl bad)
    where
      told : (s : Says) → v l ≡ s → else_fails (some_holds v ys) s ≡ true → Unheld v ys l
      told (Limit b) q e = contradiction (cc)
      told (Else k) q e =
          (k, q, λ y i same h. let z : some_holds v ys k ≡ true = any_from (λ y. eqb y.key k && holds v y) i (and_from _ _ (eq-eqb y.key k same) ((yes_holds v y).1 h)) in let w : true ≡ false = sym z ∙ not-true (some_holds v ys k) e in contradiction (cc))
      told Unreadable q e = contradiction (cc)

      so : (s : Says) → v l ≡ s → Unheld v ys l → else_fails (some_holds v ys) s ≡ true
      so (Limit b) q (k, r, bad) = contradiction (cc)
      so (Else j) q (k, r, bad) =
          not_from_false (some_holds v ys j)
          (false_from_ne_true (some_holds v ys j) (λ e.
          let (y, i, both) = any_in (λ y. eqb y.key j && holds v y) ys e in
          let (same, h) = and_parts (eqb y.key j) (holds v y) both in
          bad y i (eqb-true y.key j same ∙ key_same j k (sym q ∙ r)) ((yes_holds v y).0 h)))
        where
          key_same : (j k : ℕ) → Else j ≡ Else k → j ≡ k
          key_same j k e = cc
      so Unreadable q (k, r, bad) = contradiction (cc)

-- ---- the first place of a test is the least place of what it decides

pub decides_not : (b : Bool) {P : Type 0} → Decides b P → (P → ⊥) → b ≡ false
decides_not b d ne = false_from_ne_true b (λ e. ne (d.0 e))

module _ (f : Bytes → Bool) (P : Bytes → Type 0) (d : (l : Bytes) → Decides (f l) (P l)) (ls : List Bytes) where
  place_from : (i : ℕ) → Least P ls i → position f ls ≡ Some i
  place_from i least =
      let here : position_or_len f ls ≡ i =
      position_or_len_is f ls i [] (omega (arith, least.within)) (λ j h. decides_not _ (d (get_or ls j [])) (least.before j h)) (λ h. (d (get_or ls i [])).1 least.here) in
      rw here (cond-true (ltb i (length ls)) _ _ (lt-ltb i (length ls) least.within))

  nowhere_from : Nowhere P ls → position f ls ≡ None
  nowhere_from none =
      let all : position_or_len f ls ≡ length ls = position_or_len_is f ls (length ls) [] (omega arith) (λ j h. decides_not _ (d (get_or ls j [])) (none j h)) (λ h. absurd (omega arith)) in
      rw all (cond-false (ltb (length ls) (length ls)) _ _ (le-ltb (length ls) (length ls) (omega arith)))

  -- the search tells, for every row
  search_tells : MatchOption (position f ls) (Nowhere P ls) (Least P ls)
  search_tells = by (ltb (position_or_len f ls) (length ls)) refl
    where
      by : (b : Bool) → ltb (position_or_len f ls) (length ls) ≡ b → MatchOption (cond b (Some (position_or_len f ls)) None) (Nowhere P ls) (Least P ls)
      by true e =
          let within = ltb-true (position_or_len f ls) (length ls) e in
          record { within = within; here = (d (get_or ls (position_or_len f ls) [])).0 (passes_at_first f ls [] within); before = λ j h. iff_false (d (get_or ls j [])) (fails_before_first f ls j [] h) }
      by false e = λ i h. let past : i < position_or_len f ls = omega (arith, ltb-false (position_or_len f ls) (length ls) e) in iff_false (d (get_or ls i [])) (fails_before_first f ls i [] past)

-- ---- the whole

module _ (v : Meaning) (ls : List Bytes) (ys : List Yes) where
  cause_of : (a b c : Option ℕ) → MatchOption a (Nowhere (BadLimit v) ls) (Least (BadLimit v) ls) → MatchOption b (Nowhere (Lacking v ys) ls) (Least (Lacking v ys) ls) →
      MatchOption c (Nowhere (Unheld v ys) ls) (Least (Unheld v ys) ls) → Cause v ls ys (placed LimitFails a (placed NoYes b (placed NoneHolds c (Ok tt))))
  cause_of (Some i) b c x y z = x
  cause_of None (Some i) c x y z = (x, y)
  cause_of None None (Some i) x y z = (x, y, z)
  cause_of None None None x y z = (x, y, z)

  cause : Cause v ls ys (judged v ls ys)
  unfolding judged
  cause =
      cause_of _ _ _ (search_tells _ _ (limit_decides v ys) ls) (search_tells _ _ (lacking_decides v ys) ls) (search_tells _ _ (unheld_decides v ys) ls)

  pub places : (a b c : Option ℕ) → position (λ l. limit_fails (v l)) ls ≡ a → position (λ l. else_fails (some_yes ys) (v l)) ls ≡ b → position (λ l. else_fails (some_holds v ys) (v l)) ls ≡ c →
      judged v ls ys ≡ placed LimitFails a (placed NoYes b (placed NoneHolds c (Ok tt)))
  unfolding judged
  places a b c x y z = λ i. placed LimitFails (x i) (placed NoYes (y i) (placed NoneHolds (z i) (Ok tt)))

  exactly : (j : Judgement) → Cause v ls ys j → judged v ls ys ≡ j
  exactly (Err (LimitFails i)) least = places (Some i) _ _ (place_from _ _ (limit_decides v ys) ls i least) refl refl
  exactly (Err (NoYes i)) (none, least) = places None (Some i) _ (nowhere_from _ _ (limit_decides v ys) ls none) (place_from _ _ (lacking_decides v ys) ls i least) refl
  exactly (Err (NoneHolds i)) (none, some, least) =
      places None None (Some i) (nowhere_from _ _ (limit_decides v ys) ls none) (nowhere_from _ _ (lacking_decides v ys) ls some) (place_from _ _ (unheld_decides v ys) ls i least)
  exactly (Ok _) (none, some, held) =
      places None None None (nowhere_from _ _ (limit_decides v ys) ls none) (nowhere_from _ _ (lacking_decides v ys) ls some) (nowhere_from _ _ (unheld_decides v ys) ls held)

  told : (j : Judgement) → judged v ls ys ≡ j → Cause v ls ys j
  told j e = subst (Cause v ls ys) e cause

  -- a line at which nothing fails is met
  line_met : (l : Bytes) → (BadLimit v l → ⊥) → (Unheld v ys l → ⊥) → met (λ k. any (serves (today v) k) ys) (v l) ≡ true
  line_met l good held = by (v l) refl
    where
      by : (s : Says) → v l ≡ s → met (λ k. any (serves (today v) k) ys) s ≡ true
      by (Limit b) e = true_from_ne_false b (λ q. good (λ r. contradiction (cc), λ k r. contradiction (cc)))
      by (Else k) e = true_from_ne_false (some_holds v ys k) (λ q. held ((unheld_decides v ys l).0 (ap (else_fails (some_holds v ys)) e ∙ ap not q)))
      by Unreadable e = absurd (good (λ r. contradiction (cc), λ k r. contradiction (cc)))

  -- and the other way round
  met_good : (l : Bytes) → met (λ k. any (serves (today v) k) ys) (v l) ≡ true → (BadLimit v l → ⊥) × (Lacking v ys l → ⊥) × (Unheld v ys l → ⊥)
  met_good l m = (
    λ bad. by (v l) refl m bad,
    λ lack. let (k, e, none) = lack in let (y, i, both) = at k e in let (same, h) = and_parts (eqb y.key k) (holds v y) both in none y i (eqb-true y.key k same),
    λ un. let (k, e, none) = un in let (y, i, both) = at k e in let (same, h) = and_parts (eqb y.key k) (holds v y) both in none y i (eqb-true y.key k same) ((yes_holds v y).0 h),
  )
    where
      at : (k : ℕ) → v l ≡ Else k → (y : Yes) × Memᴰ y ys × (eqb y.key k && holds v y ≡ true)
      at k e = any_in (λ y. eqb y.key k && holds v y) ys (ap (met (λ j. any (serves (today v) j) ys)) (sym e) ∙ m)

      by : (s : Says) → v l ≡ s → met (λ k. any (serves (today v) k) ys) s ≡ true → BadLimit v l → ⊥
      by (Limit b) e q bad = bad.0 (e ∙ ap Limit q)
      by (Else k) e q bad = bad.1 k e
      by Unreadable e q bad = contradiction (cc)

-- a test of each place of a row, and of the whole row
module _ (f : Bytes → Bool) (ls : List Bytes) where
  all_places : ((i : ℕ) → i < length ls → f (get_or ls i []) ≡ true) → all f ls ≡ true
  all_places each = all_list f ls ∙ list_all-from_AllPass f ls (λ i d h. ap f (get_or_default ls i d [] h) ∙ each i h)

  all_place : all f ls ≡ true → (i : ℕ) → i < length ls → f (get_or ls i []) ≡ true
  all_place e i h = AllPass-from_list_all f ls (sym (all_list f ls) ∙ e) i [] h

pub judged_right : JudgedRight
judged_right v ls ys =
    record {
      told = told v ls ys;
      exactly = exactly v ls ys;
      met = λ e. let (none, some, held) = told v ls ys (Ok tt) e in all_places _ ls (λ i h. line_met v ls ys (get_or ls i []) (none i h) (held i h));
      each_met =
          λ e.
          exactly v ls ys (Ok tt) (
            λ i h. (met_good v ls ys (get_or ls i []) (all_place _ ls e i h)).0,
            λ i h. (met_good v ls ys (get_or ls i []) (all_place _ ls e i h)).1,
            λ i h. (met_good v ls ys (get_or ls i []) (all_place _ ls e i h)).2,
          );
    }

-- What `?` hands on, where memory may be wanting. Assumes nothing.
use Rattle.std.proofs.Common.{◌≡◌, IsErrAnd, Ok, Err, Result, sym, subst}
use Rattle.trouble.specs.declared.Trouble.{Trouble}
use Rattle.trouble.specs.declared.Trouble.TheVariants.{Unreadable, NoMemory}
use Rattle.trouble.specs.Told.{Told}

module _ {X Y C : Type 0} (view : X → Y) (r : Result X (Trouble C)) {s : Result Y C} where
  -- at a cause
  pub stops : {c : C} → IsErrAnd r (λ d. d ≡ Unreadable c) → Err c ≡ s → Told view r s
  stops {c} h e = by r h
    where
      by : (q : Result X (Trouble C)) → IsErrAnd q (λ d. d ≡ Unreadable c) → Told view q s
      by (Ok x) h = absurd h
      by (Err d) h = subst (λ t. Told view (Err t) s) (sym h) e

  -- at what a step below tells, of which q is to be so
  pub hands_on : {A B : Type 0} (inner : A → B) (q : Result B C) (t : Trouble C) → IsErrAnd r (λ d. d ≡ t) → Told {X = A} inner (Err t) q → ((c : C) → Err c ≡ q → Err c ≡ s) → Told view r s
  hands_on {A} {B} inner q t h below e = by r h
    where
      inside : (t : Trouble C) → Told {X = A} inner (Err t) q → Told {X = X} view (Err t) s
      inside (Unreadable c) k = e c k
      inside NoMemory k = tt

      by : (p : Result X (Trouble C)) → IsErrAnd p (λ d. d ≡ t) → Told view p s
      by (Ok x) h = absurd h
      by (Err d) h = subst (λ u. Told {X = X} view (Err u) s) (sym h) (inside t below)

-- One step of reading after another. Assumes nothing.
use Rattle.std.proofs.Common.{◌≡◌, ℕ, Bool, true, false, cond, ◌⊎◌, List, [], ◌∷◌, IsErrAnd, MatchResult, MatchOption, Some, None, Ok, Err, Option, Result, refl, sym, ap, ◌∙◌, inl, inr, arith}
use Rattle.std.specs.Option.{option_map, ok_or}
use Rattle.std.specs.Result.{result_map_both}
use Rattle.std.proofs.lemmas.Result.{err_from_is_err_and}
use Rattle.texts.specs.declared.Cause.{Cause}
use Rattle.texts.specs.Cuts.{one_word, maybe_word}
use Rattle.texts.specs.Labels.{next}
use Rattle.texts.specs.Results.{and_then, and_is}

pub err_ok : {X : Type 0} (c : Cause) (x : X) → Err c ≡ Ok x → ⊥
err_ok c x e = let z : ◌≡◌ {A = ℕ} 0 1 = cc in omega arith

-- what came out well went well before
pub then_ok : {X Y : Type 0} (r : Result X Cause) (f : X → Result Y Cause) (y : Y) → and_then r f ≡ Ok y → (x : X) × (r ≡ Ok x) × (f x ≡ Ok y)
then_ok (Ok x) f y e = (x, refl, e)
then_ok (Err c) f y e = absurd (err_ok c y e)

pub is_ok : {X Y : Type 0} (r : Result X Cause) (f : X → Y) (y : Y) → and_is r f ≡ Ok y → (x : X) × (r ≡ Ok x) × (y ≡ f x)
is_ok (Ok x) f y e = (x, refl, cc)
is_ok (Err c) f y e = absurd (err_ok c y e)

pub cond_ok : {X : Type 0} (b : Bool) (r : Result X Cause) (c : Cause) (x : X) → cond b r (Err c) ≡ Ok x → (b ≡ true) × (r ≡ Ok x)
cond_ok true r c x e = (refl, e)
cond_ok false r c x e = absurd (err_ok c x e)

-- one step that went well, one that did not, and the same of the last
module _ {X Y : Type 0} {r : Result X Cause} where
  pub so : (f : X → Result Y Cause) {x : X} {s : Result Y Cause} → Ok x ≡ r → s ≡ f x → s ≡ and_then r f
  so f e h = h ∙ ap (λ q. and_then q f) e

  pub no : (f : X → Result Y Cause) {c : Cause} → Err c ≡ r → Err c ≡ and_then r f
  no f e = ap (λ q. and_then q f) e

  pub last_so : (f : X → Y) {x : X} → Ok x ≡ r → Ok (f x) ≡ and_is r f
  last_so f e = ap (λ q. and_is q f) e

  pub last_no : (f : X → Y) {c : Cause} → Err c ≡ r → Err c ≡ and_is r f
  last_no f e = ap (λ q. and_is q f) e

-- what there is, or else the cause c
module _ {X Y : Type 0} (f : X → Y) (c : Cause) where
  pub or_told : (o : Option X) (r : Result X Cause) → r ≡ ok_or o c → {s : Result Y Cause} → MatchOption o (Err c ≡ s) (λ x. Ok (f x) ≡ s) → and_is r f ≡ s
  or_told None r e m = ap (λ q. and_is q f) e ∙ m
  or_told (Some x) r e m = ap (λ q. and_is q f) e ∙ m

  pub or_is : (o : Option X) (r : Result X Cause) {p : Option Y} → option_map f o ≡ p → r ≡ ok_or o c → and_is r f ≡ ok_or p c
  or_is o r h e = or_told o r e (by o) ∙ ap (λ q. ok_or q c) h
    where
      by : (o : Option X) → MatchOption o (Err c ≡ ok_or (option_map f o) c) (λ x. Ok (f x) ≡ ok_or (option_map f o) c)
      by None = refl
      by (Some x) = refl

-- q is r with each error told as the cause c
pub told_as : {X E : Type 0} {P : E → Cause → Type 0} (c : Cause) (r : Result X E) (q : Result X Cause) → MatchResult r (λ x. q ≡ Ok x) (λ d. IsErrAnd q (P d)) → ((d : E) (e : Cause) → P d e → e ≡ c) → q ≡ result_map_both (λ x. x) (λ d. c) r
told_as c (Ok x) q m is = m
told_as c (Err d) q m is = let p = err_from_is_err_and q m in p.1 ∙ ap Err (is d p.0 p.2)

-- what the exit of a `?` returns
pub err_exits : {X : Type 0} (r : Result X Cause) (c : Cause) → IsErrAnd r (λ d. d ≡ c) → r ≡ Err c
err_exits r c h = let p = err_from_is_err_and r h in p.1 ∙ ap Err p.2

pub exits : {X Y : Type 0} (r : Result X Cause) (f : X → Y) (c : Cause) → IsErrAnd r (λ d. d ≡ c) → and_is r f ≡ Err c
exits r f c h = ap (λ q. and_is q f) (err_exits r c h)

pub one_told : (ws : List (List ℕ)) (w : List ℕ) → one_word ws ≡ Ok w → ws ≡ w ∷ []
one_told [] w e = absurd (err_ok _ _ e)
one_told (v ∷ []) w e = cc
one_told (v ∷ u ∷ ws) w e = absurd (err_ok _ _ e)

pub maybe_told : (ws : List (List ℕ)) (w : List ℕ) → maybe_word ws ≡ Ok w → ((ws ≡ []) × (w ≡ [])) ⊎ (ws ≡ w ∷ [])
maybe_told [] w e = inl (refl, cc)
maybe_told (v ∷ []) w e = inr (cc)
maybe_told (v ∷ u ∷ ws) w e = absurd (err_ok _ _ e)

pub next_told : {w : List ℕ} {us : List (List ℕ)} (ws : List (List ℕ)) → Ok (w, us) ≡ next ws → ws ≡ w ∷ us
next_told [] e = absurd (err_ok _ _ (sym e))
next_told {w = w} {us = us} (v ∷ vs) e = let p : List ℕ × List (List ℕ) = (v, vs) in let q : List ℕ × List (List ℕ) = (w, us) in let same : p ≡ q = cc in ap (λ r. r.0 ∷ r.1) same

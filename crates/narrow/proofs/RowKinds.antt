-- What is in a row, and functions over rows: those that ask for any or all of a row, join rows, or take the first that passes.
-- Assumes nothing.
use Rattle.std.proofs.Common.{◌≡◌, Bool, true, false, cond, ◌&&◌, ◌||◌, List, [], ◌∷◌, ◌++◌, sym, refl, ◌∙◌, ⊎_elim}
use mathlib.Core.List.{Memᴰ}
pub use mathlib.Core.List.Memᴰ.{append_cases as in_either}
pub use mathlib.Core.List.Memᴰ.{append_left as in_left}
pub use mathlib.Core.List.Memᴰ.{append_right as in_right}
pub use mathlib.Core.List.Memᴰ.{cases_cons as in_cons}
pub use mathlib.Core.List.Memᴰ.{cast as in_same}
pub use mathlib.Core.List.Memᴰ.{eq_of_singleton as in_one}
pub use mathlib.Core.List.Memᴰ.{head as here}
pub use mathlib.Core.List.Memᴰ.{not-nil as in_none}
pub use mathlib.Core.List.Memᴰ.{tail as there}
use Rattle.std.proofs.lemmas.Bool.{and_parts, and_from, or_cases, or_left, or_right, or_parts, false≢true, cases_Bool, cond-true, cond-false}

-- x is in xs
infix 4 ◌∈◌
abbrev pub ◌∈◌ : {A : Type 0} → A → List A → Type 0
x ∈ xs = Memᴰ x xs

-- f asks whether any element passes p
pub record IsAny {A : Type 0} (p : A → Bool) (f : List A → Bool) : Type 0 where
  pub none : f [] ≡ false
  pub more : (x : A) (xs : List A) → f (x ∷ xs) ≡ p x || f xs

-- f asks whether all elements pass p
pub record IsAll {A : Type 0} (p : A → Bool) (f : List A → Bool) : Type 0 where
  pub none : f [] ≡ true
  pub more : (x : A) (xs : List A) → f (x ∷ xs) ≡ p x && f xs

-- f joins the rows that r has for the elements
pub record IsJoin {A B : Type 0} (r : A → List B) (f : List A → List B) : Type 0 where
  pub none : f [] ≡ []
  pub more : (x : A) (xs : List A) → f (x ∷ xs) ≡ r x ++ f xs

-- f is v of the first element that passes p, and d if none does
pub record IsFirst {A B : Type 0} (p : A → Bool) (v : A → B) (d : B) (f : List A → B) : Type 0 where
  pub none : f [] ≡ d
  pub more : (x : A) (xs : List A) → f (x ∷ xs) ≡ cond (p x) (v x) (f xs)

module _ {A : Type 0} {p : A → Bool} {f : List A → Bool} (a : IsAny p f) where
  -- where any passes, there is one that does
  pub any_in : (xs : List A) → f xs ≡ true → (x : A) × (x ∈ xs) × (p x ≡ true)
  any_in [] e = absurd (false≢true (sym a.none ∙ e))
  any_in (x ∷ xs) e = ⊎_elim (λ h. (x, here refl, h)) (λ h. let (y, m, k) = any_in xs h in (y, there m, k)) (or_cases (p x) (f xs) (sym (a.more x xs) ∙ e))

  -- where one passes, any does
  pub in_any : {x : A} {xs : List A} → x ∈ xs → p x ≡ true → f xs ≡ true
  in_any (here {x = y} {xs = ys} e) h = a.more y ys ∙ or_left (p y) (f ys) (rw e at h)
  in_any (there {x = y} {xs = ys} m) h = a.more y ys ∙ or_right (p y) (f ys) (in_any m h)

module _ {A : Type 0} {p : A → Bool} {f : List A → Bool} (a : IsAll p f) where
  -- where all pass, each does
  pub all_in : {x : A} {xs : List A} → x ∈ xs → f xs ≡ true → p x ≡ true
  all_in (here {x = y} {xs = ys} e) h = rw e (and_parts (p y) (f ys) (sym (a.more y ys) ∙ h)).0
  all_in (there {x = y} {xs = ys} m) h = all_in m (and_parts (p y) (f ys) (sym (a.more y ys) ∙ h)).1

  -- where each passes, all do
  pub in_all : (xs : List A) → ((x : A) → x ∈ xs → p x ≡ true) → f xs ≡ true
  in_all [] h = a.none
  in_all (x ∷ xs) h = a.more x xs ∙ and_from (p x) (f xs) (h x (here refl)) (in_all xs (λ y m. h y (there m)))

module _ {A B : Type 0} {r : A → List B} {f : List A → List B} (j : IsJoin r f) where
  -- what is in the join is in the row of an element
  pub join_in : (xs : List A) {b : B} → b ∈ f xs → (x : A) × (x ∈ xs) × (b ∈ r x)
  join_in [] m = absurd (in_none (rw j.none at m))
  join_in (x ∷ xs) m = ⊎_elim (λ h. (x, here refl, h)) (λ h. let (y, n, k) = join_in xs h in (y, there n, k)) (in_either (r x) (rw (j.more x xs) at m))

  -- what is in the row of an element is in the join
  pub in_join : {x : A} {xs : List A} {b : B} → x ∈ xs → b ∈ r x → b ∈ f xs
  in_join (here {x = y} {xs = ys} e) n = rw (j.more y ys) (in_left (f ys) (rw e at n))
  in_join (there {x = y} {xs = ys} m) n = rw (j.more y ys) (in_right (r y) (in_join m n))

module _ {A B : Type 0} {p : A → Bool} {v : A → B} {d : B} {a : List A → Bool} {f : List A → B} (i : IsAny p a) (j : IsFirst p v d f) where
  -- where any passes, the first is v of one that does
  pub first_in : (xs : List A) → a xs ≡ true → (x : A) × (x ∈ xs) × (p x ≡ true) × (f xs ≡ v x)
  first_in [] e = absurd (false≢true (sym i.none ∙ e))
  first_in (x ∷ xs) e =
      ⊎_elim
      (λ h. (x, here refl, h, j.more x xs ∙ cond-true (p x) (v x) (f xs) h))
      (λ h. let (y, m, k, l) = first_in xs (cc (h, i.more x xs)) in (y, there m, k, j.more x xs ∙ (cond-false (p x) (v x) (f xs) h ∙ l)))
      (cases_Bool (p x))

  -- where none passes, the first is d
  pub first_none : (xs : List A) → a xs ≡ false → f xs ≡ d
  first_none [] e = j.none
  first_none (x ∷ xs) e = let (h, k) = or_parts (p x) (a xs) (sym (i.more x xs) ∙ e) in j.more x xs ∙ (cond-false (p x) (v x) (f xs) h ∙ first_none xs k)

-- Tests and searches over rows, by membership; each way one lemma. Assumes nothing.
use Rattle.std.proofs.Common.{◌≡◌, ℕ, ◌≤◌, Bool, true, false, cond, ◌&&◌, ◌||◌, ◌⊎◌, List, [], ◌∷◌, ◌++◌, map, length, is_some, Some, None, Decides, filter, Option, sym, refl, ap, ◌∙◌, inl, inr, ⊎_elim, arith, length-append}
use mathlib.Core.List.Memᴰ
use mathlib.Core.List.{Memᴰ, cons-eq-cons}
use Rattle.std.specs.Option.{option_or, option_to_list}
use Rattle.std.specs.Bool.{then_some}
use Rattle.std.specs.List.{list_any, list_all}
use Rattle.std.proofs.lemmas.Bool.{and_parts, and_from}
use Rattle.narrow.proofs.RowKinds
use Rattle.narrow.proofs.RowKinds.{IsAny, IsAll, IsJoin}
use Rattle.narrow.specs.Rows.{any, all, first, gather, same_row, begins_with}

-- anything follows where two constructors are equal, which `cc` sees
pub contradiction : {X : Type 0} → ◌≡◌ {A = ℕ} 0 1 → X
contradiction e = absurd (omega arith)

-- the functions over rows, by their kind
any_is : {A : Type 0} (f : A → Bool) → IsAny f (any f)
unfolding any
any_is f = record { none = refl; more = λ x xs. refl }

all_is : {A : Type 0} (f : A → Bool) → IsAll f (all f)
unfolding all
all_is f = record { none = refl; more = λ x xs. refl }

gather_is : {A B : Type 0} (f : A → Option B) → IsJoin (λ x. option_to_list (f x)) (gather f)
unfolding gather
gather_is f = record { none = refl; more = λ x xs. refl }

pub any_in : {A : Type 0} (f : A → Bool) (xs : List A) → any f xs ≡ true → (x : A) × Memᴰ x xs × (f x ≡ true)
any_in f = RowKinds.any_in (any_is f)

pub any_from : {A : Type 0} (f : A → Bool) {x : A} {xs : List A} → Memᴰ x xs → f x ≡ true → any f xs ≡ true
any_from f = RowKinds.in_any (any_is f)

pub all_at : {A : Type 0} (f : A → Bool) {x : A} {xs : List A} → Memᴰ x xs → all f xs ≡ true → f x ≡ true
all_at f = RowKinds.all_in (all_is f)

pub all_from : {A : Type 0} (f : A → Bool) (xs : List A) → ((x : A) → Memᴰ x xs → f x ≡ true) → all f xs ≡ true
all_from f = RowKinds.in_all (all_is f)

-- a test of what the elements stand for, as a chain over the elements makes it
pub any_map : {A B : Type 0} (g : A → B) (f : B → Bool) (xs : List A) → any f (map g xs) ≡ list_any (λ x. f (g x)) xs
unfolding any
any_map g f [] = refl
any_map g f (x ∷ xs) = ap (λ (b : Bool). f (g x) || b) (any_map g f xs)

pub all_map : {A B : Type 0} (g : A → B) (f : B → Bool) (xs : List A) → all f (map g xs) ≡ list_all (λ x. f (g x)) xs
unfolding all
all_map g f [] = refl
all_map g f (x ∷ xs) = ap (λ (b : Bool). f (g x) && b) (all_map g f xs)

pub all_list : {A : Type 0} (f : A → Bool) (xs : List A) → all f xs ≡ list_all f xs
unfolding all
all_list f [] = refl
all_list f (x ∷ xs) = ap (λ (b : Bool). f x && b) (all_list f xs)

-- what the first of two options that is there gives
pub or_other_cases : {A : Type 0} (a b : Option A) (y : A) → option_or a b ≡ Some y → (a ≡ Some y) ⊎ (b ≡ Some y)
or_other_cases (Some x) b y e = inl e
or_other_cases None b y e = inr e

pub or_other_left : {A : Type 0} (a b : Option A) → is_some a ≡ true → is_some (option_or a b) ≡ true
or_other_left (Some x) b e = refl
or_other_left None b e = contradiction (cc)

pub or_other_right : {A : Type 0} (a b : Option A) → is_some b ≡ true → is_some (option_or a b) ≡ true
or_other_right (Some x) b e = refl
or_other_right None b e = e

pub some_value : {A : Type 0} (o : Option A) → is_some o ≡ true → (x : A) × (o ≡ Some x)
some_value (Some x) e = (x, refl)
some_value None e = contradiction (cc)

pub some_is : {A : Type 0} (o : Option A) (x : A) → o ≡ Some x → is_some o ≡ true
some_is o x e = ap is_some e

pub when_true_is : {A : Type 0} (b : Bool) (x y : A) → then_some b x ≡ Some y → (b ≡ true) × (x ≡ y)
when_true_is true x y e = (refl, cc)
when_true_is false x y e = contradiction (cc)

pub when_true_some : {A : Type 0} (b : Bool) (x : A) → b ≡ true → then_some b x ≡ Some x
when_true_some b x e = rw e

pub first_in : {A B : Type 0} (f : A → Option B) (xs : List A) (y : B) → first f xs ≡ Some y → (x : A) × Memᴰ x xs × (f x ≡ Some y)
unfolding first
first_in f [] y e = contradiction (cc)
first_in {A} f (x ∷ xs) y e = step (first_in f xs y) (or_other_cases (f x) (first f xs) y e)
  where
    step : (first f xs ≡ Some y → (z : A) × Memᴰ z xs × (f z ≡ Some y)) → (f x ≡ Some y) ⊎ (first f xs ≡ Some y) → (z : A) × Memᴰ z (x ∷ xs) × (f z ≡ Some y)
    step below (inl h) = (x, Memᴰ.head refl, h)
    step below (inr h) = let r = below h in (r.0, Memᴰ.tail r.1, r.2)

pub first_from : {A B : Type 0} (f : A → Option B) {x : A} {xs : List A} → Memᴰ x xs → is_some (f x) ≡ true → is_some (first f xs) ≡ true
unfolding first
first_from f (Memᴰ.head {x = y} {xs = xs} e) h = or_other_left (f y) (first f xs) (ap (λ a. is_some (f a)) (sym e) ∙ h)
first_from f (Memᴰ.tail {x = y} {xs = xs} m) h = or_other_right (f y) (first f xs) (first_from f m h)

list_of_in : {A : Type 0} (o : Option A) (y : A) → Memᴰ y (option_to_list o) → o ≡ Some y
list_of_in None y m = absurd (Memᴰ.not-nil m)
list_of_in (Some x) y (Memᴰ.head e) = ap Some (sym e)
list_of_in (Some x) y (Memᴰ.tail m) = absurd (Memᴰ.not-nil m)

list_of_from : {A : Type 0} (o : Option A) (y : A) → o ≡ Some y → Memᴰ y (option_to_list o)
list_of_from o y e = rw e (Memᴰ.head refl)

pub gather_in : {A B : Type 0} (f : A → Option B) (xs : List A) (y : B) → Memᴰ y (gather f xs) → (x : A) × Memᴰ x xs × (f x ≡ Some y)
gather_in f xs y m = let (x, i, j) = RowKinds.join_in (gather_is f) xs m in (x, i, list_of_in (f x) y j)

pub gather_from : {A B : Type 0} (f : A → Option B) {x : A} {xs : List A} (y : B) → Memᴰ x xs → f x ≡ Some y → Memᴰ y (gather f xs)
gather_from f {x} y m e = RowKinds.in_join (gather_is f) m (list_of_from (f x) y e)

list_of_length : {A : Type 0} (o : Option A) → length (option_to_list o) ≤ 1
list_of_length None = omega arith
list_of_length (Some x) = omega arith

pub gather_length : {A B : Type 0} (f : A → Option B) (xs : List A) → length (gather f xs) ≤ length xs
unfolding gather
gather_length f [] = omega arith
gather_length f (x ∷ xs) = omega (arith, length-append (option_to_list (f x)) (gather f xs), list_of_length (f x), gather_length f xs)

pub kept_in : {A : Type 0} (f : A → Bool) (xs : List A) (y : A) → Memᴰ y (filter f xs) → Memᴰ y xs × (f y ≡ true)
kept_in f [] y m = absurd (Memᴰ.not-nil m)
kept_in {A} f (x ∷ xs) y m = step (f x) refl (kept_in f xs y) m
  where
    later : Memᴰ y xs × (f y ≡ true) → Memᴰ y (x ∷ xs) × (f y ≡ true)
    later r = (Memᴰ.tail r.0, r.1)

    step : (b : Bool) → f x ≡ b → (Memᴰ y (filter f xs) → Memᴰ y xs × (f y ≡ true)) → Memᴰ y (cond b (x ∷ filter f xs) (filter f xs)) → Memᴰ y (x ∷ xs) × (f y ≡ true)
    step true e below h = ⊎_elim (λ (q : y ≡ x). (Memᴰ.head q, ap f q ∙ e)) (λ (q : Memᴰ y (filter f xs)). later (below q)) (Memᴰ.cases_cons h)
    step false e below h = later (below h)

pub kept_from : {A : Type 0} (f : A → Bool) {y : A} {xs : List A} → Memᴰ y xs → f y ≡ true → Memᴰ y (filter f xs)
kept_from f {y} (Memᴰ.head {x = x} {xs = xs} e) h = rw (ap f (sym e) ∙ h) (Memᴰ.head e)
kept_from f {y} (Memᴰ.tail {x = x} {xs = xs} m) h = step (f x) (kept_from f m h)
  where
    step : (b : Bool) → Memᴰ y (filter f xs) → Memᴰ y (cond b (x ∷ filter f xs) (filter f xs))
    step true k = Memᴰ.tail k
    step false k = k

pub map_in : {A B : Type 0} (f : A → B) (xs : List A) (y : B) → Memᴰ y (map f xs) → (x : A) × Memᴰ x xs × (y ≡ f x)
map_in f [] y m = absurd (Memᴰ.not-nil m)
map_in {A} f (x ∷ xs) y m = step (map_in f xs y) (Memᴰ.cases_cons m)
  where
    step : (Memᴰ y (map f xs) → (z : A) × Memᴰ z xs × (y ≡ f z)) → (y ≡ f x) ⊎ Memᴰ y (map f xs) → (z : A) × Memᴰ z (x ∷ xs) × (y ≡ f z)
    step below (inl h) = (x, Memᴰ.head refl, h)
    step below (inr h) = let r = below h in (r.0, Memᴰ.tail r.1, r.2)

pub map_from : {A B : Type 0} (f : A → B) {x : A} {xs : List A} → Memᴰ x xs → Memᴰ (f x) (map f xs)
map_from f (Memᴰ.head e) = Memᴰ.head (ap f e)
map_from f (Memᴰ.tail m) = Memᴰ.tail (map_from f m)

-- the test of two rows tells whether they are equal, if the test of elements does
module _ {A : Type 0} (f : A → A → Bool) (tells : (x y : A) → Decides (f x y) (x ≡ y)) where
  pub same_row_lem : (xs ys : List A) → Decides (same_row f xs ys) (xs ≡ ys)
  unfolding same_row
  same_row_lem [] [] = (λ e. refl, λ e. refl)
  same_row_lem [] (y ∷ ys) = (λ e. cc, λ e. cc)
  same_row_lem (x ∷ xs) [] = (λ e. cc, λ e. cc)
  same_row_lem (x ∷ xs) (y ∷ ys) =
      let below = same_row_lem xs ys in (
        λ e. let both = and_parts (f x y) (same_row f xs ys) e in
            cons-eq-cons.1 ((tells x y).0 both.0, below.0 both.1),
        λ e. let both = cons-eq-cons.0 e in and_from (f x y) (same_row f xs ys) ((tells x y).1 both.0) (below.1 both.1),
      )

  -- and so it is with whether the first begins with the second
  pub begins_with_lem : (xs ys : List A) → Decides (begins_with f xs ys) ((more : List A) × (xs ≡ ys ++ more))
  unfolding begins_with
  begins_with_lem xs [] = (λ e. (xs, refl), λ e. refl)
  begins_with_lem [] (y ∷ ys) = (λ e. contradiction (cc), λ m. let e = m.1 in cc)
  begins_with_lem (x ∷ xs) (y ∷ ys) =
      let below = begins_with_lem xs ys in (
        λ e. let both = and_parts (f x y) (begins_with f xs ys) e in
            let more = below.0 both.1 in
            (more.0, cons-eq-cons.1 ((tells x y).0 both.0, more.1)),
        λ m. let both = cons-eq-cons.0 m.1 in
            and_from (f x y) (begins_with f xs ys) ((tells x y).1 both.0) (below.1 (m.0, both.1)),
      )

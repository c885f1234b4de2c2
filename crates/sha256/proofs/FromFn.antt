-- Arrays that a closure made, place by place, where a call changes nothing that the closure holds and gives h of what it is passed.
-- Assumes nothing.
use Rattle.std.proofs.Common.{◌≡◌, ℕ, zero, suc, ◌+◌, ◌<◌, List, map, length, get_or, sym, ap, ◌∙◌, subst, zero-add, arith}
use Rattle.std.proofs.lemmas.List.{ext_get_or, get_or-map, length-map}
use Rattle.std.specs.Array.{IsFromFnResultFrom, IsMapOf, MapsFrom}
use denote.Param.Members.{Mut, Called}

from_fn_from : {F B : Type 0} (g : Mut F (ℕ × Unit {0}) B) (h : ℕ → B) (ys : List B) (f : F) (i n : ℕ) → ((j : ℕ) (y : B) (q : F) → Called g f (j, tt) y q → (q ≡ f) × (y ≡ h j)) → IsFromFnResultFrom g f ys i n → (j : ℕ) (d : B) → j < n → get_or ys (i + j) d ≡ h (i + j)
from_fn_from g h ys f i zero each made j d l = absurd (omega arith)
from_fn_from g h ys f i (suc n) each made zero d l =
    let here = each i made.1 made.0 made.3 in
    let z : i + 0 ≡ i = omega arith in
    rw z (made.2.1 d ∙ here.1)
from_fn_from g h ys f i (suc n) each made (suc j) d l =
    let here = each i made.1 made.0 made.3 in
    let e : i + 1 + j ≡ i + suc j = omega arith in
    let rest : IsFromFnResultFrom g f ys (i + 1) n = subst (λ q. IsFromFnResultFrom g q ys (i + 1) n) here.0 made.4 in
    rw e at (from_fn_from g h ys f (i + 1) n each rest j d (omega arith))

pub from_fn_gives : {F B : Type 0} (g : Mut F (ℕ × Unit {0}) B) (h : ℕ → B) (ys : List B) (f : F) (n : ℕ) → ((j : ℕ) (y : B) (q : F) → Called g f (j, tt) y q → (q ≡ f) × (y ≡ h j)) → IsFromFnResultFrom g f ys 0 n → (j : ℕ) (d : B) → j < n → get_or ys j d ≡ h j
from_fn_gives g h ys f n each made j d l = rw zero-add at (from_fn_from g h ys f 0 n each made j d l)

maps_from : {F A B : Type 0} (g : Mut F (A × Unit {0}) B) (h : A → B) (xs : List A) (ys : List B) (f : F) (i n : ℕ) → ((x : A) (y : B) (q : F) → Called g f (x, tt) y q → (q ≡ f) × (y ≡ h x)) → MapsFrom g f xs ys i n → (j : ℕ) (d : A) (e : B) → j < n → get_or ys (i + j) e ≡ h (get_or xs (i + j) d)
maps_from g h xs ys f i zero each made j d e l = absurd (omega arith)
maps_from g h xs ys f i (suc n) each made zero d e l =
    let here = each made.1 made.2 made.0 made.5 in
    let z : i + 0 ≡ i = omega arith in
    rw z (made.4.1 e ∙ here.1 ∙ ap h (sym (made.3.1 d)))
maps_from g h xs ys f i (suc n) each made (suc j) d e l =
    let here = each made.1 made.2 made.0 made.5 in
    let k : i + 1 + j ≡ i + suc j = omega arith in
    let rest : MapsFrom g f xs ys (i + 1) n = subst (λ q. MapsFrom g q xs ys (i + 1) n) here.0 made.6 in
    rw k at (maps_from g h xs ys f (i + 1) n each rest j d e (omega arith))

-- d and e are what is read past the ends
pub map_gives : {F A B : Type 0} (g : Mut F (A × Unit {0}) B) (h : A → B) (xs : List A) (ys : List B) (f : F) (n : ℕ) (d : A) (e : B) → length xs ≡ n → ((x : A) (y : B) (q : F) → Called g f (x, tt) y q → (q ≡ f) × (y ≡ h x)) → IsMapOf g f xs ys n → ys ≡ map h xs
map_gives g h xs ys f n d e lx each made =
    ext_get_or e ys (map h xs) (made.long ∙ sym lx ∙ sym (length-map xs h)) (λ i l.
    let k : i < n = rw made.long at l in
    rw zero-add at (maps_from g h xs ys f 0 n each made.each i d e k) ∙ sym (get_or-map h xs i d e (omega arith)))

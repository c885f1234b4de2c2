-- What is exact at the front is exact as a whole. Assumes nothing.
use Rattle.std.proofs.Common.{◌≡◌, ℕ, true, ◌⊎◌, [], ◌∷◌, ◌++◌, Ok, Err, Result, sym, refl, ap, ◌∙◌, inl, inr, append-nil}
use mathlib.Core.List.{cons≢nil}
use Rattle.narrow.specs.Term.{Bytes}
use Rattle.narrow.proofs.Rows.{contradiction}
use Rattle.lines.specs.declared.Fault.{Fault}
use Rattle.lines.specs.declared.Fault.TheVariants.{Shape, Unreadable, TooMany, Range}
use Rattle.rows.specs.Rowing.{next}
use Rattle.rows.proofs.Exactly.{next_value, next_on, next_stop, pair_same}
use Rattle.codec.specs.Format.{Format, at_end, whole}
use Rattle.codec.specs.Laws.{Exact, Inverse}

shape_or : (e : Fault) → (e ≡ Shape) ⊎ (e ≡ Shape → ⊥)
shape_or Shape = inl refl
shape_or Unreadable = inr (λ q. contradiction (cc))
shape_or TooMany = inr (λ q. contradiction (cc))
shape_or Range = inr (λ q. contradiction (cc))

pub at_end_lem : {A : Type 0} (p : A × Bytes) (a : A) → at_end p ≡ Ok a → (p.0 ≡ a) × (p.1 ≡ [])
at_end_lem (b, []) a e = (cc, refl)
at_end_lem (b, c ∷ cs) a e = contradiction (cc)

left_over : {A : Type 0} (a : A) (more : Bytes) → (more ≡ [] → ⊥) → at_end (a, more) ≡ Err Shape
left_over a [] ne = absurd (ne refl)
left_over a (b ∷ bs) ne = refl

-- what is told of the whole, by what was read at the front
module _ {A : Type 0} (f : Format A) (bs : Bytes) where
  pub whole_stop : (e : Fault) → f.read bs ≡ Err e → whole f bs ≡ Err e
  unfolding whole
  whole_stop e q = next_stop _ at_end e q

  module _ (a : A) (rest : Bytes) (read : f.read bs ≡ Ok (a, rest)) where
    pub whole_over : (rest ≡ [] → ⊥) → whole f bs ≡ Err Shape
    unfolding whole
    whole_over ne = next_on _ at_end (a, rest) read ∙ left_over a rest ne

    pub whole_on : rest ≡ [] → whole f bs ≡ Ok a
    unfolding whole
    whole_on none = next_on _ at_end (a, rest) read ∙ ap (λ (r : Bytes). at_end (a, r)) none

no_more : (xs ys : Bytes) → xs ++ ys ≡ [] → ys ≡ []
no_more [] ys e = e
no_more (x ∷ xs) ys e = absurd (cons≢nil e)

pub inverse : {A : Type 0} (f : Format A) → Exact f → Inverse f
unfolding whole
inverse {A} f x =
    record {
      back = λ a h. whole_on f (f.write a) a [] (read a h) refl;
      only =
          λ bs a e.
          let (p, q, r) = next_value (f.read bs) at_end a e in
          let (value, none) = at_end_lem p a r in
          let (fits, same) = x.only bs p.0 p.1 q in
          (ap f.fits (sym value) ∙ fits, same ∙ ((λ i. f.write (value i) ++ none i) ∙ append-nil (f.write a)));
      cut = λ a h bs more e ne. short a h bs more e ne (f.read bs) refl;
      over = λ a h more ne. whole_over f (f.write a ++ more) a more (x.back a more h) ne;
    }
  where
    clash : (g : Fault) (a : A) → ◌≡◌ {A = Result (A × Bytes) Fault} (Err g) (Ok (a, [])) → ◌≡◌ {A = ℕ} 0 1
    clash g a e = cc

    read : (a : A) → f.fits a ≡ true → f.read (f.write a) ≡ Ok (a, [])
    read a h = ap f.read (sym (append-nil (f.write a))) ∙ x.back a [] h

    short : (a : A) → f.fits a ≡ true → (bs more : Bytes) → bs ++ more ≡ f.write a → (more ≡ [] → ⊥) → (r : Result (A × Bytes) Fault) → f.read bs ≡ r → next r at_end ≡ Err Shape
    short a h bs more e ne (Ok p) q =
        let longer = x.kept bs more p.0 p.1 q in
        let (value, none) = pair_same p.0 a (p.1 ++ more) [] (sym longer ∙ (ap f.read e ∙ read a h)) in
        absurd (ne (no_more p.1 more none))
    short a h bs more e ne (Err g) q = fault (shape_or g)
      where
        fault : (g ≡ Shape) ⊎ (g ≡ Shape → ⊥) → ◌≡◌ {A = Result A Fault} (Err g) (Err Shape)
        fault (inl s) = ap Err s
        fault (inr s) = let later = x.told bs more g q s in contradiction (clash g a (sym later ∙ (ap f.read e ∙ read a h)))

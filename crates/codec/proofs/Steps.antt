-- Reading by a format, step by step. Assumes nothing.
use Rattle.std.proofs.Common.{◌≡◌, ℕ, ◌<◌, Bool, true, false, eqb, ltb, [], ◌∷◌, ◌++◌, length, drop, Ok, Err, Result, IsErrAnd, MatchResult, sym, refl, ap, ◌∙◌, arith, eq-eqb}
use Rattle.std.proofs.lemmas.Bool.{cond-true, cond-false, ne_eqb, lt-ltb}
use Rattle.narrow.specs.Term.{Bytes}
use Rattle.narrow.specs.Can.{same_bytes}
use Rattle.narrow.proofs.Can.{same_bytes_lem}
use Rattle.numbers.specs.Bytes.{two_bytes}
use Rattle.numbers.specs.Places.{number}
use Rattle.lines.specs.declared.Fault.{Fault}
use Rattle.lines.specs.declared.Fault.TheVariants.{Shape}
use Rattle.rows.proofs.Exactly.{next_on, next_stop}
use Rattle.codec.specs.Format.{Format, fixed, two_byte, behind, read_behind, both, only, named}
use Rattle.codec.specs.Things.{mac, maced}

pub fixed_short : (n : ℕ) (bs : Bytes) → length bs < n → (fixed n).read bs ≡ Err Shape
unfolding fixed
fixed_short n bs h = cond-true (ltb (length bs) n) _ _ (lt-ltb (length bs) n h)

pub two_byte_short : (bs : Bytes) → length bs < 2 → two_byte.read bs ≡ Err Shape
unfolding two_byte
two_byte_short bs h = cond-false (same_bytes bs (two_bytes (number bs 0) ++ drop 2 bs)) _ _ (other (same_bytes bs (two_bytes (number bs 0) ++ drop 2 bs)) refl)
  where
    other : (b : Bool) → same_bytes bs (two_bytes (number bs 0) ++ drop 2 bs) ≡ b → b ≡ false
    other false e = refl
    other true e = absurd (omega (arith, ap length ((same_bytes_lem bs (two_bytes (number bs 0) ++ drop 2 bs)).0 e)))

module _ {A : Type 0} (f : Format A) where
  pub behind_on : (k : ℕ) (bs rest : Bytes) → bs ≡ k ∷ rest → (behind k f).read bs ≡ f.read rest
  unfolding behind
  behind_on k bs rest e = ap (read_behind k f.read) e ∙ cond-true (eqb k k) _ _ (eq-eqb k k refl)

  pub behind_other : (k : ℕ) (bs : Bytes) → ((rest : Bytes) → bs ≡ k ∷ rest → ⊥) → (behind k f).read bs ≡ Err Shape
  unfolding behind
  behind_other k [] ne = refl
  behind_other k (b ∷ bs) ne = cond-false (eqb b k) _ _ (ne_eqb b k (λ e. ne bs (ap (λ (c : ℕ). c ∷ bs) e)))

  -- the same with the fault that was told
  pub behind_told : (k : ℕ) (bs : Bytes) (e : Fault) → (e ≡ Shape) × ((rest : Bytes) → bs ≡ k ∷ rest → ⊥) → (behind k f).read bs ≡ Err e
  behind_told k bs e q = behind_other k bs q.1 ∙ ap Err (sym q.0)

  module _ (t : A → Bool) (g : Fault) (bs : Bytes) where
    pub only_on : (a : A) (rest : Bytes) → f.read bs ≡ Ok (a, rest) → t a ≡ true → (only t g f).read bs ≡ Ok (a, rest)
    unfolding only
    only_on a rest e h = next_on _ _ (a, rest) e ∙ cond-true (t a) _ _ h

    pub only_other : (a : A) (rest : Bytes) → f.read bs ≡ Ok (a, rest) → t a ≡ false → (only t g f).read bs ≡ Err g
    unfolding only
    only_other a rest e h = next_on _ _ (a, rest) e ∙ cond-false (t a) _ _ h

    pub only_stop : (e : Fault) → f.read bs ≡ Err e → (only t g f).read bs ≡ Err e
    unfolding only
    only_stop e q = next_stop _ _ e q

  module _ {B : Type 0} (to : A → B) (from : B → A) (bs : Bytes) where
    pub named_on : (a : A) (rest : Bytes) → f.read bs ≡ Ok (a, rest) → (named to from f).read bs ≡ Ok (to a, rest)
    unfolding named
    named_on a rest e = next_on _ _ (a, rest) e

    pub named_stop : (e : Fault) → f.read bs ≡ Err e → (named to from f).read bs ≡ Err e
    unfolding named
    named_stop e q = next_stop _ _ e q

module _ {A B : Type 0} (f : Format A) (g : Format B) (bs : Bytes) where
  pub both_first : (e : Fault) → f.read bs ≡ Err e → (both f g).read bs ≡ Err e
  unfolding both
  both_first e q = next_stop _ _ e q

  module _ (a : A) (after : Bytes) (one : f.read bs ≡ Ok (a, after)) where
    pub both_on : (b : B) (rest : Bytes) → g.read after ≡ Ok (b, rest) → (both f g).read bs ≡ Ok ((a, b), rest)
    unfolding both
    both_on b rest two = next_on _ _ (a, after) one ∙ next_on _ _ (b, rest) two

    pub both_second : (e : Fault) → g.read after ≡ Err e → (both f g).read bs ≡ Err e
    unfolding both
    both_second e q = next_on _ _ (a, after) one ∙ next_stop _ _ e q

-- the fault that `?` hands on is the reading's
fault_on : {X S : Type 0} {s : Result S Fault} (P : X → Type 0) (r : Result X Fault) {e : Fault} → IsErrAnd r (λ d. d ≡ e) → s ≡ Err e → MatchResult r P (λ d. s ≡ Err d)
fault_on P (Ok x) h q = absurd h
fault_on P (Err d) h q = q ∙ ap Err (sym h)

-- a kind, and two things behind it: all are read, or `?` hands on the fault of the first that is not
module _ {A B : Type 0} (k : ℕ) (f : Format A) (g : Format B) {bs : Bytes} where
  pub pair_on : {r0 r1 rest : Bytes} {a : A} {b : B} → bs ≡ k ∷ r0 → f.read r0 ≡ Ok (a, r1) → g.read r1 ≡ Ok (b, rest) → (behind k (both f g)).read bs ≡ Ok ((a, b), rest)
  pair_on kind one two = behind_on (both f g) k _ _ kind ∙ both_on f g _ _ _ one _ _ two

  module _ {X : Type 0} (P : X → Type 0) (r : Result X Fault) {e : Fault} (h : IsErrAnd r (λ d. d ≡ e)) where
    pub pair_kind : (e ≡ Shape) × ((rest : Bytes) → bs ≡ k ∷ rest → ⊥) → MatchResult r P (λ d. (behind k (both f g)).read bs ≡ Err d)
    pair_kind other = fault_on P r h (behind_told (both f g) k bs e other)

    pub pair_first : {r0 : Bytes} → bs ≡ k ∷ r0 → f.read r0 ≡ Err e → MatchResult r P (λ d. (behind k (both f g)).read bs ≡ Err d)
    pair_first kind q = fault_on P r h (behind_on (both f g) k _ _ kind ∙ both_first f g _ e q)

    pub pair_second : {r0 r1 : Bytes} {a : A} → bs ≡ k ∷ r0 → f.read r0 ≡ Ok (a, r1) → g.read r1 ≡ Err e → MatchResult r P (λ d. (behind k (both f g)).read bs ≡ Err d)
    pair_second kind one q = fault_on P r h (behind_on (both f g) k _ _ kind ∙ both_second f g _ _ _ one e q)

-- something and its MAC
module _ {A : Type 0} (f : Format A) (bs : Bytes) where
  pub maced_first : (e : Fault) → f.read bs ≡ Err e → (maced f).read bs ≡ Err e
  maced_first e q = named_stop (both f mac) _ _ bs e (both_first f mac bs e q)

  module _ (a : A) (after : Bytes) (one : f.read bs ≡ Ok (a, after)) where
    pub maced_on : (m rest : Bytes) → mac.read after ≡ Ok (m, rest) → (maced f).read bs ≡ Ok (record { of = a; mac = m }, rest)
    maced_on m rest two = named_on (both f mac) _ _ bs (a, m) rest (both_on f mac bs a after one m rest two)

    pub maced_second : (e : Fault) → mac.read after ≡ Err e → (maced f).read bs ≡ Err e
    maced_second e q = named_stop (both f mac) _ _ bs e (both_second f mac bs a after one e q)

-- Several things of one format, read and written one by one. Assumes nothing.
use Rattle.std.proofs.Common.{◌≡◌, ℕ, suc, ◌-◌, ◌<◌, ◌≤◌, ltb, List, [], ◌∷◌, ◌++◌, length, take, drop, Some, None, Ok, Err, Option, Result, sym, refl, ap, ◌∙◌, IsSome, append_assoc, append-nil, arith}
use Rattle.std.proofs.lemmas.Bool.{cond-true, cond-false, lt-ltb, le-ltb}
use Rattle.std.proofs.lemmas.List.{take_at}
use Rattle.narrow.specs.Term.{Bytes}
use Rattle.numbers.specs.Lent.{WritesFront}
use Rattle.lines.specs.declared.Fault.{Fault}
use Rattle.lines.specs.declared.Fault.TheVariants.{Shape, TooMany}
use Rattle.rows.specs.Rowing.{next}
use Rattle.rows.proofs.Exactly.{next_on, next_stop}
use Rattle.codec.specs.Format.{Format, read_several, read_counted, counted}

-- what was read before, and then what is read
abbrev pub after : {A : Type 0} → List A → Result (List A × Bytes) Fault → Result (List A × Bytes) Fault
after xs r = next r (λ m. Ok (xs ++ m.0, m.1))

after_one : {A : Type 0} (xs : List A) (y : A) (r : Result (List A × Bytes) Fault) → after xs (next r (λ m. Ok (y ∷ m.0, m.1))) ≡ after (xs ++ y ∷ []) r
after_one xs y (Ok m) = λ i. Ok (sym (append_assoc xs (y ∷ []) m.0) i, m.1)
after_one xs y (Err e) = refl

pub after_none : {A : Type 0} (r : Result (List A × Bytes) Fault) → after [] r ≡ r
after_none (Ok m) = refl
after_none (Err e) = refl

module _ {A : Type 0} (f : Bytes → Result (A × Bytes) Fault) where
  one_more : (n : ℕ) (bs : Bytes) → 0 < n → read_several f n bs ≡ next (f bs) (λ a. next (read_several f (n - 1) a.1) (λ m. Ok (a.0 ∷ m.0, m.1)))
  unfolding read_several
  one_more n bs h = let one : n ≡ suc (n - 1) = omega arith in ap (λ (k : ℕ). read_several f k bs) one

  module _ (n : ℕ) (xs : List A) (bs : Bytes) (left : 0 < n) where
    pub after_on : (y : A) (rest : Bytes) → f bs ≡ Ok (y, rest) → after xs (read_several f n bs) ≡ after (xs ++ y ∷ []) (read_several f (n - 1) rest)
    after_on y rest e = ap (after xs) (one_more n bs left ∙ next_on _ _ (y, rest) e) ∙ after_one xs y (read_several f (n - 1) rest)

    pub after_stop : (e : Fault) → f bs ≡ Err e → after xs (read_several f n bs) ≡ Err e
    after_stop e q = next_stop _ _ e (one_more n bs left ∙ next_stop _ _ e q)

  pub after_done : (n : ℕ) (xs : List A) (bs : Bytes) → n ≡ 0 → after xs (read_several f n bs) ≡ Ok (xs, bs)
  unfolding read_several
  after_done n xs bs e = ap (λ (k : ℕ). after xs (read_several f k bs)) e ∙ λ i. Ok (append-nil xs i, bs)

-- a count, and what it allows
module _ {A : Type 0} (f : Format A) (most : ℕ) (bs : Bytes) where
  pub count_none : length bs < 1 → (counted most f).read bs ≡ Err Shape
  unfolding counted
  count_none = none bs
    where
      none : (b : Bytes) → length b < 1 → read_counted most f.read b ≡ Err Shape
      none [] h = refl
      none (b ∷ c) h = absurd (omega arith)

  module _ (n : ℕ) (rest : Bytes) (e : bs ≡ n ∷ rest) where
    pub count_many : most < n → (counted most f).read bs ≡ Err TooMany
    unfolding counted
    count_many h = ap (read_counted most f.read) e ∙ cond-true (ltb most n) _ _ (lt-ltb most n h)

    pub count_on : n ≤ most → (counted most f).read bs ≡ read_several f.read n rest
    unfolding counted
    count_on h = ap (read_counted most f.read) e ∙ cond-false (ltb most n) _ _ (le-ltb most n h)

-- what was written over a room of just its size
pub written_all : (bs before now : Bytes) (r : Option ℕ) (size : ℕ) (behind : Bytes) → WritesFront bs before now r → length before ≡ length bs → size ≡ length bs → take size (now ++ behind) ≡ bs
written_all bs before now None size behind (h, e) same is = absurd (omega arith)
written_all bs before now (Some n) size behind (h, fits, e) same is =
    ap (λ (b : Bytes). take size (b ++ behind)) e ∙ (ap (take size) (append_assoc bs (drop n before) behind) ∙ take_at bs (drop n before ++ behind) size (sym is))

-- there is room for what is written into just its size
pub written_whole : (bs before now : Bytes) (r : Option ℕ) → WritesFront bs before now r → length before ≡ length bs → IsSome r
written_whole bs before now None (h, e) same = absurd (omega arith)
written_whole bs before now (Some n) h same = refl

-- a kind, a part, another, then a count and what follows it, laid down one after the other
pub laid_shown : (out0 out1 out2 out3 out4 out5 : Bytes) (k n n' : ℕ) (one one' two three : Bytes) → out0 ≡ [] → out1 ≡ out0 ++ k ∷ [] →
    out2 ≡ out1 ++ one' → one' ≡ one → out3 ≡ out2 ++ two → out4 ≡ out3 ++ n' ∷ [] → n' ≡ n → out5 ≡ out4 ++ three →
    out5 ≡ k ∷ (one ++ (two ++ (n ∷ three)))
laid_shown out0 out1 out2 out3 out4 out5 k n n' one one' two three e0 e1 e2 i2 e3 e4 i4 e5 =
    let first : out1 ≡ k ∷ [] = e1 ∙ ap (λ (b : Bytes). b ++ k ∷ []) e0 in
    let second : out2 ≡ k ∷ one = e2 ∙ λ i. first i ++ i2 i in
    let third : out3 ≡ k ∷ (one ++ two) = e3 ∙ ap (λ (b : Bytes). b ++ two) second in
    let fourth : out4 ≡ k ∷ ((one ++ two) ++ n ∷ []) = e4 ∙ λ i. third i ++ i4 i ∷ [] in
    e5 ∙ (ap (λ (b : Bytes). b ++ three) fourth ∙ ap (λ (b : Bytes). k ∷ b) (append_assoc (one ++ two) (n ∷ []) three ∙ append_assoc one two (n ∷ three)))

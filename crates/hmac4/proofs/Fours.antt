-- Four requests and their MACs, place by place.
-- Assumes nothing.
use Rattle.std.proofs.Common.{◌≡◌, ℕ, zero, suc, ◌<◌, List, [], ◌∷◌, map, length, get_or, sym, refl, ap, ◌∙◌, subst, arith}
use Rattle.sha256.specs.Blocks.{remaining}
use Rattle.sha256.specs.Sha256.{words}
use Rattle.sha256.proofs.Absorbing.{words_length}
use Rattle.hmac4.specs.Lanes.{IsKeyOf, lane}
use Rattle.hmac4.specs.declared.Request.{Request}

-- lane l has the key and the message of request l
pub record Served (keys blocks : List (List ℕ)) (l : ℕ) (r : Request) : Type 0 where
  pub key : IsKeyOf r.key.bytes (lane l keys)
  pub short : length r.message.now < 56
  pub block : lane l blocks ≡ words 16 (remaining 64 r.message.now)

abbrev pub Lane : List Request → List (List ℕ) → List (List ℕ) → ℕ → Type 0
Lane rs keys blocks l = (r : Request) → Served keys blocks l (get_or rs l r)

pub lane_is : (rs : List Request) (keys blocks : List (List ℕ)) (l : ℕ) (x y : Request) (kw block : List ℕ) → ((d : Request) → get_or rs l d ≡ x) → ((d : Request) → get_or rs l d ≡ y) → (length x.message.now < 56) × (block ≡ words 16 (remaining 64 x.message.now)) → IsKeyOf y.key.bytes kw → (length kw ≡ 8 → lane l keys ≡ kw) → (length block ≡ 16 → lane l blocks ≡ block) → Lane rs keys blocks l
lane_is rs keys blocks l x y kw block ex ey s k ek eb r =
    let same : y ≡ x = sym (ey r) ∙ ex r in
    let nk : lane l keys ≡ kw = ek (ap length k.words_are ∙ words_length 8 y.key.bytes) in
    let nb : lane l blocks ≡ block = eb (ap length s.1 ∙ words_length 16 (remaining 64 x.message.now)) in
    rw (ex r) (record { key = rw nk (subst (λ (z : Request). IsKeyOf z.key.bytes kw) same k); short = s.0; block = nb ∙ s.1 })

pub maps_agree : {A B : Type 0} {C : Type 0} (f : A → C) (g : B → C) (xs : List A) (ys : List B) → length xs ≡ length ys → ((i : ℕ) (a : A) (b : B) → i < length xs → f (get_or xs i a) ≡ g (get_or ys i b)) → map f xs ≡ map g ys
maps_agree f g [] [] n same = refl
maps_agree f g [] (y ∷ ys) n same = cc
maps_agree f g (x ∷ xs) [] n same = cc
maps_agree f g (x ∷ xs) (y ∷ ys) n same =
    let more = maps_agree f g xs ys (omega arith) (λ i a b h. same (suc i) a b (omega arith)) in
    rw (same 0 x y (omega arith), more) refl

pub below_four : (P : ℕ → Type 0) → P 0 → P 1 → P 2 → P 3 → (l : ℕ) → l < 4 → P l
below_four P a b c d zero h = a
below_four P a b c d (suc zero) h = b
below_four P a b c d (suc (suc zero)) h = c
below_four P a b c d (suc (suc (suc zero))) h = d
below_four P a b c d (suc (suc (suc (suc l)))) h = absurd (omega arith)

use Rattle.std.proofs.Common.{◌≡◌, ℕ, ◌<◌, List, [], ◌∷◌, get_or, sym, refl, ap, ◌∙◌, rules}
use Rattle.std.proofs.lemmas.List.{ext_get_or, get_or-map, length-map}
use Rattle.sha256.proofs.FromFn.{from_fn_gives}
use Rattle.hmac4.specs.Lanes.{lane}
use Rattle.hmac4.proofs.Fours.{below_four}
use Rattle.hmac4.proofs.lanes.gather.Goals as goal

pub returns : goal.returns
returns g c =
    let n : ℕ = g.row.N in
    let vs = c.from_fn.result in
    let made = c.from_fn.ensures.items in
    let rows = c.args.rows in
    let at : ℕ → List ℕ = λ i. get_or (get_or rows 0 []) i 0 ∷ get_or (get_or rows 1 []) i 0 ∷ get_or (get_or rows 2 []) i 0 ∷ get_or (get_or rows 3 []) i 0 ∷ [] in
    let each : (i : ℕ) → i < n → get_or vs i [] ≡ at i = λ i k. from_fn_gives _ at vs _ n (λ j y q call. search rules) made.each i [] k in
    let same : (l : ℕ) → l < 4 → (i : ℕ) → get_or (at i) l 0 ≡ get_or (get_or rows l []) i 0 =
    below_four (λ l. (i : ℕ) → get_or (at i) l 0 ≡ get_or (get_or rows l []) i 0) (λ i. refl) (λ i. refl) (λ i. refl) (λ i. refl) in
    λ l h long.
    ext_get_or 0 (lane l vs) (get_or rows l []) (length-map vs (λ v. get_or v l 0) ∙ made.long ∙ sym long) (λ i j.
    let k : i < n = rw (length-map, made.long) at j in
    get_or-map (λ v. get_or v l 0) vs i [] 0 (rw made.long k) ∙ ap (λ v. get_or v l 0) (each i k) ∙ same l h i)

use Rattle.std.proofs.Common.{◌≡◌, ℕ, ◌<◌, [], length, get_or, ◌∙◌, ap, sym, lit<, rules}
use Rattle.hmac.specs.declared.Mac.{Mac}
use Rattle.hmac.specs.Hmac.{hmac_of}
use Rattle.sha256.specs.Blocks.{remaining}
use Rattle.sha256.specs.Sha256.{words, bytes}
use Rattle.sha256.proofs.FromFn.{from_fn_gives}
use Rattle.hmac4.specs.Lanes.{IsKeyOf, lane}
use Rattle.hmac4.specs.declared.Request.{Request}
use Rattle.hmac4.proofs.Fours.{Lane, lane_is, maps_agree, below_four}
use Rattle.hmac4.proofs.mac_four.Goals as goal

pub returns : goal.returns
returns c =
    let rs = c.args.requests in
    let n : length rs ≡ 4 = search rules in
    let r₀ = c.map.ensures.items.each in
    let r₁ = r₀.6 in
    let r₂ = r₁.6 in
    let r₃ = r₂.6 in
    let s₀ : (length r₀.1.message.now < 56) × (c.in-Some.p ≡ words 16 (remaining 64 r₀.1.message.now)) = search rules in
    let s₁ : (length r₁.1.message.now < 56) × (c.in-Some.q ≡ words 16 (remaining 64 r₁.1.message.now)) = search rules in
    let s₂ : (length r₂.1.message.now < 56) × (c.in-Some.r ≡ words 16 (remaining 64 r₂.1.message.now)) = search rules in
    let s₃ : (length r₃.1.message.now < 56) × (c.in-Some.s ≡ words 16 (remaining 64 r₃.1.message.now)) = search rules in
    let k₀ = c.map-keys.ensures.items.each in
    let k₁ = k₀.6 in
    let k₂ = k₁.6 in
    let k₃ = k₂.6 in
    let i₀ : IsKeyOf k₀.1.key.bytes k₀.2 = search rules in
    let i₁ : IsKeyOf k₁.1.key.bytes k₁.2 = search rules in
    let i₂ : IsKeyOf k₂.1.key.bytes k₂.2 = search rules in
    let i₃ : IsKeyOf k₃.1.key.bytes k₃.2 = search rules in
    let lanes : (l : ℕ) → l < 4 → Lane rs c.gather.result c.gather-2.result l = below_four (Lane rs c.gather.result c.gather-2.result)
    (lane_is rs c.gather.result c.gather-2.result 0 _ _ _ _ r₀.3.1 k₀.3.1 s₀ i₀ (λ n. c.gather.ensures 0 (lit< tt) (rw (k₀.4.1 []) n) ∙ k₀.4.1 []) (c.gather-2.ensures 0 (lit< tt)))
    (lane_is rs c.gather.result c.gather-2.result 1 _ _ _ _ r₁.3.1 k₁.3.1 s₁ i₁ (λ n. c.gather.ensures 1 (lit< tt) (rw (k₁.4.1 []) n) ∙ k₁.4.1 []) (c.gather-2.ensures 1 (lit< tt)))
    (lane_is rs c.gather.result c.gather-2.result 2 _ _ _ _ r₂.3.1 k₂.3.1 s₂ i₂ (λ n. c.gather.ensures 2 (lit< tt) (rw (k₂.4.1 []) n) ∙ k₂.4.1 []) (c.gather-2.ensures 2 (lit< tt)))
    (lane_is rs c.gather.result c.gather-2.result 3 _ _ _ _ r₃.3.1 k₃.3.1 s₃ i₃ (λ n. c.gather.ensures 3 (lit< tt) (rw (k₃.4.1 []) n) ∙ k₃.4.1 []) (c.gather-2.ensures 3 (lit< tt))) in
    let mac : ℕ → Mac = λ l. record { bytes = bytes (lane l c.macs-v.result) } in
    let macs : (l : ℕ) (d : Mac) → l < 4 → get_or c.from_fn.result l d ≡ mac l = λ l d h. from_fn_gives _ mac c.from_fn.result _ 4 (λ j y q call. search rules) c.from_fn.ensures.items.each l d h in
    maps_agree (λ (m : Mac). m.bytes) (λ (r : Request). hmac_of r.key.bytes r.message.now) c.from_fn.result rs (c.from_fn.ensures.items.long ∙ sym n) (λ l d r h.
    let k : l < 4 = rw c.from_fn.ensures.items.long at h in
    let x : Request = get_or rs l r in
    let it = lanes l k r in
    ap (λ (m : Mac). m.bytes) (macs l d k) ∙ c.macs-v.ensures l x.key.bytes x.message.now k it.key it.short it.block)

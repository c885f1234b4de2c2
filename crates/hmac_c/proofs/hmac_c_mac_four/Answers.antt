use Rattle.std.proofs.Common.{◌≡◌, List, ℕ, ◌*◌, ◌/◌, ◌<◌, [], ◌∷◌, length, get_or, take, drop, map, ap, ◌∙◌, lit<, arith, rules}
use Rattle.std.proofs.lemmas.List.{append-nil}
use Rattle.std.specs.List.{flat_map}
use Rattle.hmac.specs.declared.Mac.{Mac}
use Rattle.hmac.specs.Hmac.{hmac_of}
use Rattle.sha256.proofs.Absorbing.{chunk_at}
use Rattle.sha256.proofs.FromFn.{map_gives}
use Rattle.hmac_c.proofs.hmac_c_mac_four.Goals as goal

pub returns-clause-value : goal.returns-clause-value
returns-clause-value c =
    let k : List ℕ = c.args.keys.now in
    let macs = c.mac_four-macs.result in
    let bytes : Mac → List ℕ = λ m. m.bytes in
    let made : c.map.result ≡ map bytes macs = map_gives _ bytes macs c.map.result _ 4 (record { bytes = [] }) [] (search rules) (λ x y q call. search rules) c.map.ensures.items in
    let four_keys : length c.as_chunks.result.0.now ≡ 4 = search rules in
    let at : (i : ℕ) → i < 4 → get_or c.as_chunks.result.0.now i [] ≡ take 32 (drop (32 * i) k) = λ i h. rw c.as_chunks.ensures.front (chunk_at 32 (length k / 32) i k [] (omega (arith, four_keys, c.as_chunks.ensures.front_len))) in
    let four : map bytes macs ≡ hmac_of (take 32 k) c.args.a.now ∷ hmac_of (take 32 (drop 32 k)) c.args.b.now ∷ hmac_of (take 32 (drop 64 k)) c.args.c.now ∷ hmac_of (take 32 (drop 96 k)) c.args.d.now ∷ [] =
    c.mac_four-macs.ensures
    ∙ rw (c.request.ensures.key, c.request.ensures.message, c.request-2.ensures.key, c.request-2.ensures.message, c.request-3.ensures.key, c.request-3.ensures.message, c.request-4.ensures.key, c.request-4.ensures.message) (cc (at 0 (lit< tt), at 1 (lit< tt), at 2 (lit< tt), at 3 (lit< tt))) in
    c.copy_from_slice.ensures.after ∙ c.as_flattened.ensures.value ∙ ap (flat_map (λ x. x)) (made ∙ four) ∙ rw append-nil

use Rattle.std.proofs.Common.{◌≡◌, ℕ, ◌<◌, [], ◌∷◌, length, get_or, sym, ◌∙◌, rules}
use Rattle.sha256.specs.Sha256.{bytes}
use Rattle.sha256.proofs.Bytes.{bytes_flat}
use Rattle.sha256.proofs.words.to_bytes.Goals as goal

pub returns : goal.returns
unfolding bytes
returns c =
    let v = c.args.v in
    let made = c.map.ensures.items in
    let n : length v ≡ 8 = search rules in
    let each : (i : ℕ) → i < length v → get_or c.map.result i [] ≡ bytes (get_or v i 0 ∷ []) = λ i h. let l : i < 8 = rw n at h in let call = made.at i 0 [] l in search rules in
    c.copy_from_slice.ensures.after ∙ c.as_flattened.ensures.value ∙ bytes_flat c.map.result v (made.long ∙ sym n) each

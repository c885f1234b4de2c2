use Rattle.std.proofs.Common.{◌≡◌, ℕ, ◌-◌, ◌*◌, ◌/◌, ◌%◌, ◌^◌, List, length, replicate, ◌∙◌, rules}
use lib.Bits.{bit_or}
use lib.Lanes.{zip2}
use Rattle.std.proofs.lemmas.Simd.{length-zip2}
use Rattle.sha256.proofs.Lanes.{zip_at, zip_splat_at}
use Rattle.sha256.proofs.word.U32x4Word.rotate_right.Goals as goal

pub returns : goal.returns
returns c l m =
    let v = c.args.self in
    let k : ℕ = c.args.n in
    let n : length v ≡ 4 = search rules in
    let right : List ℕ = zip2 (λ a b. a / 2 ^ b) v (replicate 4 k) in
    let left : List ℕ = zip2 (λ a b. (a * 2 ^ b) % 2 ^ 32) v (replicate 4 (32 - k)) in
    let nr : length right ≡ 4 = length-zip2 _ v (replicate 4 k) n ∙ n in
    let nl : length left ≡ 4 = length-zip2 _ v (replicate 4 (32 - k)) n ∙ n in
    let r = zip_splat_at (λ a b. a / 2 ^ b) v 4 k l n m in
    let e = zip_splat_at (λ a b. (a * 2 ^ b) % 2 ^ 32) v 4 (32 - k) l n m in
    zip_at bit_or right left 4 l nr nl m ∙ rw (r, e)

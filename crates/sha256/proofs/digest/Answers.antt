use Rattle.std.proofs.Common.{◌≡◌, ◌+◌, length, zero-add}
use Rattle.sha256.specs.Blocks.{remaining, finished}
use Rattle.sha256.specs.Sha256.{padded, sha256}
use Rattle.sha256.proofs.Laws.{padded_whole, sha256_length, sha256_bytes}
use Rattle.sha256.proofs.digest.Goals as goal

pub returns : goal.returns
unfolding sha256 padded finished remaining
returns c =
    let m = c.args.message.now in
    let z : 0 + length m ≡ length m = zero-add (length m) in
    record { value = cc; bytes = (sha256_length m, sha256_bytes m); whole = padded_whole m }

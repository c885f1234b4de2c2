-- Laws of HMAC, for callers that cite its definition without opening it.
-- Assumes nothing.
use Rattle.std.proofs.Common.{◌≡◌, ℕ, ◌<◌, List, ◌++◌, length, get_or}
use Rattle.sha256.specs.Sha256.{sha256}
use Rattle.sha256.proofs.Laws.{sha256_length, sha256_bytes}
use Rattle.hmac.specs.Hmac.{mixed, hmac_of}

-- a MAC has 32 bytes
pub hmac_length : (key m : List ℕ) → length (hmac_of key m) ≡ 32
unfolding hmac_of
hmac_length key m = sha256_length (mixed 0x5c key ++ sha256 (mixed 0x36 key ++ m))

pub hmac_bytes : (key m : List ℕ) (i : ℕ) → get_or (hmac_of key m) i 0 < 256
unfolding hmac_of
hmac_bytes key m i = sha256_bytes (mixed 0x5c key ++ sha256 (mixed 0x36 key ++ m)) i

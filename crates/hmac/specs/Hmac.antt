-- HMAC-SHA-256 (RFC 2104) under a key of at most 64 bytes.
-- Assumes nothing.
use Rattle.std.specs.Prelude.{ℕ, ◌-◌, List, ◌++◌, map, length, replicate, bit_xor}
use Rattle.sha256.specs.Sha256.{sha256}

-- the key, with zeros up to a block, each byte xor c
unfoldable pub mixed : ℕ → List ℕ → List ℕ
mixed c key = map (λ b. bit_xor b c) (key ++ replicate (64 - length key) 0)

-- the outer hash of the inner one
unfoldable pub hmac_of : List ℕ → List ℕ → List ℕ
hmac_of key message = sha256 (mixed 0x5c key ++ sha256 (mixed 0x36 key ++ message))

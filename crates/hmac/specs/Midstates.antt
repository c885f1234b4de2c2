-- HMAC taken up after the key's block, as the code carries it.
-- Assumes nothing.
use Rattle.std.specs.Prelude.{◌≡◌, ℕ, List, length}
use Rattle.sha256.specs.Constants.{initial}
use Rattle.sha256.specs.Sha256.{words, compressed, bytes}
use Rattle.hmac.specs.Hmac.{mixed}
use Rattle.sha256.specs.Blocks.{finished}

-- the hash value after the block of a key that is mixed with c
unfoldable pub midstate : ℕ → List ℕ → List ℕ
midstate c key = compressed initial (words 16 (mixed c key))

-- the MAC of a message, from the hash values after the key's inner and outer block
unfoldable pub mac_from : List ℕ → List ℕ → List ℕ → List ℕ
mac_from inner outer message = bytes (finished 64 (bytes (finished 64 message inner)) outer)

-- the two hash values of a key of 32 bytes
pub record Midstates (key inner outer : List ℕ) : Type 0 where
  pub long : length key ≡ 32
  pub inner_is : inner ≡ midstate 0x36 key
  pub outer_is : outer ≡ midstate 0x5c key

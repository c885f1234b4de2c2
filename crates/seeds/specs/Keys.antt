-- The keys of a house that a script plays, all worked out from one word. Assumes nothing.
use Rattle.std.specs.Prelude.{List, ℕ, codes}
use Rattle.sha256.specs.Sha256.{sha256}
use Rattle.hmac.specs.Hmac.{hmac_of}

-- the house's own key: the HMAC, under the digest of the seed, of the word house
abbrev pub house_key : List ℕ → List ℕ
house_key seed = hmac_of (sha256 seed) (codes "house")

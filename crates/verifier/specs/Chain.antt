-- A row of messages, each MACed under the MAC before, in bytes. Assumes nothing.
use Rattle.std.specs.Prelude.{List, [], ◌∷◌}
use Rattle.narrow.specs.Term.{Bytes}
use Rattle.hmac.specs.Hmac.{hmac_of}

unfoldable pub chained : Bytes → List Bytes → Bytes
chained k [] = k
chained k (m ∷ ms) = chained (hmac_of k m) ms

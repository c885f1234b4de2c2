-- The key that a kept pair of midstates was made of.
-- Assumes nothing.
use Rattle.std.specs.Prelude.{ℕ, List}
use Rattle.hmac.specs.declared.Key.{Key}
use Rattle.hmac.specs.Midstates.{Midstates}

-- the kept midstates are those of this key
abbrev pub Keyed : List ℕ → Key → Type 0
Keyed bytes key = Midstates bytes key.inner key.outer

-- The keys of the code, as an entry of its map and by themselves. Assumes nothing.
use Rattle.std.specs.Prelude.{List, map, Option}
use Rattle.std.specs.Option.{option_map}
use Rattle.narrow.specs.Term.{Bytes}
use Rattle.hmac.specs.declared.Mac.{Mac}
use Rattle.parts.specs.declared.KeyNumber.{KeyNumber}
use Rattle.tickets.specs.declared.YesKey.{YesKey}
use Rattle.book.specs.Keys.{KeyView}

-- a key's number and secret
abbrev pub key_view : YesKey → KeyView
key_view k = (k.number.number, k.secret.bytes)

abbrev pub entry_view : KeyNumber × Mac → KeyView
entry_view e = (e.0.number, e.1.bytes)

-- the entries, in their order
abbrev pub keys_view : List (KeyNumber × Mac) → List KeyView
keys_view es = map entry_view es

-- a secret, if there is one
abbrev pub secret_view : Option Mac → Option Bytes
secret_view s = option_map (λ m. m.bytes) s

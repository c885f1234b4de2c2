-- The house that a script opens, by its key. Assumes nothing.
use Rattle.std.specs.Prelude.{ℕ, List, [], ◌∷◌, Some, None, Option}
use Rattle.script.specs.Rules.{Said, house_of}
use Rattle.seeds.specs.Keys.{house_key}
use Rattle.office.specs.declared.house.House.{House}

-- the house's key, by its bytes
abbrev pub key_of : House → List ℕ
key_of h = h.key.bytes

-- the key that a statement opens the house with
abbrev pub key_said : Said → List ℕ
key_said (house_of seed) = house_key seed

-- the key of the house, by the first statement, which is the only one that opens it
abbrev pub opened : List (ℕ × Said) → Option (List ℕ)
opened [] = None
opened (s ∷ ss) = Some (key_said s.1)

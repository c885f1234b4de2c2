-- The bytes that a short row holds. Assumes nothing.
use Rattle.std.specs.Prelude.{ℕ, List, take}
use Rattle.parts.specs.declared.short.Short.{Short}

-- the code's rows of museums, and its names
abbrev pub Museums : Type 0
Museums = Short 1 8 1 200

abbrev pub Name : Type 0
Name = Short 0 32 97 122

abbrev pub items : {least most low high : ℕ} → Short least most low high → List ℕ
items s = take s.count s.bytes

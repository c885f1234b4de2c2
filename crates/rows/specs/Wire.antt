-- A row of lines as it is carried: each line behind its length. Assumes nothing.
use Rattle.std.specs.Prelude.{ℕ, zero, suc, List, [], ◌∷◌, ◌++◌, length, take, drop}
use Rattle.narrow.specs.Term.{Bytes}

unfoldable pub wire : List Bytes → Bytes
wire [] = []
wire (l ∷ ls) = length l ∷ l ++ wire ls

-- the lines of what is carried, of which there are so many
unfoldable pub unwired : ℕ → Bytes → List Bytes
unwired zero bs = []
unwired (suc n) [] = [] ∷ unwired n []
unwired (suc n) (k ∷ bs) = take k bs ∷ unwired n (drop k bs)

-- Tests and searches over rows. Assumes nothing.
use Rattle.std.specs.Prelude.{Bool, true, false, ◌&&◌, ◌||◌, List, [], ◌∷◌, ◌++◌, None, Option}
use Rattle.std.specs.Option.{option_or, option_to_list}

-- the test passes somewhere in the row
unfoldable pub any : {A : Type 0} → (A → Bool) → List A → Bool
any f [] = false
any f (x ∷ xs) = f x || any f xs

-- the test passes everywhere in the row
unfoldable pub all : {A : Type 0} → (A → Bool) → List A → Bool
all f [] = true
all f (x ∷ xs) = f x && all f xs

-- the first value that an element of the row gives
unfoldable pub first : {A B : Type 0} → (A → Option B) → List A → Option B
first f [] = None
first f (x ∷ xs) = option_or (f x) (first f xs)

-- all values that elements of the row give, in order
unfoldable pub gather : {A B : Type 0} → (A → Option B) → List A → List B
gather f [] = []
gather f (x ∷ xs) = option_to_list (f x) ++ gather f xs

-- the two rows are equal, by a test of their elements
unfoldable pub same_row : {A : Type 0} → (A → A → Bool) → List A → List A → Bool
same_row f [] [] = true
same_row f [] (y ∷ ys) = false
same_row f (x ∷ xs) [] = false
same_row f (x ∷ xs) (y ∷ ys) = f x y && same_row f xs ys

-- the first row begins with the second
unfoldable pub begins_with : {A : Type 0} → (A → A → Bool) → List A → List A → Bool
begins_with f xs [] = true
begins_with f [] (y ∷ ys) = false
begins_with f (x ∷ xs) (y ∷ ys) = f x y && begins_with f xs ys

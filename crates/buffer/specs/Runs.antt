-- Runs of bytes.
use Rattle.std.specs.Prelude.{ℕ, ◌+◌, Bool, true, false, ◌&&◌, List, [], ◌∷◌, ◌++◌, length, take, drop, eqb}

-- out with the run written from place at on: what is before and after it stays
unfoldable pub over : {A : Type 0} → ℕ → List A → List A → List A
over at run out = take at out ++ run ++ drop (at + length run) out

-- two runs are the same
unfoldable pub same : List ℕ → List ℕ → Bool
same [] [] = true
same [] (y ∷ ys) = false
same (x ∷ xs) [] = false
same (x ∷ xs) (y ∷ ys) = eqb x y && same xs ys

-- every byte is v
unfoldable pub all_are : ℕ → List ℕ → Bool
all_are v [] = true
all_are v (x ∷ xs) = eqb x v && all_are v xs

-- Returns the sum of the bytes.
unfoldable pub sum : List ℕ → ℕ
sum [] = 0
sum (x ∷ xs) = x + sum xs

-- Document 02, request 5: "a program that prints it, one digit a line".
use Rattle.std.specs.Prelude.{List, [], ◌∷◌, ◌++◌, ℕ, zero, suc, ◌+◌}
use Rattle.parity.specs.Bits.{parity_of}

-- Returns a line: the digit of entry v, and a newline.
abbrev pub line : ℕ → List ℕ
line v = (48 + parity_of v) ∷ 10 ∷ []

-- Returns the lines of entries 0 to n - 1.
unfoldable pub lines : ℕ → List ℕ
lines zero = []
lines (suc n) = lines n ++ line n

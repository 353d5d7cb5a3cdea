-- The Adler-32 sum: "A is 1 and the sum of all bytes, B the sum of the values of A after each byte, both modulo 65521".
use Rattle.std.specs.Prelude.{ℕ, ◌+◌, ◌*◌, ◌%◌, List, [], ◌∷◌}

-- of the bytes that are left, where those before gave a and b
unfoldable pub adler_from : ℕ → ℕ → List ℕ → ℕ
adler_from a b [] = b % 65521 * 65536 + a % 65521
adler_from a b (x ∷ xs) = adler_from (a + x) (b + (a + x)) xs

abbrev pub adler_of : List ℕ → ℕ
adler_of s = adler_from 1 0 s

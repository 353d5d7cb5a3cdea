-- Document 02, request 5: "The bus carries one bit of odd parity".
use Rattle.std.specs.Prelude.{◌≡◌, Bool, cond, ℕ, zero, suc, ◌+◌, ◌*◌, ◌/◌, ◌%◌, ◌^◌, ◌<◌, eqb}

-- Returns bit k of v, 0 or 1. Bit 0 is the lowest.
abbrev pub bit_at : ℕ → ℕ → ℕ
bit_at k v = v / 2 ^ k % 2

-- Returns how many of the n lowest bits of v are ones.
unfoldable pub ones_among : ℕ → ℕ → ℕ
ones_among zero v = 0
ones_among (suc n) v = ones_among n v + bit_at n v

-- Says whether the byte v "has an even number of ones".
abbrev pub has_even_ones : ℕ → Bool
has_even_ones v = eqb (ones_among 8 v % 2) 0

-- Returns the parity bit of the byte v, entry v of the table: "1 exactly when v has an even number of ones".
abbrev pub parity_of : ℕ → ℕ
parity_of v = cond (has_even_ones v) 1 0

-- ON THE BUS

-- Returns the nine bits that the bus carries, as one number: the byte v, and above it the bit p as bit 8.
abbrev pub nine_bits : ℕ → ℕ → ℕ
nine_bits v p = v + 256 * p

-- Says that of the n lowest bits of w and x bit j differs, and no other.
pub record DifferAt (n j w x : ℕ) : Type 0 where
  pub within : j < n
  pub there : bit_at j w ≡ bit_at j x → ⊥
  pub elsewhere : (k : ℕ) → k < n → (k ≡ j → ⊥) → bit_at k w ≡ bit_at k x

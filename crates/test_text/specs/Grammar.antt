-- The bytes of a line as the format has them, whole: what the reader makes of them one character at a time is in Reading.
use Rattle.std.specs.Prelude.{ℕ, ◌+◌, ◌-◌, ◌*◌, Bool, true, cond, ◌&&◌, List, [], ◌∷◌, eqb, Option, Some, None, Result, Ok, Err}
use Rattle.test_text.specs.Reading.{within, hex_digit, Keep, kept_of}
use Rattle.test_text.specs.declared.Fault.{Fault}
use Rattle.test_text.specs.declared.Fault.TheVariants as fault
use Rattle.test_text.specs.declared.Run.{Run}

unfoldable pub are_digits : List ℕ → Bool
are_digits [] = true
are_digits (ch ∷ cs) = within 48 57 ch && are_digits cs

-- the decimal number n with more digits
unfoldable pub value_of : ℕ → List ℕ → ℕ
value_of n [] = n
value_of n (ch ∷ cs) = value_of (n * 10 + (ch - 48)) cs

-- "HH*N, that byte N times (N decimal, 1 to 4096)"; n is the number of the digits before
unfoldable pub count_of : ℕ → ℕ → List ℕ → Result Run Fault
count_of b n cs = cond (are_digits cs && within 1 4096 (value_of n cs)) (Ok (record { byte = b; times = value_of n cs })) (Err fault.Count)

-- "HH, a byte in hex (either case)"
abbrev pub after_byte : ℕ → List ℕ → Result Run Fault
after_byte b [] = Ok (record { byte = b; times = 1 })
after_byte b (ch ∷ cs) = cond (eqb ch 42) (count_of b 0 cs) (Err fault.Byte)

abbrev pub byte_of : Option ℕ → Option ℕ → List ℕ → Result Run Fault
byte_of (Some h) (Some l) cs = after_byte (16 * h + l) cs
byte_of (Some h) None cs = Err fault.Byte
byte_of None d cs = Err fault.Byte

abbrev pub token_of : List ℕ → Result Run Fault
token_of [] = Err fault.Byte
token_of (h ∷ []) = Err fault.Byte
token_of (h ∷ l ∷ cs) = byte_of (hex_digit h) (hex_digit l) cs

-- "separated by single spaces": what stands before the first blank, between two, and after the last
abbrev pub on_first : ℕ → List (List ℕ) → List (List ℕ)
on_first ch [] = (ch ∷ []) ∷ []
on_first ch (t ∷ ts) = (ch ∷ t) ∷ ts

unfoldable pub pieces : List ℕ → List (List ℕ)
pieces [] = [] ∷ []
pieces (ch ∷ cs) = cond (eqb ch 32) ([] ∷ pieces cs) (on_first ch (pieces cs))

-- the bytes of each token laid after those before: the first fault decides
abbrev pub unless_bad : Keep → (ℕ → List ℕ → Keep) → Result ℕ Fault → Keep
unless_bad k next (Ok n) = next n k.buffer
unless_bad k next (Err f) = k

unfoldable pub gathered : List (List ℕ) → ℕ → List ℕ → Keep
gathered [] used out = record { answer = Ok used; buffer = out }
gathered (t ∷ ts) used out = unless_bad (kept_of out used (token_of t)) (gathered ts) (kept_of out used (token_of t)).answer

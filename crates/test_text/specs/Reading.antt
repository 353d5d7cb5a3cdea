-- What characters say: digits, numbers, and the tokens HH and HH*N.
use Rattle.std.specs.Prelude.{ℕ, ◌+◌, ◌-◌, ◌*◌, ◌%◌, ◌<◌, Bool, true, false, cond, ◌&&◌, List, length, replicate, leb, ltb, eqb, Option, Some, None, Result, Ok, Err}
use Rattle.buffer.specs.Runs.{over}
use Rattle.test_text.specs.declared.Fault.{Fault}
use Rattle.test_text.specs.declared.Fault.TheVariants as fault
use Rattle.test_text.specs.declared.Token.{Token}
use Rattle.test_text.specs.declared.Token.TheVariants as token
use Rattle.test_text.specs.declared.Run.{Run}
use Rattle.test_text.specs.declared.Bytes.{Bytes}

abbrev pub within : ℕ → ℕ → ℕ → Bool
within a b x = leb a x && leb x b

-- 0 to 9
unfoldable pub decimal_digit : ℕ → Option ℕ
decimal_digit ch = cond (within 48 57 ch) (Some (ch - 48)) None

-- 0 to 9, a to f, A to F
unfoldable pub hex_digit : ℕ → Option ℕ
hex_digit ch =
    cond (within 48 57 ch) (Some (ch - 48))
    (cond (within 97 102 ch) (Some (ch - 87))
    (cond (within 65 70 ch) (Some (ch - 55))
    None))

-- a digit is below the base
abbrev pub Below : ℕ → Option ℕ → Type 0
Below n (Some d) = d < n
Below n None = Unit {0}

-- the number n with one more digit, at most most
abbrev pub appended : ℕ → ℕ → Option ℕ → Option ℕ
appended n most (Some d) = cond (ltb most (n * 10 + d)) None (Some (n * 10 + d))
appended n most None = None

abbrev pub number_on : ℕ → ℕ → ℕ → Option ℕ
number_on n ch most = appended n most (decimal_digit ch)

-- a token with one more character: two hex digits, a star, digits of a count of at most 4096
abbrev pub first_digit : Option ℕ → Token
first_digit (Some d) = token.High d
first_digit None = token.Bad fault.Byte

abbrev pub second_digit : ℕ → Option ℕ → Token
second_digit h (Some d) = token.Byte (h % 16 * 16 + d)
second_digit h None = token.Bad fault.Byte

unfoldable pub starred : ℕ → ℕ → Token
starred b ch = cond (eqb ch 42) (token.Times b 0) (token.Bad fault.Byte)

abbrev pub times_of : ℕ → Option ℕ → Token
times_of b (Some n) = token.Times b n
times_of b None = token.Bad fault.Count

abbrev pub stepped : Token → ℕ → Token
stepped token.Gap ch = first_digit (hex_digit ch)
stepped (token.High h) ch = second_digit h (hex_digit ch)
stepped (token.Byte b) ch = starred b ch
stepped (token.Times b n) ch = times_of b (number_on n ch 4096)
stepped (token.Bad f) ch = token.Bad f

-- what a token brings that ends: a count is at least 1
unfoldable pub counted_run : ℕ → ℕ → Result Run Fault
counted_run b n = cond (eqb n 0) (Err fault.Count) (Ok (record { byte = b; times = n }))

abbrev pub run_of : Token → Result Run Fault
run_of token.Gap = Err fault.Byte
run_of (token.High h) = Err fault.Byte
run_of (token.Byte b) = Ok (record { byte = b; times = 1 })
run_of (token.Times b n) = counted_run b n
run_of (token.Bad f) = Err f

abbrev pub is_open : Token → Bool
is_open token.Gap = true
is_open (token.High h) = true
is_open (token.Byte b) = true
is_open (token.Times b n) = true
is_open (token.Bad f) = false

-- an answer, and the lent buffer
pub record Keep : Type 0 where
  pub answer : Result ℕ Fault
  pub buffer : List ℕ

-- n times b, laid after the used bytes, if there is room
unfoldable pub kept_run : List ℕ → ℕ → ℕ → ℕ → Keep
kept_run out used b n =
    cond (leb (used + n) (length out))
    (record { answer = Ok (used + n); buffer = over used (replicate n b) out })
    (record { answer = Err fault.Many; buffer = out })

abbrev pub kept_of : List ℕ → ℕ → Result Run Fault → Keep
kept_of out used (Ok r) = kept_run out used r.byte r.times
kept_of out used (Err f) = record { answer = Err f; buffer = out }

-- the tokens of a line so far, and the lent buffer
pub record Line : Type 0 where
  pub bytes : Bytes
  pub buffer : List ℕ

abbrev pub line_start : Bytes
line_start = record { used = 0; token = token.Gap }

-- after a blank the next token begins
abbrev pub next_token : ℕ → Result ℕ Fault → Bytes
next_token used (Ok n) = record { used = n; token = token.Gap }
next_token used (Err f) = record { used = used; token = token.Bad f }

abbrev pub blanked : Bytes → Keep → Line
blanked s k = record { bytes = next_token s.used k.answer; buffer = k.buffer }

abbrev pub line_end : Bytes → List ℕ → Keep
line_end s out = kept_of out s.used (run_of s.token)

unfoldable pub line_on : Bytes → List ℕ → ℕ → Line
line_on s out ch =
    cond (eqb ch 32)
    (blanked s (line_end s out))
    (record { bytes = record { used = s.used; token = stepped s.token ch }; buffer = out })

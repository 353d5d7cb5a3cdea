-- Characters laid one after another into a lent buffer, and the texts of numbers and bytes.
use Rattle.std.specs.Prelude.{◌≡◌, ℕ, zero, suc, ◌+◌, ◌/◌, ◌%◌, cond, List, [], ◌∷◌, ◌++◌, length, set, ltb, eqb}
use Rattle.test_text.specs.declared.Fault.{Fault}
use Rattle.test_text.specs.declared.Fault.TheVariants as fault
use Rattle.test_text.specs.declared.print.Page.{Page}
use Prim.Native.Char.{code}
use Prim.Native.String.{String, [] as end, ◌∷◌ as ◌then◌}

-- the characters of a text
abbrev pub letters : String → List ℕ
letters end = []
letters (ch then w) = code ch ∷ letters w

-- a lent buffer, and the place up to which it is written
pub record Out : Type 0 where
  pub at : ℕ
  pub buffer : List ℕ

-- one character more, where there is room (outside the buffer, set changes nothing)
abbrev pub pushed : ℕ → Out → Out
pushed ch o = record { at = cond (ltb o.at (length o.buffer)) (o.at + 1) o.at; buffer = set o.buffer o.at ch }

-- the characters of a text, one after another
unfoldable pub laid : List ℕ → Out → Out
laid [] o = o
laid (ch ∷ w) o = laid w (pushed ch o)

-- a text written from place at of a buffer on
abbrev pub put : List ℕ → ℕ → List ℕ → Out
put w at u = laid w (record { at = at; buffer = u })

-- a page's buffer, and the place up to which it is written
abbrev pub out_of : Page → Out
out_of p = record { at = p.at; buffer = p.out.now }

-- a text is written onto a page, from where the old one ends; the page keeps the buffer that it was lent
abbrev pub Puts : List ℕ → Page → Page → Type 0
Puts w old new = (out_of new ≡ put w old.at old.out.now) × (new.out.ghost_name ≡ old.out.ghost_name)

-- 0 to 9, a to f
unfoldable pub glyph_of : ℕ → ℕ
glyph_of d = cond (ltb d 10) (48 + d) (87 + d)

abbrev pub hex_text : ℕ → List ℕ
hex_text b = glyph_of (b / 16) ∷ glyph_of (b % 16) ∷ []

-- the decimal digits of n, in at most suc f places
unfoldable pub digits : ℕ → ℕ → List ℕ
digits zero n = (48 + n % 10) ∷ []
digits (suc f) n = cond (ltb n 10) ((48 + n) ∷ []) (digits f (n / 10) ++ ((48 + n % 10) ∷ []))

-- n has at most suc n places
abbrev pub decimal_text : ℕ → List ℕ
decimal_text n = digits n n

-- a blank and a token: HH, or HH*N where n is not 1
unfoldable pub run_text : ℕ → ℕ → List ℕ
run_text b n = 32 ∷ hex_text b ++ cond (eqb n 1) [] (42 ∷ decimal_text n)

-- how many elements at the front are x
unfoldable pub leading : ℕ → List ℕ → ℕ
leading x [] = 0
leading x (y ∷ ys) = cond (eqb y x) (suc (leading x ys)) 0

-- a byte so many times
pub record Same : Type 0 where
  pub byte : ℕ
  pub times : ℕ

-- one byte before runs joins the first where that is of the same byte
abbrev pub joined : ℕ → List Same → List Same
joined x [] = record { byte = x; times = 1 } ∷ []
joined x (r ∷ rs) =
    cond (eqb r.byte x)
    (record { byte = x; times = suc r.times } ∷ rs)
    (record { byte = x; times = 1 } ∷ r ∷ rs)

-- the longest runs of equal bytes
unfoldable pub runs : List ℕ → List Same
runs [] = []
runs (x ∷ xs) = joined x (runs xs)

unfoldable pub runs_text : List Same → List ℕ
runs_text [] = []
runs_text (r ∷ rs) = run_text r.byte r.times ++ runs_text rs

abbrev pub bytes_text : List ℕ → List ℕ
bytes_text s = runs_text (runs s)

-- what is wrong with a line; w are the program's words for a wrong word
abbrev pub fault_text : Fault → List ℕ → List ℕ
fault_text fault.Word w = w
fault_text fault.Arguments w = letters "wrong arguments"
fault_text fault.Byte w = letters "a byte is two hex digits"
fault_text fault.Count w = letters "a count is 1 to 4096"
fault_text fault.Answer w = letters "an answer is 0 to 255"
fault_text fault.Length w = letters "a length is 0 to 600"
fault_text fault.Many w = letters "more than 4096 bytes"

-- "error: line 12: .."
unfoldable pub error_text : ℕ → Fault → List ℕ → List ℕ
error_text n f w = letters "error: line " ++ decimal_text n ++ letters ": " ++ fault_text f w ++ (10 ∷ [])

-- How a line of a call script is read: pieces, with a blank between two, each what its place in the line asks for.
use Rattle.std.specs.Prelude.{ℕ, ◌+◌, ◌*◌, Bool, true, false, cond, ◌&&◌, List, [], ◌∷◌, length, set, leb, ltb, eqb, Option, Some, None, Result, Ok, Err, ◌≡◌}
use Rattle.test_text.specs.Printing.{letters}
use Rattle.test_text.specs.Reading.{number_on, stepped, run_of, Keep, kept_of}
use Rattle.test_text.specs.declared.Fault.{Fault}
use Rattle.test_text.specs.declared.Fault.TheVariants as fault
use Rattle.test_text.specs.declared.Token.{Token}
use Rattle.test_text.specs.declared.Token.TheVariants as token
use Rattle.test_script.specs.declared.Need.{Need}
use Rattle.test_script.specs.declared.Need.TheVariants as need
use Rattle.test_script.specs.declared.Rest.{Rest}
use Rattle.test_script.specs.declared.Rest.TheVariants as rest
use Rattle.test_script.specs.declared.Place.{Place}
use Rattle.test_script.specs.declared.Place.TheVariants as place
use Rattle.test_script.specs.declared.Effect.{Effect}
use Rattle.test_script.specs.declared.Effect.TheVariants as effects
use Rattle.test_script.specs.declared.Piece.{Piece}
use Rattle.test_script.specs.declared.Line.{Line}
use Rattle.test_script.specs.declared.Brought.{Brought}

-- a name as a number: 8 bits for each letter, after a 1. Names of more than seven letters are one number
unfoldable pub name_on : ℕ → ℕ → ℕ
name_on k ch = cond (leb 0x100_0000_0000_0000 k) 0xffff_ffff_ffff_ffff (k * 256 + ch)

unfoldable pub named : ℕ → List ℕ → ℕ
named k [] = k
named k (ch ∷ w) = named (k * 256 + ch) w

-- a piece with one more character, read as a name, as a decimal number and as a byte with a count
abbrev pub digit_on : Option ℕ → ℕ → Option ℕ
digit_on (Some n) ch = number_on n ch 0xffff_ffff
digit_on None ch = None

abbrev pub new_piece : Piece
new_piece = record { name = 1; number = Some 0; token = token.Gap }

abbrev pub piece_on : Piece → ℕ → Piece
piece_on p ch = record { name = name_on p.name ch; number = digit_on p.number ch; token = stepped p.token ch }

-- "the answer in decimal (0 to 255)", "0 to 600"
abbrev pub at_most : ℕ → Option ℕ → Option ℕ
at_most most (Some n) = cond (ltb most n) None (Some n)
at_most most None = None

-- "one byte in hex"
abbrev pub hex_of : Token → Option ℕ
hex_of token.Gap = None
hex_of (token.High h) = None
hex_of (token.Byte b) = Some b
hex_of (token.Times b n) = None
hex_of (token.Bad f) = None

abbrev pub brings : Option ℕ → Fault → Place → Effect
brings (Some n) f next = effects.Number n next
brings None f next = effects.Goes (place.Wrong f)

abbrev pub lends : Option ℕ → Effect
lends (Some n) = effects.Lends n
lends None = effects.Goes (place.Wrong fault.Length)

abbrev pub needed : Need → Piece → Place → Effect
needed need.Hex p next = brings (hex_of p.token) fault.Byte next
needed (need.Number most f) p next = brings (at_most most p.number) f next

abbrev pub taken : Rest → Place → Effect
taken rest.Nothing next = effects.Goes (place.Wrong fault.Arguments)
taken rest.Bytes next = effects.Bytes next

-- "single spaces": no piece is empty
unfoldable pub unless_empty : ℕ → Effect → Effect
unless_empty name x = cond (eqb name 1) (effects.Goes (place.Wrong fault.Arguments)) x

-- what a piece does at a place; found is what the table of calls has for it as a name. "`lend N ` in front of a call"
abbrev pub effect : Place → Piece → Place → Effect
effect place.Start p found = effects.Goes (place.Wrong fault.Word)
effect place.Skipped p found = effects.Goes place.Skipped
effect (place.Word first) p found =
    unless_empty p.name (effects.Goes (cond (first && eqb p.name (named 1 (letters "lend"))) place.Length found))
effect place.Length p found = unless_empty p.name (lends (at_most 600 p.number))
effect (place.Needs c n r) p found = unless_empty p.name (needed n p (place.Takes c r))
effect (place.Takes c r) p found = unless_empty p.name (taken r (place.Takes c r))
effect (place.Wrong f) p found = effects.Goes (place.Wrong f)

-- "lines that begin with # are skipped"
abbrev pub is_start : Place → Bool
is_start place.Start = true
is_start place.Skipped = false
is_start (place.Word first) = false
is_start place.Length = false
is_start (place.Needs c n r) = false
is_start (place.Takes c r) = false
is_start (place.Wrong f) = false

abbrev pub place_on : Place → ℕ → Place
place_on p ch = cond (is_start p) (cond (eqb ch 35) place.Skipped (place.Word true)) p

-- "zero or more tokens": where a call takes bytes, the line may end
abbrev pub may_end : Place → Bool
may_end place.Start = true
may_end place.Skipped = true
may_end (place.Word first) = false
may_end place.Length = false
may_end (place.Needs c n r) = false
may_end (place.Takes c r) = true
may_end (place.Wrong f) = true

-- a line with a new piece
abbrev pub goes : Option ℕ → ℕ → ℕ → Place → Line
goes n count used p = record { lent = n; count = count; used = used; place = p; piece = new_piece }

abbrev pub goes_to : Line → Place → Line
goes_to l p = goes l.lent l.count l.used p

abbrev pub new_line : Line
new_line = goes None 0 0 place.Start

abbrev pub line_on : Line → ℕ → Line
line_on l ch = record { lent = l.lent; count = l.count; used = l.used; place = place_on l.place ch; piece = piece_on l.piece ch }

abbrev pub closed : Line → Line
closed l = goes_to l (cond (may_end l.place) l.place (place.Wrong fault.Arguments))

-- a line, and the numbers and bytes that it brought
pub record Read : Type 0 where
  pub line : Line
  pub numbers : List ℕ
  pub bytes : List ℕ

abbrev pub read : Line → List ℕ → List ℕ → Read
read l ns out = record { line = l; numbers = ns; bytes = out }

unfoldable pub counted : Line → ℕ → Place → List ℕ → List ℕ → Read
counted l n next ns out =
    cond (leb (length ns) l.count)
    (read (goes_to l (place.Wrong fault.Arguments)) ns out)
    (read (goes l.lent (l.count + 1) l.used next) (set ns l.count n) out)

abbrev pub kept_line : Line → Place → Result ℕ Fault → Line
kept_line l next (Ok n) = goes l.lent l.count n next
kept_line l next (Err f) = goes_to l (place.Wrong f)

unfoldable pub laid : Line → Place → List ℕ → Keep → Read
laid l next ns k = read (kept_line l next k.answer) ns k.buffer

-- what a piece did
abbrev pub done : Effect → Line → List ℕ → List ℕ → Read
done (effects.Goes p) l ns out = read (goes_to l p) ns out
done (effects.Lends n) l ns out = read (goes (Some n) l.count l.used (place.Word false)) ns out
done (effects.Number n next) l ns out = counted l n next ns out
done (effects.Bytes next) l ns out = laid l next ns (kept_of out l.used (run_of l.piece.token))

-- the numbers and bytes that the lines brought, in the same lent buffers, and the line
abbrev pub Reads : Read → Line → Brought → Brought → Type 0
Reads r l old new =
    (read l new.numbers.now new.bytes.now ≡ r)
    × (new.numbers.ghost_name ≡ old.numbers.ghost_name)
    × (new.bytes.ghost_name ≡ old.bytes.ghost_name)

-- Document 01's own numbers for each case of an answer, the parts of the lent buffer, a command decoded, the status bytes.
use Rattle.std.specs.Prelude.{Bool, true, false, cond, ◌||◌, List, ◌++◌, ℕ, ◌+◌, ◌*◌, eqb, take, drop, get_or}
use Rattle.geometry.specs.declared.Block.{Block}
use Rattle.drive.specs.declared.Offer.{Offer}
use Rattle.drive.specs.declared.Offer.TheVariants as offer
use Rattle.drive.specs.declared.Kind.{Kind}
use Rattle.drive.specs.declared.Kind.TheVariants as kind
use Rattle.drive.specs.declared.Order.{Order}
use Rattle.drive.specs.declared.Refusal.{Refusal}
use Rattle.drive.specs.declared.Refusal.TheVariants as refusal
use Rattle.drive.specs.declared.Cause.{Cause}
use Rattle.drive.specs.declared.Cause.TheVariants as cause
use Rattle.drive.specs.declared.Ending.{Ending}
use Rattle.drive.specs.declared.Ending.TheVariants as ending
use Rattle.drive.specs.declared.Seen.{Seen}
use Rattle.drive.specs.declared.Four.{Four}
use Rattle.drive.specs.declared.Row.{Row}

-- Returns the response byte of an offer. "offer n": "n is the response byte"
abbrev pub response : Offer → ℕ
response offer.Command = 0x01
response offer.Read = 0x02
response offer.Write = 0x03
response offer.Verify = 0x04
response offer.Act = 0x06

-- Returns the code of a refusal.
abbrev pub code_of : Refusal → ℕ
code_of refusal.Record = 1
code_of refusal.Buffer = 2
code_of refusal.Place = 3
code_of refusal.Answer = 4
code_of refusal.Bytes = 5
code_of refusal.Form = 6
code_of refusal.Sum = 7
code_of refusal.Field = 8

-- Returns the number of a cause. Document 02, request 6: "0 unknown, 1 CRC, 2 timeout, 3 no settle"
abbrev pub cause_number : Cause → ℕ
cause_number cause.Unknown = 0
cause_number cause.Crc = 1
cause_number cause.Timeout = 2
cause_number cause.NoSettle = 3

-- Returns the data part. "a lent buffer of 536 bytes: status 0..3, data 4..535"
unfoldable pub data_of : List ℕ → List ℕ
data_of u = drop 4 u

-- Returns the buffer with another data part.
unfoldable pub with_data : List ℕ → List ℕ → List ℕ
with_data u x = take 4 u ++ x

-- THE COMMAND, decoded: "opcode, block (3 bytes, high first), for a read also retry count R and threshold T"

-- Returns the kind of a command by its first byte: "opcode 00, 01, 02 (hex)", "or another opcode".
unfoldable pub kind_of : List ℕ → Kind
kind_of c = cond (eqb (get_or c 0 0) 0x00) kind.Read (cond (eqb (get_or c 0 0) 0x01) kind.Write (cond (eqb (get_or c 0 0) 0x02) kind.Verify kind.Other))

-- Returns the number in its block field.
unfoldable pub number_of : List ℕ → ℕ
number_of c = get_or c 1 0 * 65536 + get_or c 2 0 * 256 + get_or c 3 0

-- Returns the command that these bytes are.
abbrev pub order_of : List ℕ → Order
order_of c = record { kind = kind_of c; number = number_of c; retries = get_or c 4 0; threshold = get_or c 5 0 }

-- Says whether a command of this kind is a read, a write, a write/verify.
abbrev pub is_read : Kind → Bool
is_read kind.Read = true
is_read kind.Write = false
is_read kind.Verify = false
is_read kind.Other = false

abbrev pub is_write : Kind → Bool
is_write kind.Read = false
is_write kind.Write = true
is_write kind.Verify = false
is_write kind.Other = false

abbrev pub is_verify : Kind → Bool
is_verify kind.Read = false
is_verify kind.Write = false
is_verify kind.Verify = true
is_verify kind.Other = false

-- Returns the block of an order's number, where it is one.
abbrev pub block_of : Order → Block
block_of o = record { 0 = o.number }

-- THE STATUS

-- Makes a row.
abbrev pub row : ℕ → ℕ → ℕ → Row
row a b c = record { 0 = a; 1 = b; 2 = c }

-- Returns what each ending sets of status 1, 2 and 3, but for bits 4 and 0 of status 1. Status 1: bit 6 for too many data bytes,
-- and for no table on a write. Status 2: bit 2 moved, bit 3 no table, bit 4 the bad list full, bit 6 no spare unused. Status 3:
-- bit 6 for a number that is no block's.
abbrev pub row_of : Ending → Row
row_of ending.Good = row 0x00 0x00 0x00
row_of ending.Moved = row 0x00 0x04 0x00
row_of ending.Failed = row 0x00 0x00 0x00
row_of ending.Overrun = row 0x40 0x00 0x00
row_of ending.NoNumber = row 0x00 0x00 0x40
row_of (ending.NoTable on_write) = row (cond on_write 0x40 0x00) 0x08 0x00
row_of ending.Latched = row 0x00 0x00 0x00
row_of ending.BadFull = row 0x00 0x10 0x00
row_of ending.NoSpare = row 0x00 0x40 0x00

-- Says whether a command that ends so has failed: all but two endings.
abbrev pub fails : Ending → Bool
fails ending.Good = false
fails ending.Moved = false
fails ending.Failed = true
fails ending.Overrun = true
fails ending.NoNumber = true
fails (ending.NoTable on_write) = true
fails ending.Latched = true
fails ending.BadFull = true
fails ending.NoSpare = true

-- Says whether an ending sets the latch: "bits 4, 0, latch until the next start". Under the latch it is set already.
abbrev pub latches : Ending → Bool
latches ending.Good = false
latches ending.Moved = false
latches ending.Failed = false
latches ending.Overrun = false
latches ending.NoNumber = false
latches (ending.NoTable on_write) = false
latches ending.Latched = true
latches ending.BadFull = false
latches ending.NoSpare = false

-- Returns the four status bytes of a finish. Status 1: bit 0 for a command that failed, or with unstored, document 02, request 7:
-- its store was not done, or the latch forbids one while some block's place is unstored; bit 4 for answer 3, to the store too
-- (unsettled), and for a command that the latch fails; "3 any CRC error, 2 any timeout met." "Status 3 bit 7: first finish after
-- start or reset" "Status 4: E. All other bits 0 (house)."
unfoldable pub status_of : Ending → Seen → Bool → Bool → Bool → Four
status_of e s unstored unsettled fresh =
    record {
      0 = (row_of e).0 + cond (fails e || unstored) 0x01 0 + cond (latches e || unsettled) 0x10 0 + cond s.crc 0x08 0 + cond s.timeout 0x04 0;
      1 = (row_of e).1;
      2 = (row_of e).2 + cond fresh 0x80 0;
      3 = s.errors;
    }

-- An image of either form: which bytes are one, what it holds, and what the reader and the writers answer.
use Rattle.std.specs.Prelude.{ℕ, Bool, cond, ◌&&◌, List, length, replicate, leb, eqb, Option, Some, None, Result, Ok, Err}
use Rattle.table.specs.declared.Table.{Table}
use Rattle.image.specs.declared.Fault.{Fault}
use Rattle.image.specs.declared.Fault.TheVariants as fault
use Rattle.image.specs.declared.Image.{Image}
use Rattle.image.specs.declared.Layout.{Layout}
use Rattle.image.specs.Layouts.{entries_fit, table_in}
use Rattle.image.specs.FormA.{form_a, image_a, layout_a, formed_a}
use Rattle.image.specs.FormB.{form_b, image_b, has_magic, run_in, layout_b, causes_in, sum_fits, formed_b}

-- Says whether bytes are an image: "Start and the ledger read either form".
unfoldable pub well_formed : List ℕ → Bool
well_formed i = eqb (length i) 532 && cond (has_magic i) (formed_b i) (formed_a i)

-- Returns what is wrong with bytes that are none, in the order of the codes: 6, 7, 8.
unfoldable pub fault_of : List ℕ → Fault
fault_of i = cond (eqb (length i) 532 && has_magic i) (cond (sum_fits i) fault.Field fault.Sum) fault.Form

-- WHAT AN IMAGE HOLDS. "starting from A, sets run number and causes to 0"

abbrev pub layout_of : List ℕ → Layout
layout_of i = cond (has_magic i) (layout_b i) (layout_a i)

unfoldable pub table_of : List ℕ → Table
table_of i = table_in (layout_of i) i

unfoldable pub run_of : List ℕ → ℕ
run_of i = cond (has_magic i) (run_in i) 0

unfoldable pub causes_of : List ℕ → List ℕ
causes_of i = cond (has_magic i) (causes_in i) (replicate 32 0)

-- THE READER

-- Returns what the reader answers: a table with its causes and its run number, or what is wrong.
unfoldable pub read_of : List ℕ → Result Image Fault
read_of i = cond (well_formed i) (Ok (record { table = table_of i; causes = causes_of i; run = run_of i })) (Err (fault_of i))

-- Returns the table where all but the entries was tested, with this layout.
unfoldable pub loaded : List ℕ → Layout → Option Table
loaded i a = cond (entries_fit a i) (Some (table_in a i)) None

-- Returns what the reader answers of 532 bytes that do not begin as form B, and of 532 that do.
unfoldable pub read_a : List ℕ → Result Image Fault
read_a i = cond (formed_a i) (Ok (record { table = table_in (layout_a i) i; causes = replicate 32 0; run = 0 })) (Err fault.Form)

unfoldable pub read_b : List ℕ → Result Image Fault
read_b i =
    cond (formed_b i) (Ok (record { table = table_in (layout_b i) i; causes = causes_in i; run = run_in i }))
    (Err (cond (sum_fits i) fault.Field fault.Sum))

-- THE WRITERS: what they leave in the bytes lent. It is the image, or what was there if they are not 532 or a list is too long.

abbrev pub writable : List ℕ → List ℕ → List ℕ → Bool
writable spares bads out = eqb (length out) 532 && leb (length spares) 32 && leb (length bads) 100

unfoldable pub written_a : List ℕ → List ℕ → List ℕ → List ℕ
written_a spares bads out = cond (writable spares bads out) (form_a spares bads) out

unfoldable pub written_b : ℕ → List ℕ → List ℕ → List ℕ → List ℕ → List ℕ
written_b run spares causes bads out =
    cond (writable spares bads out && eqb (length causes) (length spares)) (form_b run spares causes bads) out

-- THE OTHER FORM: "turns either form into the other"

-- Returns a well-formed image in the other form. "Moving A to B [..] sets run number and causes to 0, moving back drops them"
unfoldable pub converted : List ℕ → List ℕ
converted i = cond (has_magic i) (image_a (table_of i)) (image_b 0 (table_of i) (replicate 32 0))

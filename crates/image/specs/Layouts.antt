-- What both forms of the image share: document 01, "Table image", and document 02, request 6. Numbers are written high byte
-- first; an entry has three bytes, and in form B's spare list one more.
use Rattle.std.specs.Prelude.{ℕ, zero, suc, ◌+◌, ◌*◌, ◌/◌, ◌%◌, ◌≤◌, Bool, true, false, cond, ◌&&◌, List, [], ◌∷◌, ◌++◌, length, drop, get_or, replicate, leb, eqb}
use Rattle.geometry.specs.Geometry.{is_block}
use Rattle.lists.specs.Lists.{dead, entries_ok}
use Rattle.table.specs.declared.Table.{Table}
use Rattle.image.specs.declared.Layout.{Layout}

-- AN ENTRY WRITTEN

-- Returns an entry of the table as the image has it: "FFFFFE hex for a dead spare", else the block's number.
unfoldable pub wide : ℕ → ℕ
wide x = cond (eqb x dead) 0xFFFFFE x

-- Returns its bytes: "3 bytes an entry", high first.
unfoldable pub triple : ℕ → List ℕ
triple x = wide x / 65536 % 256 ∷ wide x / 256 % 256 ∷ wide x % 256 ∷ []

-- Returns the bytes of a list's entries.
unfoldable pub triples : List ℕ → List ℕ
triples [] = []
triples (x ∷ xs) = triple x ++ triples xs

-- AN ENTRY READ

-- Returns an entry's number as the table holds it: the dead mark, a block, or FFFF hex, which is neither.
unfoldable pub narrow : ℕ → ℕ
narrow v = cond (eqb v 0xFFFFFE) dead (cond (is_block v) v 0xFFFF)

-- Returns the entry of the three bytes from place k on.
unfoldable pub entry_at : List ℕ → ℕ → ℕ
entry_at s k = narrow (get_or s k 0 * 65536 + get_or s (k + 1) 0 * 256 + get_or s (k + 2) 0)

-- Returns the first n entries of a run of bytes, each w bytes after the last.
unfoldable pub entries_from : ℕ → ℕ → List ℕ → List ℕ
entries_from w zero s = []
entries_from w (suc n) s = entry_at s 0 ∷ entries_from w n (drop w s)

-- THE LISTS OF AN IMAGE, by its layout: the counts, and where the entries are.

-- Returns the entries of the two lists.
abbrev pub spare_entries : Layout → List ℕ → List ℕ
spare_entries a i = entries_from a.width a.nspares (drop a.spares i)

abbrev pub bad_entries : Layout → List ℕ → List ℕ
bad_entries a i = entries_from 3 a.nbads (drop a.bads i)

-- Says whether the lists are not too long: "counts at most 32 and 100".
abbrev pub counts_fit : Layout → Bool
counts_fit a = leb a.nspares 32 && leb a.nbads 100

-- Says that the entries lie within the bytes.
abbrev pub Within : Layout → List ℕ → Type 0
Within a i =
    (a.nspares ≤ 32) × (a.nbads ≤ 100) × (3 ≤ a.width) × (a.spares + a.width * a.nspares ≤ length i) × (a.bads + 3 * a.nbads ≤ length i)

-- Says whether the entries are a table's: "entries as above, bad entries blocks only".
unfoldable pub entries_fit : Layout → List ℕ → Bool
entries_fit a i = entries_ok true (spare_entries a i) && entries_ok false (bad_entries a i)

-- Returns a list at the start of an array of that many places, zeros after it.
abbrev pub in_array : ℕ → List ℕ → List ℕ
in_array size l = l ++ drop (length l) (replicate size 0)

-- Returns the table of an image.
abbrev pub table_in : Layout → List ℕ → Table
table_in a i = record { spares = in_array 32 (spare_entries a i); bads = in_array 100 (bad_entries a i); nspares = a.nspares; nbads = a.nbads }

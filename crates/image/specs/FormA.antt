-- Document 01, "Table image": the 532 bytes of a table, form A, and which bytes are such an image.
use Rattle.std.specs.Prelude.{ℕ, ◌+◌, ◌-◌, ◌*◌, Bool, ◌&&◌, List, [], ◌∷◌, ◌++◌, length, take, drop, get_or, replicate}
use Rattle.table.specs.declared.Table.{Table}
use Rattle.table.specs.Tables.{spare_list, bad_list}
use Rattle.buffer.specs.Runs.{same, all_are}
use Rattle.image.specs.declared.Layout.{Layout}
use Rattle.image.specs.Layouts.{triples, counts_fit, entries_fit}

-- THE IMAGE WRITTEN

-- Holds the first 24 bytes: "26 bytes: "PROFILE" and 6 blanks; 00 00 00; 03 90; 00 26 00; 02 14; 20; spare count; bad count."
abbrev pub header : List ℕ
header =
    0x50 ∷ 0x52 ∷ 0x4F ∷ 0x46 ∷ 0x49 ∷ 0x4C ∷ 0x45
    ∷ 0x20 ∷ 0x20 ∷ 0x20 ∷ 0x20 ∷ 0x20 ∷ 0x20
    ∷ 0x00 ∷ 0x00 ∷ 0x00
    ∷ 0x03 ∷ 0x90
    ∷ 0x00 ∷ 0x26 ∷ 0x00
    ∷ 0x02 ∷ 0x14
    ∷ 0x20
    ∷ []

-- Holds what comes "after each list": FF FF FF.
abbrev pub mark : List ℕ
mark = 0xFF ∷ 0xFF ∷ 0xFF ∷ []

-- Returns a list's entries and the mark after them.
unfoldable pub list_part : List ℕ → List ℕ
list_part l = triples l ++ mark

-- Returns the first 26 bytes, with counts of n and m.
abbrev pub head : ℕ → ℕ → List ℕ
head n m = header ++ (n ∷ m ∷ [])

-- Returns all of the image but its zeros.
unfoldable pub framed_part : List ℕ → List ℕ → List ℕ
framed_part spares bads = head (length spares) (length bads) ++ list_part spares ++ list_part bads

-- Returns the image of a spare list and a bad list: "zeros to 532".
unfoldable pub form_a : List ℕ → List ℕ → List ℕ
form_a spares bads = framed_part spares bads ++ replicate (532 - length (framed_part spares bads)) 0

-- Returns the image of a table.
abbrev pub image_a : Table → List ℕ
image_a t = form_a (spare_list t) (bad_list t)

-- THE IMAGE READ

-- Returns where the lists are.
abbrev pub layout_a : List ℕ → Layout
layout_a i = record { nspares = get_or i 24 0; nbads = get_or i 25 0; spares = 26; width = 3; bads = 29 + 3 * get_or i 24 0 }

-- Says whether the header is at the start, a mark at place k, zeros from place k on.
abbrev pub has_header : List ℕ → Bool
has_header i = same (take 24 i) header

abbrev pub mark_at : List ℕ → ℕ → Bool
mark_at i k = all_are 0xFF (take 3 (drop k i))

abbrev pub zeros_from : List ℕ → ℕ → Bool
zeros_from i k = all_are 0 (drop k i)

-- Says whether all but counts and entries is right, with counts of n and m: the header, a mark after each list, and zeros after
-- the second mark.
unfoldable pub framed_a : List ℕ → ℕ → ℕ → Bool
framed_a i n m = has_header i && mark_at i (26 + 3 * n) && mark_at i (29 + 3 * n + 3 * m) && zeros_from i (32 + 3 * n + 3 * m)

-- Says whether 532 bytes are such an image: "Well formed: all this, counts at most 32 and 100, entries as above, bad entries
-- blocks only."
unfoldable pub formed_a : List ℕ → Bool
formed_a i = counts_fit (layout_a i) && framed_a i (layout_a i).nspares (layout_a i).nbads && entries_fit (layout_a i) i

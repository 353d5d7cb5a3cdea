-- Document 02, request 6: the 532 bytes of a table, form B, with its run number and causes, and which bytes are such an image.
-- "Form B, numbers high byte first"
use Rattle.std.specs.Prelude.{ℕ, zero, suc, ◌+◌, ◌-◌, ◌*◌, ◌/◌, ◌%◌, Bool, ◌&&◌, List, [], ◌∷◌, ◌++◌, length, take, drop, get_or, replicate, eqb}
use Rattle.table.specs.declared.Table.{Table}
use Rattle.table.specs.Tables.{spare_list, bad_list, causes_ok}
use Rattle.buffer.specs.Runs.{same, all_are, sum}
use Rattle.image.specs.declared.Layout.{Layout}
use Rattle.image.specs.Layouts.{triple, triples, counts_fit, entries_fit, in_array}

-- THE IMAGE WRITTEN

-- Returns a number's two bytes, and its four.
unfoldable pub two_bytes : ℕ → List ℕ
two_bytes v = v / 256 % 256 ∷ v % 256 ∷ []

abbrev pub four_bytes : ℕ → List ℕ
four_bytes v = two_bytes (v / 65536) ++ two_bytes v

-- Holds the first bytes: "F0 78 3C 1E".
abbrev pub magic : List ℕ
magic = 0xF0 ∷ 0x78 ∷ 0x3C ∷ 0x1E ∷ []

-- Returns the first 16 bytes, with counts of n and m: "run number (4 bytes ..); spare count, spare offset, bad count, bad offset
-- (2 bytes each)"; "The spare list starts at 16, the bad list right after it."
unfoldable pub head_b : ℕ → ℕ → ℕ → List ℕ
head_b run n m = magic ++ four_bytes run ++ two_bytes n ++ two_bytes 16 ++ two_bytes m ++ two_bytes (16 + 4 * n)

-- Returns the bytes of the spare list: "spare entries of block (3 bytes) and cause (1 byte ..)".
unfoldable pub quad : ℕ → ℕ → List ℕ
quad x cause = triple x ++ (cause % 256 ∷ [])

unfoldable pub quads : List ℕ → List ℕ → List ℕ
quads [] causes = []
quads (x ∷ xs) causes = quad x (get_or causes 0 0) ++ quads xs (drop 1 causes)

-- Returns all of the image before its zeros: "bad entries of 3 bytes".
unfoldable pub listed_part : ℕ → List ℕ → List ℕ → List ℕ → List ℕ
listed_part run spares causes bads = head_b run (length spares) (length bads) ++ quads spares causes ++ triples bads

-- Returns all of the image but its sum: "zeros".
unfoldable pub summed_part : ℕ → List ℕ → List ℕ → List ℕ → List ℕ
summed_part run spares causes bads =
    listed_part run spares causes bads ++ replicate (530 - length (listed_part run spares causes bads)) 0

-- Returns the image: "in the last two bytes the sum of all before, modulo 65,536".
unfoldable pub form_b : ℕ → List ℕ → List ℕ → List ℕ → List ℕ
form_b run spares causes bads = summed_part run spares causes bads ++ two_bytes (sum (summed_part run spares causes bads) % 65536)

-- Returns the image of a run number, a table and the causes of its spare entries.
abbrev pub image_b : ℕ → Table → List ℕ → List ℕ
image_b run t causes = form_b run (spare_list t) (take t.nspares causes) (bad_list t)

-- THE IMAGE READ

-- Returns the number of the two bytes from place k on, and of the four.
unfoldable pub two_at : List ℕ → ℕ → ℕ
two_at i k = get_or i k 0 * 256 + get_or i (k + 1) 0

abbrev pub four_at : List ℕ → ℕ → ℕ
four_at i k = two_at i k * 65536 + two_at i (k + 2)

-- Says whether the first four bytes are form B's. Otherwise, and if it is no form A: 6, "neither a well-formed A nor the four
-- first bytes of B".
abbrev pub has_magic : List ℕ → Bool
has_magic i = same (take 4 i) magic

-- Returns the run number.
abbrev pub run_in : List ℕ → ℕ
run_in i = four_at i 4

-- Returns where the lists are.
abbrev pub layout_b : List ℕ → Layout
layout_b i = record { nspares = two_at i 8; nbads = two_at i 12; spares = 16; width = 4; bads = 16 + 4 * two_at i 8 }

-- Returns the causes of the first n entries of a run of bytes.
unfoldable pub causes_from : ℕ → List ℕ → List ℕ
causes_from zero s = []
causes_from (suc n) s = get_or s 3 0 ∷ causes_from n (drop 4 s)

abbrev pub cause_entries : List ℕ → List ℕ
cause_entries i = causes_from (two_at i 8) (drop 16 i)

-- Returns the causes in an array, zeros after them.
abbrev pub causes_in : List ℕ → List ℕ
causes_in i = in_array 32 (cause_entries i)

-- Says whether the sum is right. Otherwise: 7, "sum wrong".
unfoldable pub sum_fits : List ℕ → Bool
sum_fits i = eqb (two_at i 530) (sum (take 530 i) % 65536)

-- Says whether the offsets are right, and the zeros between the bad list and the sum, with counts of n and m.
unfoldable pub framed_b : List ℕ → ℕ → ℕ → Bool
framed_b i n m =
    eqb (two_at i 10) 16 && eqb (two_at i 14) (16 + 4 * n) && all_are 0 (take (514 - 4 * n - 3 * m) (drop (16 + 4 * n + 3 * m) i))

-- Says whether all between the first four bytes and the sum is right. Otherwise: 8, "an offset, count, entry, cause or zero of B
-- wrong".
unfoldable pub fields_fit : List ℕ → Bool
fields_fit i =
    counts_fit (layout_b i) && framed_b i (layout_b i).nspares (layout_b i).nbads && causes_ok (cause_entries i) && entries_fit (layout_b i) i

-- Says whether 532 bytes that begin as form B are such an image.
unfoldable pub formed_b : List ℕ → Bool
formed_b i = sum_fits i && fields_fit i

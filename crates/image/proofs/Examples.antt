-- Both forms, computed: an image of each byte by byte, each clause broken by itself, and the two forms turned into one another.
use mathlib.Core.Path.{◌≡◌, refl}
use mathlib.Core.Bool.{Bool, true, not, ◌&&◌}
use mathlib.Core.List.{List, [], ◌∷◌, ◌++◌}
use Prim.Native.Nat.{ℕ, zero, suc, ◌%◌}
use lib.ListN.{take, drop, replicate}
use Rattle.std.specs.Prelude.{Err}
use Rattle.lists.specs.Lists.{member_of, entry_ok, entries_ok, dead}
use Rattle.table.specs.Tables.{causes_ok, spare_list, bad_list}
use Rattle.buffer.specs.Runs.{same, all_are, sum}
use Rattle.image.specs.declared.Fault.TheVariants as fault
use Rattle.image.specs.Layouts.{wide, triple, triples, narrow, entry_at, entries_from, entries_fit}
use Rattle.image.specs.FormA.{list_part, framed_part, form_a, framed_a, formed_a}
use Rattle.image.specs.FormB.{two_bytes, head_b, quad, quads, listed_part, summed_part, form_b, two_at, causes_from, sum_fits, framed_b, fields_fit, formed_b}
use Rattle.image.specs.Images.{well_formed, fault_of, table_of, run_of, causes_of, read_of, converted}

-- FORM B, BYTE BY BYTE: run number 01020304, block 17 on spare 0 after a CRC error, spare 1 dead by no settle, blocks 5 and 9727 bad.

abbrev made : List ℕ
made = form_b 0x01020304 (17 ∷ dead ∷ []) (1 ∷ 3 ∷ []) (5 ∷ 9727 ∷ [])

abbrev spelled : List ℕ
spelled =
    0xF0 ∷ 0x78 ∷ 0x3C ∷ 0x1E
    ∷ 0x01 ∷ 0x02 ∷ 0x03 ∷ 0x04
    ∷ 0x00 ∷ 0x02 ∷ 0x00 ∷ 0x10
    ∷ 0x00 ∷ 0x02 ∷ 0x00 ∷ 0x18
    ∷ 0x00 ∷ 0x00 ∷ 0x11 ∷ 0x01
    ∷ 0xFF ∷ 0xFF ∷ 0xFE ∷ 0x03
    ∷ 0x00 ∷ 0x00 ∷ 0x05
    ∷ 0x00 ∷ 0x25 ∷ 0xFF
    ∷ (replicate 500 0x00 ++ (0x06 ∷ 0x32 ∷ []))

pub byte_by_byte : made ≡ spelled
unfolding wide triple triples two_bytes head_b quad quads listed_part summed_part form_b sum
byte_by_byte = refl

-- With empty lists the offsets follow the same rule.
abbrev empty : List ℕ
empty =
    0xF0 ∷ 0x78 ∷ 0x3C ∷ 0x1E
    ∷ 0x00 ∷ 0x00 ∷ 0x00 ∷ 0x00
    ∷ 0x00 ∷ 0x00 ∷ 0x00 ∷ 0x10
    ∷ 0x00 ∷ 0x00 ∷ 0x00 ∷ 0x10
    ∷ (replicate 514 0x00 ++ (0x01 ∷ 0xE2 ∷ []))

pub empty_byte_by_byte : form_b 0 [] [] [] ≡ empty
unfolding wide triple triples two_bytes head_b quad quads listed_part summed_part form_b sum
empty_byte_by_byte = refl

-- It reads as what was written.
pub record Reads : Type 0 where
  pub formed : well_formed spelled ≡ true
  pub run : run_of spelled ≡ 0x01020304
  pub causes : causes_of spelled ≡ 1 ∷ 3 ∷ replicate 30 0
  pub spares : spare_list (table_of spelled) ≡ 17 ∷ dead ∷ []
  pub bads : bad_list (table_of spelled) ≡ 5 ∷ 9727 ∷ []
  pub empty_lists : well_formed empty ≡ true

pub reads : Reads
unfolding member_of entry_ok entries_ok causes_ok same all_are sum narrow entry_at entries_from entries_fit two_at causes_from sum_fits framed_b fields_fit formed_b well_formed table_of run_of causes_of
reads = record { formed = refl; run = refl; causes = refl; spares = refl; bads = refl; empty_lists = refl }

-- EACH CLAUSE OF FORM B BY ITSELF

-- Returns the bytes with another one at place k.
abbrev with : ℕ → ℕ → List ℕ → List ℕ
with k v i = take k i ++ (v ∷ drop (suc k) i)

-- Returns them with the sum that they have now.
abbrev resummed : List ℕ → List ℕ
resummed i = take 530 i ++ two_bytes (sum (take 530 i) % 65536)

-- Returns an image with one other byte, and the right sum.
abbrev altered : ℕ → ℕ → List ℕ
altered k v = resummed (with k v spelled)

-- Returns the first blocks.
abbrev blocks : ℕ → List ℕ
blocks zero = []
blocks (suc n) = n ∷ blocks n

-- Returns an image of so many entries: spares dead by no settle, and the first blocks.
abbrev sized : ℕ → ℕ → List ℕ
sized n m = form_b 0xFFFFFFFF (replicate n dead) (replicate n 3) (blocks m)

-- Says that the reader finds no table, for a field that is wrong.
abbrev Field : List ℕ → Type 0
Field i = read_of i ≡ Err fault.Field

pub record Refuses : Type 0 where
  -- 6: one of the four bytes, whatever the rest is; the sum is not looked at
  pub before_the_sum : fault_of (with 0 0xF1 spelled) ≡ fault.Form
  pub first_byte : fault_of (altered 0 0xF1) ≡ fault.Form
  pub fourth_byte : fault_of (altered 3 0x1F) ≡ fault.Form
  pub short : fault_of (take 531 spelled) ≡ fault.Form
  -- 7: the sum, and each byte before it
  pub high_sum : fault_of (with 530 0x07 spelled) ≡ fault.Sum
  pub low_sum : fault_of (with 531 0x33 spelled) ≡ fault.Sum
  pub last_byte_summed : fault_of (with 529 0x01 spelled) ≡ fault.Sum
  pub run_number_summed : fault_of (with 4 0x02 spelled) ≡ fault.Sum
  -- 7 before 8
  pub sum_first : fault_of (with 11 0x14 spelled) ≡ fault.Sum
  -- "modulo 65,536"
  pub modulo : fault_of (0xF0 ∷ 0x78 ∷ 0x3C ∷ 0x1E ∷ (replicate 526 0xFF ++ (0x0D ∷ 0xB4 ∷ []))) ≡ fault.Field
  -- 8: offsets, counts, entries, causes, zeros
  pub spare_offset : Field (altered 11 0x14)
  pub spare_offset_high : Field (altered 10 0x01)
  pub bad_offset : Field (altered 15 0x1C)
  pub bad_offset_high : Field (altered 14 0x01)
  pub spare_count_high : Field (altered 8 0x01)
  pub bad_count_high : Field (altered 12 0x01)
  pub no_block : Field (altered 17 0x26)
  pub no_block_high : Field (altered 16 0x01)
  pub mark_of_the_memory : Field (altered 20 0x00)
  pub no_mark : Field (altered 22 0xFF)
  pub block_twice : Field (form_b 0 (17 ∷ 17 ∷ []) (0 ∷ 0 ∷ []) [])
  pub dead_bad : Field (form_b 0 [] [] (dead ∷ []))
  pub bad_twice : Field (form_b 0 [] [] (5 ∷ 5 ∷ []))
  pub cause_4 : Field (altered 19 0x04)
  pub cause_of_a_dead_spare : Field (altered 23 0xFF)
  pub first_zero : Field (altered 30 0x01)
  pub last_zero : Field (altered 529 0x01)
  pub spares_32 : well_formed (sized 32 100) ≡ true
  pub spares_33 : Field (sized 33 0)
  pub bads_101 : Field (sized 0 101)

pub refuses : Refuses
unfolding member_of entry_ok entries_ok causes_ok same all_are sum wide triple triples narrow entry_at entries_from entries_fit list_part framed_part form_a framed_a formed_a two_bytes head_b quad quads listed_part summed_part form_b two_at causes_from sum_fits framed_b fields_fit formed_b well_formed fault_of read_of
refuses =
    record {
      before_the_sum = refl;
      first_byte = refl;
      fourth_byte = refl;
      short = refl;
      high_sum = refl;
      low_sum = refl;
      last_byte_summed = refl;
      run_number_summed = refl;
      sum_first = refl;
      modulo = refl;
      spare_offset = refl;
      spare_offset_high = refl;
      bad_offset = refl;
      bad_offset_high = refl;
      spare_count_high = refl;
      bad_count_high = refl;
      no_block = refl;
      no_block_high = refl;
      mark_of_the_memory = refl;
      no_mark = refl;
      block_twice = refl;
      dead_bad = refl;
      bad_twice = refl;
      cause_4 = refl;
      cause_of_a_dead_spare = refl;
      first_zero = refl;
      last_zero = refl;
      spares_32 = refl;
      spares_33 = refl;
      bads_101 = refl;
    }

-- FORM A, BYTE BY BYTE: block 17 on spare 0, spare 1 dead, block 9727 bad. The counts differ, so that neither stands for the other.
abbrev spelled_a : List ℕ
spelled_a =
    0x50 ∷ 0x52 ∷ 0x4F ∷ 0x46 ∷ 0x49 ∷ 0x4C ∷ 0x45
    ∷ 0x20 ∷ 0x20 ∷ 0x20 ∷ 0x20 ∷ 0x20 ∷ 0x20
    ∷ 0x00 ∷ 0x00 ∷ 0x00
    ∷ 0x03 ∷ 0x90
    ∷ 0x00 ∷ 0x26 ∷ 0x00
    ∷ 0x02 ∷ 0x14
    ∷ 0x20
    ∷ 0x02 ∷ 0x01
    ∷ 0x00 ∷ 0x00 ∷ 0x11
    ∷ 0xFF ∷ 0xFF ∷ 0xFE
    ∷ 0xFF ∷ 0xFF ∷ 0xFF
    ∷ 0x00 ∷ 0x25 ∷ 0xFF
    ∷ 0xFF ∷ 0xFF ∷ 0xFF
    ∷ replicate 491 0x00

pub byte_by_byte_a : form_a (17 ∷ dead ∷ []) (9727 ∷ []) ≡ spelled_a
unfolding wide triple triples list_part framed_part form_a
byte_by_byte_a = refl

-- Holds the image of empty lists: the two marks follow the counts.
abbrev empty_a : List ℕ
empty_a = take 24 spelled_a ++ (0x00 ∷ 0x00 ∷ replicate 6 0xFF) ++ replicate 500 0x00

pub empty_byte_by_byte_a : form_a [] [] ≡ empty_a
unfolding wide triple triples list_part framed_part form_a
empty_byte_by_byte_a = refl

-- Returns an image of so many entries: dead spares, and the first blocks.
abbrev sized_a : ℕ → ℕ → List ℕ
sized_a n m = form_a (replicate n dead) (blocks m)

-- Says that it reads as what was written, and which other tables are read.
pub record ReadsA : Type 0 where
  pub formed : well_formed spelled_a ≡ true
  pub spares : spare_list (table_of spelled_a) ≡ 17 ∷ dead ∷ []
  pub bads : bad_list (table_of spelled_a) ≡ 9727 ∷ []
  pub empty_lists : well_formed empty_a ≡ true
  pub full_lists : well_formed (sized_a 32 100) ≡ true
  pub in_both_lists : well_formed (form_a (17 ∷ []) (17 ∷ [])) ≡ true

pub reads_a : ReadsA
unfolding member_of entry_ok entries_ok same all_are wide triple triples narrow entry_at entries_from entries_fit list_part framed_part form_a framed_a formed_a well_formed table_of
reads_a = record { formed = refl; spares = refl; bads = refl; empty_lists = refl; full_lists = refl; in_both_lists = refl }

-- EACH CLAUSE OF FORM A BY ITSELF

-- Says that the reader finds no table, for bytes of neither form.
abbrev Neither : List ℕ → Type 0
Neither i = read_of i ≡ Err fault.Form

-- Says the same of the image with the byte at place k another one.
abbrev Broken : ℕ → ℕ → Type 0
Broken k v = Neither (with k v spelled_a)

-- Says whether each of the first n bytes counts: with 01 in its place there is no image.
abbrev all_count : ℕ → Bool
all_count zero = true
all_count (suc k) = not (well_formed (with k 0x01 spelled_a)) && all_count k

-- Says that each clause is tested.
pub record RefusesA : Type 0 where
  -- the length
  pub short : Neither (take 531 spelled_a)
  pub long : Neither (spelled_a ++ (0x00 ∷ []))
  -- the header, each byte of it
  pub header : all_count 24 ≡ true
  pub revision_3_96 : Broken 17 0x96
  -- the counts, one less, one more and too large
  pub spares_1 : Broken 24 0x01
  pub spares_3 : Broken 24 0x03
  pub bads_0 : Broken 25 0x00
  pub bads_2 : Broken 25 0x02
  pub spares_33 : Neither (sized_a 33 0)
  pub bads_101 : Neither (sized_a 0 101)
  -- the mark after the spare list, each byte of it
  pub first_mark_high : Broken 32 0x00
  pub first_mark_middle : Broken 33 0x00
  pub first_mark_low : Broken 34 0xFE
  -- the mark after the bad list
  pub second_mark_high : Broken 38 0x00
  pub second_mark_middle : Broken 39 0x00
  pub second_mark_low : Broken 40 0xFE
  -- the entries
  pub no_block : Neither (form_a (9728 ∷ []) [])
  pub no_block_high : Broken 26 0x01
  pub mark_of_the_memory : Broken 29 0x00
  pub no_mark : Broken 31 0xFF
  pub block_twice : Neither (form_a (17 ∷ 17 ∷ []) [])
  pub no_block_bad : Neither (form_a [] (9728 ∷ []))
  pub dead_bad : Neither (form_a [] (dead ∷ []))
  pub bad_twice : Neither (form_a [] (5 ∷ 5 ∷ []))
  -- the zeros, from the second mark to the end
  pub first_zero : Broken 41 0x01
  pub last_zero : Broken 531 0x01

pub refuses_a : RefusesA
unfolding member_of entry_ok entries_ok same all_are wide triple triples narrow entry_at entries_from entries_fit list_part framed_part form_a framed_a formed_a well_formed fault_of read_of
refuses_a =
    record {
      short = refl;
      long = refl;
      header = refl;
      revision_3_96 = refl;
      spares_1 = refl;
      spares_3 = refl;
      bads_0 = refl;
      bads_2 = refl;
      spares_33 = refl;
      bads_101 = refl;
      first_mark_high = refl;
      first_mark_middle = refl;
      first_mark_low = refl;
      second_mark_high = refl;
      second_mark_middle = refl;
      second_mark_low = refl;
      no_block = refl;
      no_block_high = refl;
      mark_of_the_memory = refl;
      no_mark = refl;
      block_twice = refl;
      no_block_bad = refl;
      dead_bad = refl;
      bad_twice = refl;
      first_zero = refl;
      last_zero = refl;
    }

-- THE OTHER FORM: of B its lists alone, of A its lists with zeros.
pub record Turns : Type 0 where
  pub to_a : converted spelled ≡ form_a (17 ∷ dead ∷ []) (5 ∷ 9727 ∷ [])
  pub to_b : converted (form_a (17 ∷ dead ∷ []) (5 ∷ 9727 ∷ [])) ≡ form_b 0 (17 ∷ dead ∷ []) (0 ∷ 0 ∷ []) (5 ∷ 9727 ∷ [])
  pub a_has_no_run_number : run_of (form_a (17 ∷ []) []) ≡ 0
  pub a_has_no_causes : causes_of (form_a (17 ∷ []) []) ≡ replicate 32 0

pub turns : Turns
unfolding member_of entry_ok entries_ok causes_ok same all_are sum wide triple triples narrow entry_at entries_from list_part framed_part form_a two_bytes head_b quad quads listed_part summed_part form_b two_at causes_from table_of run_of causes_of converted
turns = record { to_a = refl; to_b = refl; a_has_no_run_number = refl; a_has_no_causes = refl }

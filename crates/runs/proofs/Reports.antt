-- What runs report of a block, in the customer's words.
use mathlib.Core.Path.{◌≡◌, refl}
use mathlib.Core.List.{List, [], ◌∷◌}
use Prim.Native.Nat.{ℕ}
use lib.ListN.{replicate}
use Rattle.image.specs.FormA.{form_a}
use Rattle.drive.specs.declared.Drive.{Drive}
use Rattle.drive.specs.declared.Answer.TheVariants as answer
use Rattle.drive.specs.declared.Refusal.TheVariants as refusal
use Rattle.drive.specs.Calls.{surface}
use Rattle.drive.specs.History.{blank}
use Rattle.drive.specs.Told.{Report, began, cut, found, placed, written, attempted, given, nothing, report_of, report_at, reports_of}
use Rattle.drive.proofs.Computing.{computed}
use Rattle.drive.proofs.Transcripts.{Run, entered, bytes, disk}
use Rattle.runs.proofs.Rereads.{three_blocks, unreadable_at_first}
use Rattle.runs.proofs.Moves.{no_spare_unused, failed_reads}
use Rattle.runs.proofs.Latch.{latched}
use Rattle.runs.proofs.Cuts.{two_cuts, start_refused, table_unreadable}
use Rattle.runs.proofs.MoveCuts.{rewrite_unreadable, write_cut_new}
use Rattle.runs.proofs.Week.{week}

-- Leaves out the calls that report nothing of the block.
abbrev spoken : List Report → List Report
spoken [] = []
spoken (began ∷ rs) = began ∷ spoken rs
spoken (cut x ∷ rs) = cut x ∷ spoken rs
spoken (found xs ∷ rs) = found xs ∷ spoken rs
spoken (placed ∷ rs) = placed ∷ spoken rs
spoken (written x ∷ rs) = written x ∷ spoken rs
spoken (attempted x ∷ rs) = attempted x ∷ spoken rs
spoken (given x ∷ rs) = given x ∷ spoken rs
spoken (nothing ∷ rs) = spoken rs

-- Returns what a run reports of block n.
abbrev told_of : ℕ → Drive → Run → List Report
told_of n old r = spoken (reports_of (record { 0 = n }) r.sectors blank (entered old r))

pub the_week_is_told :
    (old : Drive) → told_of 17 old week
    ≡ found (bytes 7 ∷ []) ∷ written (bytes 1) ∷ given (bytes 1) ∷ given (bytes 1) ∷ given (bytes 1) ∷ began ∷ placed ∷ written (bytes 2) ∷ given (bytes 2) ∷ []
unfolding computed report_of report_at
the_week_is_told old = refl

pub failed_writes_are_told : (old : Drive) → told_of 17 old no_spare_unused ≡ found (bytes 7 ∷ []) ∷ attempted (bytes 1) ∷ attempted (bytes 2) ∷ []
unfolding computed report_of
failed_writes_are_told old = refl

-- The write under the latch asked for no write s, and the read at its threshold failed.
pub a_write_that_is_not_made_is_not_told : (old : Drive) → told_of 17 old latched ≡ found (bytes 7 ∷ []) ∷ attempted (bytes 1) ∷ []
unfolding computed report_of
a_write_that_is_not_made_is_not_told old = refl

-- Reports of each block what its own commands did.
pub of_block_17 : (old : Drive) → told_of 17 old three_blocks ≡ found (bytes 7 ∷ []) ∷ written (bytes 1) ∷ given (bytes 1) ∷ []
unfolding computed report_of
of_block_17 old = refl

pub of_block_18 : (old : Drive) → told_of 18 old three_blocks ≡ found (bytes 7 ∷ []) ∷ written (bytes 2) ∷ []
unfolding computed report_of
of_block_18 old = refl

-- A read at its threshold writes and fails: nothing is told of it. What could not be read as the list began was not found.
pub a_failed_read_is_not_told : (old : Drive) → told_of 17 old failed_reads ≡ found (bytes 7 ∷ []) ∷ []
unfolding computed report_of
a_failed_read_is_not_told old = refl

pub an_unreadable_sector_is_not_found : (old : Drive) → told_of 17 old unreadable_at_first ≡ found [] ∷ written (bytes 1) ∷ []
unfolding computed report_of
an_unreadable_sector_is_not_found old = refl

-- A write that was cut off is told with its bytes, of its own block and of no other; a read that was cut off is a start and no more.
pub a_cut_write_is_told :
    (old : Drive) → (told_of 17 old two_cuts ≡ found (bytes 7 ∷ []) ∷ cut (bytes 1) ∷ placed ∷ began ∷ placed ∷ cut (2 ∷ 2 ∷ replicate 530 0) ∷ placed ∷ [])
    × (told_of 18 old two_cuts ≡ found (bytes 7 ∷ []) ∷ began ∷ placed ∷ cut (bytes 3) ∷ placed ∷ began ∷ placed ∷ [])
unfolding computed report_of report_at
a_cut_write_is_told old = (refl, refl)

pub a_cut_read_is_not_told : (old : Drive) → told_of 17 old rewrite_unreadable ≡ found (bytes 7 ∷ []) ∷ began ∷ placed ∷ []
unfolding computed report_of report_at
a_cut_read_is_not_told old = refl

-- With the table unreadable there is nothing but starts to tell.
pub an_unreadable_table_is_told_by_starts_alone : (old : Drive) → told_of 17 old table_unreadable ≡ found (bytes 7 ∷ []) ∷ began ∷ began ∷ []
unfolding computed report_of report_at
an_unreadable_table_is_told_by_starts_alone old = refl

-- The write's store is cut off: told as a write that was cut off, and then the new bytes are given.
pub a_write_cut_off_at_its_store_is_told : (old : Drive) → told_of 17 old write_cut_new ≡ found (bytes 7 ∷ []) ∷ cut (bytes 1) ∷ placed ∷ given (bytes 1) ∷ []
unfolding computed report_of report_at
a_write_cut_off_at_its_store_is_told old = refl

-- A refused start, with the write under way, tells nothing, and the write is told when it is made.
pub a_refused_start_is_not_told : (old : Drive) → told_of 17 old start_refused ≡ found (bytes 7 ∷ []) ∷ written (bytes 1) ∷ given (bytes 1) ∷ []
unfolding computed report_of report_at
a_refused_start_is_not_told old = refl

-- Brings a table's image in a refused call: nothing is found.
pub a_refused_call_reports_nothing :
    report_of (record { 0 = 17 }) (disk [] []) blank (record { call = surface 0 (form_a [] []); answer = answer.Refused refusal.Buffer; buffer = [] }) ≡ nothing
unfolding computed report_of
a_refused_call_reports_nothing = refl

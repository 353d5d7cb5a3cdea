-- The history across starts forbids something: lists of lines that no run gives, each against one of its rules; and not too much.
-- Document 02, request 7.
use mathlib.Core.Path.{◌≡◌, refl, ap}
use mathlib.Core.Logic.{inl, inr}
use mathlib.Core.Bool.{false, cond}
use mathlib.Core.List.{List, [], ◌∷◌, ◌++◌}
use Prim.Native.Nat.{ℕ}
use lib.Dec.{eqb}
use Rattle.logic.proofs.Bools.{clash}
use Rattle.drive.specs.declared.Offer.TheVariants as offer
use Rattle.drive.specs.declared.Answer.TheVariants as answer
use Rattle.drive.specs.declared.Refusal.TheVariants as refusal
use Rattle.drive.specs.Calls.{Call, reset}
use Rattle.drive.specs.History.{held, Sectors, Line, restart, History, blank, FitsLine, Allows, past_all, candidates_then}
use Rattle.drive.specs.Cuts.{Tabled, NoneGood}
use Rattle.drive.specs.Told.{Report, cut, placed, written, given, nothing, none, Right}
use Rattle.drive.proofs.Computing.{computed}
use Rattle.drive.proofs.Lasts.{differ}
use Rattle.drive.proofs.Forging.{last_asks, block, byte_of, not_the_one, not_the_two, not_there, sevens, says, ends, offers, reads, writes, gives, garbles, found, found_none, asks_read, asks_write_to, asks_write, reads_good, writes_good, AllFit, all_fit}
use Rattle.drive.proofs.Transcripts.{go, done, times_out, unsettled}

-- THE PIECES

-- Starts; and a start that is refused.
abbrev starts : List Line
starts = restart (reads 4960) ∷ []

abbrev starts_in_vain : List Line
starts_in_vain = restart (answer.Refused refusal.Buffer) ∷ []

-- Reads block 17 good at spare 0.
abbrev reads_at_spare : ℕ → List Line
reads_at_spare v = asks_read 17 ++ (says go (reads 4928) ∷ ends (gives v) 0x00 0x00 v ∷ [])

-- Holds an eight at spare 0, and sevens.
abbrev eight_at_spare : Sectors
eight_at_spare = λ s. held (block (cond (eqb s.0 4928) 8 7))

-- CANDIDATES

-- A later image leaves them: the seven is none any more.
abbrev taken_anew : List Line
taken_anew = found [] ++ writes_good 1 ++ starts ++ found [] ++ reads_good 7

pub old_bytes_after_a_later_image : Allows sevens blank taken_anew → ⊥
unfolding computed
old_bytes_after_a_later_image a = not_the_one 7 1 refl ((last_asks sevens blank taken_anew a).0.read_rule refl)

-- It leaves those of a block that was never touched too: the later image has it at spare 0, which holds an eight. The seven of its first
-- place is its candidate still.
abbrev placed_elsewhere : ℕ → List Line
placed_elsewhere v = found [] ++ starts ++ found (17 ∷ []) ++ reads_at_spare v

pub bytes_of_the_place_that_a_later_image_gives : Allows eight_at_spare blank (placed_elsewhere 8) → ⊥
unfolding computed
bytes_of_the_place_that_a_later_image_gives a = not_the_one 8 7 refl ((last_asks eight_at_spare blank (placed_elsewhere 8) a).0.read_rule refl)

pub a_block_never_touched_keeps_the_candidate_of_its_first_place : AllFit eight_at_spare blank (placed_elsewhere 7)
unfolding computed
a_block_never_touched_keeps_the_candidate_of_its_first_place = all_fit eight_at_spare blank (placed_elsewhere 7) refl

-- The image that comes first gives them, whichever start reads it: the first one read none.
abbrev first_image : ℕ → List Line
first_image v = found_none ++ starts ++ found (17 ∷ []) ++ reads_at_spare v

pub bytes_of_the_home_that_no_image_gave : Allows eight_at_spare blank (first_image 7) → ⊥
unfolding computed
bytes_of_the_home_that_no_image_gave a = not_the_one 7 8 refl ((last_asks eight_at_spare blank (first_image 7) a).0.read_rule refl)

pub the_first_image_may_come_after_a_start : AllFit eight_at_spare blank (first_image 8)
unfolding computed
the_first_image_may_come_after_a_start = all_fit eight_at_spare blank (first_image 8) refl

-- A WRITE THAT A START ENDS

-- The start comes here in a write of a one, with this read good afterwards.
abbrev ended_at : List Line → ℕ → List Line
ended_at xs v = found [] ++ asks_write 1 ++ xs ++ starts ++ found [] ++ reads_good v

-- It asked for no write s: before the lower, after it, and after a read s alone.
pub bytes_of_a_write_ended_before_its_write_s :
    (Allows sevens blank (ended_at [] 1) → ⊥) × (Allows sevens blank (ended_at (says go answer.Wait ∷ []) 1) → ⊥) × (Allows sevens blank (ended_at (says go (reads 17) ∷ []) 1) → ⊥)
unfolding computed
bytes_of_a_write_ended_before_its_write_s = (
  λ a. not_the_one 1 7 refl ((last_asks sevens blank (ended_at [] 1) a).0.read_rule refl),
  λ a. not_the_one 1 7 refl ((last_asks sevens blank (ended_at (says go answer.Wait ∷ []) 1) a).0.read_rule refl),
  λ a. not_the_one 1 7 refl ((last_asks sevens blank (ended_at (says go (reads 17) ∷ []) 1) a).0.read_rule refl),
)

-- It asked for one, whether that was answered or not: its bytes or the older ones may come, and no others.
abbrev asked : List Line
asked = says go (writes 17) ∷ []

abbrev answered_too : List Line
answered_too = says go (writes 17) ∷ says done (reads 17) ∷ []

pub bytes_never_written_after_a_cut : Allows sevens blank (ended_at asked 9) → ⊥
unfolding computed
bytes_never_written_after_a_cut a = not_the_two 9 1 7 refl refl ((last_asks sevens blank (ended_at asked 9) a).0.read_rule refl)

pub bytes_of_a_write_ended_after_its_write_s_fit :
    AllFit sevens blank (ended_at asked 1) × AllFit sevens blank (ended_at asked 7) × AllFit sevens blank (ended_at answered_too 1) × AllFit sevens blank (ended_at answered_too 7)
unfolding computed
bytes_of_a_write_ended_after_its_write_s_fit = (
  all_fit sevens blank (ended_at asked 1) refl,
  all_fit sevens blank (ended_at asked 7) refl,
  all_fit sevens blank (ended_at answered_too 1) refl,
  all_fit sevens blank (ended_at answered_too 7) refl,
)

-- Once one of the two was read, the other is none any more.
abbrev two_reads : List Line
two_reads = ended_at asked 1 ++ reads_good 7

pub bytes_that_change_after_a_cut : Allows sevens blank two_reads → ⊥
unfolding computed
bytes_that_change_after_a_cut a = not_the_one 7 1 refl ((last_asks sevens blank two_reads a).0.read_rule refl)

-- The write s was that of block 18: block 17 has no new candidate.
abbrev beside_it : List Line
beside_it = found [] ++ asks_write_to 18 1 ++ (says go (writes 18) ∷ []) ++ starts ++ found [] ++ reads_good 1

pub bytes_of_a_cut_write_to_another_block : Allows sevens blank beside_it → ⊥
unfolding computed
bytes_of_a_cut_write_to_another_block a = not_the_one 1 7 refl ((last_asks sevens blank beside_it a).0.read_rule refl)

-- The write was reported before the start, and adds nothing to its block at the start.
abbrev reported_before : List Line
reported_before = found [] ++ writes_good 1 ++ asks_write 2 ++ (says go (writes 17) ∷ ends done 0x00 0x00 2 ∷ []) ++ starts ++ found [] ++ reads_good 1

pub older_bytes_after_a_good_write_and_a_start : Allows sevens blank reported_before → ⊥
unfolding computed
older_bytes_after_a_good_write_and_a_start a = not_the_one 1 2 refl ((last_asks sevens blank reported_before a).0.read_rule refl)

-- A reset broke it off before the start: it is neither good nor failed, and a start adds nothing of it.
abbrev broken_off_before : List Line
broken_off_before = found [] ++ asks_write 1 ++ asked ++ (says reset answer.Wait ∷ []) ++ starts ++ found [] ++ reads_good 1

pub bytes_of_a_write_broken_off_before_a_start : Allows sevens blank broken_off_before → ⊥
unfolding computed
bytes_of_a_write_broken_off_before_a_start a = not_the_one 1 7 refl ((last_asks sevens blank broken_off_before a).0.read_rule refl)

-- A read writes again what it read, and a start adds nothing of it: no byte was fed, so its bytes would be zeros.
abbrev read_ended : List Line
read_ended = found [] ++ asks_read 17 ++ (says go (reads 17) ∷ says (garbles 9) (writes 17) ∷ []) ++ starts ++ found [] ++ reads_good 0

pub bytes_of_a_cut_read : Allows sevens blank read_ended → ⊥
unfolding computed
bytes_of_a_cut_read a = not_the_one 0 7 refl ((last_asks sevens blank read_ended a).0.read_rule refl)

-- AFTER A START THE COMMAND BEFORE IS OVER

-- A finish comes with no command acted on since: it reports nothing, so the older bytes may come.
abbrev late_finish : ℕ → List Line
late_finish v = found [] ++ asks_write 1 ++ asked ++ starts ++ found [] ++ (ends done 0x00 0x00 1 ∷ []) ++ reads_good v

pub a_finish_after_a_start_reports_nothing : AllFit sevens blank (late_finish 7)
unfolding computed
a_finish_after_a_start_reports_nothing = all_fit sevens blank (late_finish 7) refl

-- Nor does it report a good write that asked for no write s.
abbrev late_finish_unasked : List Line
late_finish_unasked = found [] ++ asks_write 1 ++ (says go answer.Wait ∷ []) ++ starts ++ found [] ++ (ends done 0x00 0x00 1 ∷ []) ++ reads_good 1

pub bytes_of_a_write_finished_after_a_start : Allows sevens blank late_finish_unasked → ⊥
unfolding computed
bytes_of_a_write_finished_after_a_start a = not_the_one 1 7 refl ((last_asks sevens blank late_finish_unasked a).0.read_rule refl)

-- The command bytes of before the start are dropped: what is acted on without new ones is a read of block 0.
abbrev command_of_before : List Line
command_of_before = found [] ++ asks_read 17 ++ starts ++ found [] ++ (offers offer.Read ∷ says go (reads 17) ∷ [])

pub a_command_of_before_the_start : Allows sevens blank command_of_before → ⊥
unfolding computed
a_command_of_before_the_start a = not_there 0 17 refl ((last_asks sevens blank command_of_before a).0.first_rule refl).1

-- At a start itself there is no rule to keep.
pub at_a_start_nothing_is_asked : (H : History) → FitsLine H (restart (reads 4960)) × FitsLine H (restart (answer.Refused refusal.Buffer))
at_a_start_nothing_is_asked H = (tt, tt)

-- An access of the start's own is none of the command before.
pub the_reads_of_a_start_fit : AllFit sevens blank (found [] ++ asks_read 17 ++ (says go (reads 17) ∷ []) ++ starts ++ (says times_out (reads 4960) ∷ []) ++ found [] ++ reads_good 7)
unfolding computed
the_reads_of_a_start_fit = all_fit sevens blank (found [] ++ asks_read 17 ++ (says go (reads 17) ∷ []) ++ starts ++ (says times_out (reads 4960) ∷ []) ++ found [] ++ reads_good 7) refl

-- A REFUSED START CHANGES NOTHING: the write is reported good after it, and no table may be read.
abbrev refused_between : List Line
refused_between = found [] ++ asks_write 1 ++ asked ++ starts_in_vain ++ (ends done 0x00 0x00 1 ∷ []) ++ reads_good 7

pub old_bytes_after_a_refused_start : Allows sevens blank refused_between → ⊥
unfolding computed
old_bytes_after_a_refused_start a = not_the_one 7 1 refl ((last_asks sevens blank refused_between a).0.read_rule refl)

abbrev refused_then_image : List Line
refused_then_image = found [] ++ starts_in_vain ++ found (17 ∷ []) ++ asks_read 17 ++ (says go (reads 4928) ∷ [])

pub a_table_after_a_refused_start : Allows sevens blank refused_then_image → ⊥
unfolding computed
a_table_after_a_refused_start a = not_there 17 4928 refl ((last_asks sevens blank refused_then_image a).0.first_rule refl).1

-- Nor does it add the bytes of the write under way, which fails after it without a write s.
abbrev refused_then_failed : List Line
refused_then_failed = found [] ++ asks_write 1 ++ (says go answer.Wait ∷ []) ++ starts_in_vain ++ (ends times_out 0x01 0x00 1 ∷ []) ++ reads_good 1

pub bytes_of_a_write_that_failed_after_a_refused_start : Allows sevens blank refused_then_failed → ⊥
unfolding computed
bytes_of_a_write_that_failed_after_a_refused_start a = not_the_one 1 7 refl ((last_asks sevens blank refused_then_failed a).0.read_rule refl)

-- SECTORS

-- A later image gives them anew: it has the block at spare 0.
abbrev moved_by_the_image : List Line
moved_by_the_image = found [] ++ starts ++ found (17 ∷ []) ++ asks_read 17 ++ (says go (reads 17) ∷ [])

pub a_first_access_at_the_old_place_after_a_later_image : Allows sevens blank moved_by_the_image → ⊥
unfolding computed
a_first_access_at_the_old_place_after_a_later_image a = not_there 4928 17 refl ((last_asks sevens blank moved_by_the_image a).0.first_rule refl).1

-- The block had moved to spare 0, and the later image has it at its home.
abbrev moved_back : List Line
moved_back =
    found [] ++ asks_read 17 ++ (says go (reads 17) ∷ says (garbles 9) (reads 4928) ∷ ends (gives 7) 0x08 0x04 7 ∷ [])
    ++ starts ++ found [] ++ asks_read 17 ++ (says go (reads 4928) ∷ [])

pub a_first_access_at_a_spare_that_a_later_image_has_not : Allows sevens blank moved_back → ⊥
unfolding computed
a_first_access_at_a_spare_that_a_later_image_has_not a = not_there 17 4928 refl ((last_asks sevens blank moved_back a).0.first_rule refl).1

-- Until an image is read they stay: a start that reads none leaves the block at its home.
abbrev no_image : List Line
no_image = found [] ++ starts ++ found_none ++ asks_read 17 ++ (says go (reads 4928) ∷ [])

pub a_first_access_elsewhere_after_a_start_without_an_image : Allows sevens blank no_image → ⊥
unfolding computed
a_first_access_elsewhere_after_a_start_without_an_image a = not_there 17 4928 refl ((last_asks sevens blank no_image a).0.first_rule refl).1

-- WHY A COMMAND FAILS WHILE A PLACE IS UNSTORED. Block 17 is at spare 0 and holds the one there, by a table that was not stored.

-- A write of the one moves to spare 0, and its store is answered so: it reports this status 1.
abbrev moves_unstored : Call → ℕ → List Line
moves_unstored c s =
    asks_write 1 ++ (says go (writes 17) ∷ says times_out (writes 4928) ∷ says done (reads 4928) ∷ says (gives 1) answer.Store ∷ ends c s 0x04 1 ∷ [])

-- Reported good: the next start reads the old table, and the old bytes come, with a good read of the new ones in between or none.
abbrev good_move : List Line → List Line
good_move xs = found [] ++ moves_unstored times_out 0x04 ++ xs ++ starts ++ found [] ++ reads_good 7

pub a_move_reported_good_whose_store_was_not_done : (Allows sevens blank (good_move []) → ⊥) × (Allows sevens blank (good_move (reads_at_spare 1)) → ⊥)
unfolding computed
a_move_reported_good_whose_store_was_not_done = (
  λ a. not_the_one 7 1 refl ((last_asks sevens blank (good_move []) a).0.read_rule refl),
  λ a. not_the_one 7 1 refl ((last_asks sevens blank (good_move (reads_at_spare 1)) a).0.read_rule refl),
)

-- Reported failed, as it has to be: the old bytes may come.
pub a_move_reported_failed_may_be_lost : AllFit sevens blank (found [] ++ moves_unstored times_out 0x05 ++ starts ++ found [] ++ reads_good 7)
unfolding computed
a_move_reported_failed_may_be_lost = all_fit sevens blank (found [] ++ moves_unstored times_out 0x05 ++ starts ++ found [] ++ reads_good 7) refl

-- Reported failed, its store answered 3; then under the latch a good read of the block at its spare. That alone is allowed, but after
-- the next start its old bytes at its old place are not.
abbrev latched_read : List Line
latched_read = found [] ++ moves_unstored unsettled 0x15 ++ reads_at_spare 1

pub a_good_read_of_an_unstored_place_fits : AllFit sevens blank latched_read
unfolding computed
a_good_read_of_an_unstored_place_fits = all_fit sevens blank latched_read refl

abbrev latched_read_lost : List Line
latched_read_lost = latched_read ++ starts ++ found [] ++ reads_good 7

pub old_bytes_after_a_good_read_of_an_unstored_place : Allows sevens blank latched_read_lost → ⊥
unfolding computed
old_bytes_after_a_good_read_of_an_unstored_place a = not_the_one 7 1 refl ((last_asks sevens blank latched_read_lost a).0.read_rule refl)

-- The sparing bit moves the block also where its store was not done.
abbrev unstored_forgotten : List Line
unstored_forgotten = found [] ++ moves_unstored times_out 0x05 ++ asks_read 17 ++ (says go (reads 17) ∷ [])

pub a_block_read_at_its_home_after_an_unstored_move : Allows sevens blank unstored_forgotten → ⊥
unfolding computed
a_block_read_at_its_home_after_an_unstored_move a = not_there 4928 17 refl ((last_asks sevens blank unstored_forgotten a).0.first_rule refl).1

-- A GOOD REPORT COMES AFTER A TABLE, read since the last start

abbrev AllTabled : List Line → Type 0
AllTabled xs = Tabled sevens blank xs

-- With no table at all, with none since the start, a read and a write; and with one before a start that was refused and one after it.
pub good_before_a_table_was_read :
    (AllTabled (found_none ++ asks_read 17 ++ (ends go 0x00 0x00 7 ∷ [])) → ⊥)
    × (AllTabled (found [] ++ starts ++ asks_read 17 ++ (ends go 0x00 0x00 7 ∷ [])) → ⊥)
    × (AllTabled (found [] ++ starts ++ asks_write 1 ++ (ends go 0x00 0x00 1 ∷ [])) → ⊥)
    × (AllTabled (found [] ++ starts_in_vain ++ starts ++ asks_read 17 ++ (ends go 0x00 0x00 7 ∷ [])) → ⊥)
unfolding computed
good_before_a_table_was_read = (
  λ d. clash (d.1.1.1.1.1.1.0 refl) refl,
  λ d. clash (d.1.1.1.1.1.0 refl) refl,
  λ d. clash (d.1.1.1.1.1.1.1.1.0 refl) refl,
  λ d. clash (d.1.1.1.1.1.0 refl) refl,
)

pub good_after_a_table_was_read :
    AllTabled (found [] ++ starts_in_vain ++ asks_read 17 ++ (ends go 0x00 0x00 7 ∷ [])) × AllTabled (starts ++ found [] ++ asks_read 17 ++ (ends go 0x00 0x00 7 ∷ []))
unfolding computed
good_after_a_table_was_read = (
  (λ g. clash g refl, (λ g. clash g refl, (λ g. clash g refl, (λ g. clash g refl, (λ g. clash g refl, (λ g. refl, tt)))))),
  (λ g. clash g refl, (λ g. clash g refl, (λ g. clash g refl, (λ g. clash g refl, (λ g. clash g refl, (λ g. refl, tt)))))),
)

-- NO REPORT OF A BLOCK GOOD, which is what an unreadable table has to lead to

-- A table was read before the start, and none since.
abbrev Dark : List Line → Type 0
Dark xs = NoneGood sevens (past_all sevens blank (found [] ++ writes_good 1 ++ starts)) xs

pub a_good_report_with_no_table :
    (Dark (asks_read 17 ++ (ends go 0x00 0x00 1 ∷ [])) → ⊥)
    × (Dark (asks_write 1 ++ (ends go 0x00 0x00 1 ∷ [])) → ⊥)
    × (Dark (asks_read 18 ++ (says go (reads 18) ∷ ends (gives 7) 0x08 0x00 7 ∷ [])) → ⊥)
    × (Dark (starts ++ found_none ++ asks_read 17 ++ (ends go 0x00 0x00 1 ∷ [])) → ⊥)
unfolding computed
a_good_report_with_no_table = (
  λ d. clash refl d.1.1.1.1.0,
  λ d. clash refl d.1.1.1.1.1.1.1.0,
  λ d. clash refl d.1.1.1.1.1.0,
  λ d. clash refl d.1.1.1.1.1.1.0,
)

-- A read and a write fail, a number of no block is good, a handshake is broken off, and a start comes: no block is reported good.
pub failed_reports_with_no_table :
    Dark (found_none ++ asks_read 17 ++ (ends go 0x01 0x08 1 ∷ []) ++ asks_write 1 ++ (ends go 0x41 0x08 1 ∷ []) ++ asks_read 0xFFFFFE ++ (ends go 0x00 0x00 1 ∷ []) ++ starts ++ starts_in_vain)
unfolding computed
failed_reports_with_no_table =
    (refl, (refl, (refl, (refl, (refl, (refl, (refl, (refl, (refl, (refl, (refl, (refl, (refl, (refl, (refl, (refl, (refl, (refl, (refl, (refl, tt))))))))))))))))))))

-- WHAT A CUT KEEPS: the candidates that the history had where the power failed, the interrupted write's bytes being one

-- Ends a write of a one with a start.
abbrev ended : History
ended = past_all sevens blank (found [] ++ asks_write 1 ++ asked)

pub the_candidates_at_a_cut : (candidates_then ended (record { 0 = 17 }) ≡ block 1 ∷ block 7 ∷ []) × (candidates_then ended (record { 0 = 18 }) ≡ block 7 ∷ [])
unfolding computed
the_candidates_at_a_cut = (refl, refl)

-- Says that reports of block n after that start are right.
abbrev Kept : ℕ → List Report → Type 0
Kept n rs = Right (candidates_then ended (record { 0 = n })) none false rs

pub reports_after_a_cut_that_are_wrong :
    (Kept 17 (given (block 1) ∷ []) → ⊥)
    × (Kept 17 (placed ∷ given (block 9) ∷ []) → ⊥)
    × (Kept 17 (placed ∷ given (block 1) ∷ given (block 7) ∷ []) → ⊥)
    × (Kept 18 (placed ∷ given (block 1) ∷ []) → ⊥)
unfolding computed
reports_after_a_cut_that_are_wrong = (
  λ r. clash r.0 refl,
  λ r. not_the_two 9 1 7 refl refl r.1,
  λ r. differ 7 1 refl (ap byte_of r.3.2),
  λ r. not_the_one 1 7 refl r.1,
)

pub reports_after_a_cut_that_are_right :
    Kept 17 (placed ∷ given (block 1) ∷ [])
    × Kept 17 (placed ∷ given (block 7) ∷ given (block 7) ∷ [])
    × Kept 17 (placed ∷ written (block 2) ∷ given (block 2) ∷ [])
    × Kept 18 (nothing ∷ cut (block 2) ∷ placed ∷ given (block 7) ∷ [])
unfolding computed
reports_after_a_cut_that_are_right = (
  (refl, inl refl, tt, tt),
  (refl, inr (inl refl), tt, (refl, inr (inl refl), refl, tt)),
  (refl, (refl, inl refl, tt, tt)),
  (refl, inr (inl refl), tt, tt),
)

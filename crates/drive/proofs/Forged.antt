-- The history forbids something: lists of lines that no run gives, each against one of its rules; and not too much.
use mathlib.Core.Path.{refl, ap}
use mathlib.Core.Logic.{inl, inr}
use mathlib.Core.Bool.{cond}
use mathlib.Core.List.{List, [], ◌∷◌, ◌++◌}
use lib.Dec.{eqb}
use lib.ListN.{get_or, replicate}
use Rattle.logic.proofs.Bools.{clash}
use Rattle.geometry.specs.declared.Block.{Block}
use Rattle.image.specs.FormA.{form_a}
use Rattle.drive.specs.declared.Offer.TheVariants as offer
use Rattle.drive.specs.declared.Answer.TheVariants as answer
use Rattle.drive.specs.declared.Refusal.TheVariants as refusal
use Rattle.drive.specs.Calls.{raise, lower, feed, surface, reset}
use Rattle.drive.specs.History.{held, unreadable, Sectors, Line, blank, In, Allows}
use Rattle.drive.specs.Views.{Bytes}
use Rattle.drive.proofs.Computing.{computed}
use Rattle.drive.proofs.Lasts.{differ}
use Rattle.drive.proofs.Forging.{last_asks, block, byte_of, not_the_one, not_the_two, not_there, not_anywhere, sevens, says, ends, shows, offers, reads, writes, gives, garbles, found, found_none, asks_read, opens_write, asks_write_to, asks_write, reads_good, writes_good, moves_in_vain, AllFit, all_fit}
use Rattle.drive.proofs.Transcripts.{go, done, times_out, command}

-- CANDIDATES

pub the_second_candidate : In (block 1) (block 2 ∷ block 1 ∷ [])
the_second_candidate = inr (inl refl)

pub no_candidate : In (block 9) (block 2 ∷ block 1 ∷ []) → ⊥
no_candidate (inl e) = differ 9 2 refl (ap byte_of e)
no_candidate (inr (inl e)) = differ 9 1 refl (ap byte_of e)
no_candidate (inr (inr e)) = e

-- Only the last of the 532 bytes is another.
abbrev seven_and_one : Bytes
seven_and_one = 7 ∷ replicate 530 0 ++ (1 ∷ [])

pub no_candidate_by_its_last_byte : In seven_and_one (block 7 ∷ []) → ⊥
no_candidate_by_its_last_byte (inl e) = differ 1 0 refl (ap (λ (x : Bytes). get_or x 531 0) e)
no_candidate_by_its_last_byte (inr e) = e

-- GOOD READS

-- Nobody wrote the nine.
abbrev never_written : List Line
never_written = found [] ++ reads_good 9

pub bytes_never_written : Allows sevens blank never_written → ⊥
unfolding computed
bytes_never_written a = not_the_one 9 7 refl (a.2.2.2.2.2.2.0.read_rule refl)

-- The nine came with answer 1, and the read is reported good with the bit of a CRC error.
abbrev garbled_kept : List Line
garbled_kept = found [] ++ asks_read 17 ++ (says go (reads 17) ∷ says (garbles 9) (reads 17) ∷ ends (gives 7) 0x08 0x00 9 ∷ [])

pub garbled_bytes_reported_good : Allows sevens blank garbled_kept → ⊥
unfolding computed
garbled_bytes_reported_good a = not_the_one 9 7 refl ((last_asks sevens blank garbled_kept a).0.read_rule refl)

-- The two was written since.
abbrev stale : List Line
stale = found [] ++ writes_good 1 ++ writes_good 2 ++ reads_good 1

pub old_bytes_after_a_good_write : Allows sevens blank stale → ⊥
unfolding computed
old_bytes_after_a_good_write a = not_the_one 1 2 refl ((last_asks sevens blank stale a).0.read_rule refl)

-- After a failed write of the one either is a candidate, but not first the one and then the seven.
abbrev changing : List Line
changing =
    found [] ++ asks_write 1 ++ (says go (writes 17) ∷ ends times_out 0x05 0x00 1 ∷ [])
    ++ reads_good 1 ++ reads_good 7

pub bytes_that_change_between_two_good_reads : Allows sevens blank changing → ⊥
unfolding computed
bytes_that_change_between_two_good_reads a = not_the_one 7 1 refl ((last_asks sevens blank changing a).0.read_rule refl)

-- A handshake byte other than 55 at offer 06: this finish reports nothing, though bit 0 is clear.
abbrev broken_off : List Line
broken_off = found [] ++ asks_write 1 ++ (ends (lower 0x00) 0x80 0x00 1 ∷ []) ++ reads_good 1

pub bytes_of_a_write_broken_off : Allows sevens blank broken_off → ⊥
unfolding computed
bytes_of_a_write_broken_off a = not_the_one 1 7 refl ((last_asks sevens blank broken_off a).0.read_rule refl)

-- The write of the two fails with no write s of its own, after a command that asked for one.
abbrev not_made : List Line
not_made = found [] ++ writes_good 1 ++ asks_write 2 ++ (ends go 0x11 0x00 2 ∷ []) ++ reads_good 2

pub bytes_of_a_write_not_made : Allows sevens blank not_made → ⊥
unfolding computed
bytes_of_a_write_not_made a = not_the_one 2 1 refl ((last_asks sevens blank not_made a).0.read_rule refl)

-- The same, where it asks for a read s.
abbrev not_made_after_aread : List Line
not_made_after_aread = found [] ++ writes_good 1 ++ asks_write 2 ++ (says go (reads 17) ∷ ends times_out 0x05 0x00 2 ∷ []) ++ reads_good 2

pub bytes_of_a_write_not_made_after_a_read : Allows sevens blank not_made_after_aread → ⊥
unfolding computed
bytes_of_a_write_not_made_after_a_read a = not_the_one 2 1 refl ((last_asks sevens blank not_made_after_aread a).0.read_rule refl)

-- A failed read adds no candidate, even after a write s of its own.
abbrev failed_read : List Line
failed_read = found [] ++ asks_read 17 ++ (says go (reads 17) ∷ says (garbles 9) (writes 17) ∷ ends times_out 0x0D 0x00 9 ∷ []) ++ reads_good 9

pub bytes_of_a_failed_read : Allows sevens blank failed_read → ⊥
unfolding computed
bytes_of_a_failed_read a = not_the_one 9 7 refl ((last_asks sevens blank failed_read a).0.read_rule refl)

-- The first finish reports it failed with nothing written. A second one, with bit 0 clear, reports nothing.
abbrev finished_twice : List Line
finished_twice = found [] ++ asks_write 1 ++ (ends go 0x11 0x00 1 ∷ ends times_out 0x00 0x00 1 ∷ []) ++ reads_good 1

pub bytes_of_a_write_that_finished_twice : Allows sevens blank finished_twice → ⊥
unfolding computed
bytes_of_a_write_that_finished_twice a = not_the_one 1 7 refl ((last_asks sevens blank finished_twice a).0.read_rule refl)

-- The one was not taken, so zeros were written.
abbrev fed_in_vain : List Line
fed_in_vain =
    found [] ++ opens_write 17
    ++ (says go answer.Wait ∷ says (feed (1 ∷ [])) (answer.Refused refusal.Bytes) ∷ offers offer.Act ∷ says go (writes 17) ∷ ends done 0x00 0x00 1 ∷ [])
    ++ reads_good 1

pub bytes_of_a_refused_feed : Allows sevens blank fed_in_vain → ⊥
unfolding computed
bytes_of_a_refused_feed a = not_the_one 1 0 refl ((last_asks sevens blank fed_in_vain a).0.read_rule refl)

-- A reset breaks the write off, so the finish after it reports nothing.
abbrev reset_in_between : List Line
reset_in_between = found [] ++ asks_write 1 ++ (says go (writes 17) ∷ says reset answer.Wait ∷ ends done 0x00 0x00 1 ∷ []) ++ reads_good 1

pub bytes_of_a_write_that_was_reset : Allows sevens blank reset_in_between → ⊥
unfolding computed
bytes_of_a_write_that_was_reset a = not_the_one 1 7 refl ((last_asks sevens blank reset_in_between a).0.read_rule refl)

-- The one was fed, and the data part begins with a nine at the finish.
abbrev left_behind : List Line
left_behind = found [] ++ asks_write 1 ++ (says go (writes 17) ∷ ends done 0x00 0x00 9 ∷ []) ++ reads_good 9

pub bytes_that_a_good_write_left_in_the_buffer : Allows sevens blank left_behind → ⊥
unfolding computed
bytes_that_a_good_write_left_in_the_buffer a = not_the_one 9 1 refl ((last_asks sevens blank left_behind a).0.read_rule refl)

-- The data part holds another job's nines at offer 03. The one is fed alone, and the nines behind it are written and read.
abbrev nines : Bytes
nines = replicate 532 9

abbrev one_and_nines : Bytes
one_and_nines = 1 ∷ replicate 531 9

abbrev not_zeroed : List Line
not_zeroed =
    found []
    ++ (offers offer.Command ∷ says go answer.Wait ∷ says (feed (command 1 17 [])) answer.Wait ∷ shows nines raise (answer.Offer offer.Write) ∷ shows nines go answer.Wait ∷ [])
    ++ (shows one_and_nines (feed (1 ∷ [])) answer.Wait ∷ shows one_and_nines raise (answer.Offer offer.Act) ∷ shows one_and_nines go (writes 17) ∷ shows one_and_nines done answer.Finished ∷ [])
    ++ asks_read 17 ++ (says go (reads 17) ∷ shows one_and_nines (surface 0 one_and_nines) answer.Finished ∷ [])

not_behind : In one_and_nines (block 1 ∷ []) → ⊥
not_behind (inl e) = differ 9 0 refl (ap (λ (x : Bytes). get_or x 1 0) e)
not_behind (inr e) = e

pub bytes_of_another_job_behind_short_data : Allows sevens blank not_zeroed → ⊥
unfolding computed
bytes_of_another_job_behind_short_data a = not_behind ((last_asks sevens blank not_zeroed a).0.read_rule refl)

-- It is reported good and asked for no write s, so the seven is a candidate no more.
abbrev good_not_made : List Line
good_not_made = found [] ++ asks_write 1 ++ (ends go 0x00 0x00 1 ∷ []) ++ reads_good 7

pub old_bytes_after_a_write_reported_good_and_not_made : Allows sevens blank good_not_made → ⊥
unfolding computed
old_bytes_after_a_write_reported_good_and_not_made a = not_the_one 7 1 refl ((last_asks sevens blank good_not_made a).0.read_rule refl)

-- A good read meets the rule whether the block moved or not.
abbrev moved_with_nines : List Line
moved_with_nines = found [] ++ asks_read 17 ++ (says go (reads 17) ∷ says (garbles 9) (reads 4928) ∷ ends (gives 9) 0x08 0x04 9 ∷ [])

pub bytes_never_written_with_the_sparing_bit : Allows sevens blank moved_with_nines → ⊥
unfolding computed
bytes_never_written_with_the_sparing_bit a = not_the_one 9 7 refl ((last_asks sevens blank moved_with_nines a).0.read_rule refl)

-- After the write s a handshake byte other than 55 is answered finished. So the write is not reported.
abbrev byte_in_between : List Line
byte_in_between = found [] ++ asks_write 1 ++ (says go (writes 17) ∷ ends (lower 0x00) 0x00 0x00 1 ∷ []) ++ reads_good 1

pub bytes_of_a_write_that_another_byte_broke_off : Allows sevens blank byte_in_between → ⊥
unfolding computed
bytes_of_a_write_that_another_byte_broke_off a = not_the_one 1 7 refl ((last_asks sevens blank byte_in_between a).0.read_rule refl)

-- The one was fed and the write failed. The nine in the data part is no candidate.
abbrev failed_left : List Line
failed_left = found [] ++ asks_write 1 ++ (says go (writes 17) ∷ ends times_out 0x05 0x00 9 ∷ []) ++ reads_good 9

pub bytes_that_a_failed_write_left_in_the_buffer : Allows sevens blank failed_left → ⊥
unfolding computed
bytes_that_a_failed_write_left_in_the_buffer a = not_the_two 9 1 7 refl refl ((last_asks sevens blank failed_left a).0.read_rule refl)

abbrev last_byte_wrong : List Line
last_byte_wrong = found [] ++ asks_read 17 ++ (says go (reads 17) ∷ shows seven_and_one (surface 0 seven_and_one) answer.Finished ∷ [])

pub bytes_with_the_last_one_wrong : Allows sevens blank last_byte_wrong → ⊥
unfolding computed
bytes_with_the_last_one_wrong a = no_candidate_by_its_last_byte ((last_asks sevens blank last_byte_wrong a).0.read_rule refl)

-- Another block holds the image of a table. To read it is not to read the table.
abbrev image_elsewhere : List Line
image_elsewhere =
    found [] ++ writes_good 1
    ++ asks_read 18 ++ (says go (reads 18) ∷ ends (surface 0 (form_a [] [])) 0x01 0x00 0 ∷ []) ++ reads_good 7

pub old_bytes_after_an_image_read_elsewhere : Allows sevens blank image_elsewhere → ⊥
unfolding computed
old_bytes_after_an_image_read_elsewhere a = not_the_one 7 1 refl ((last_asks sevens blank image_elsewhere a).0.read_rule refl)

-- No sector holds anything as the list begins, and nothing is written.
abbrev unreadable_at_first : List Line
unreadable_at_first = found [] ++ reads_good 7

pub a_good_read_of_an_unreadable_sector : Allows (λ s. unreadable) blank unreadable_at_first → ⊥
unfolding computed
a_good_read_of_an_unreadable_sector a = (last_asks (λ s. unreadable) blank unreadable_at_first a).0.read_rule refl

-- Without an access, as from the buffer.
abbrev before_the_table : List Line
before_the_table = found_none ++ asks_read 17 ++ (ends go 0x00 0x00 7 ∷ [])

pub a_good_read_before_any_table : Allows sevens blank before_the_table → ⊥
unfolding computed
a_good_read_before_any_table a = (last_asks sevens blank before_the_table a).0.read_rule refl

-- A second 55 breaks nothing off, so the write is reported good.
abbrev second_go : List Line
second_go = found [] ++ asks_write 1 ++ (says go (writes 17) ∷ says go answer.Wait ∷ ends done 0x00 0x00 1 ∷ []) ++ reads_good 7

pub old_bytes_after_a_second_55 : Allows sevens blank second_go → ⊥
unfolding computed
old_bytes_after_a_second_55 a = not_the_one 7 1 refl ((last_asks sevens blank second_go a).0.read_rule refl)

-- The lower with 55 after offer 03 acts on no command.
abbrev too_early : List Line
too_early = found [] ++ opens_write 17 ++ (ends go 0x00 0x00 0 ∷ []) ++ reads_good 0

pub bytes_of_a_write_finished_before_its_data : Allows sevens blank too_early → ⊥
unfolding computed
bytes_of_a_write_finished_before_its_data a = not_the_one 0 7 refl ((last_asks sevens blank too_early a).0.read_rule refl)

-- An image comes while no read is awaited: it is no table.
abbrev image_unasked : List Line
image_unasked = found [] ++ writes_good 1 ++ (says (surface 0 (form_a [] [])) answer.Wait ∷ []) ++ reads_good 7

pub old_bytes_after_an_image_not_asked_for : Allows sevens blank image_unasked → ⊥
unfolding computed
old_bytes_after_an_image_not_asked_for a = not_the_one 7 1 refl ((last_asks sevens blank image_unasked a).0.read_rule refl)

-- The one was written to block 18.
abbrev written_beside : List Line
written_beside = found [] ++ asks_write_to 18 1 ++ (says go (writes 18) ∷ ends done 0x00 0x00 1 ∷ []) ++ reads_good 1

pub bytes_of_a_write_to_another_block : Allows sevens blank written_beside → ⊥
unfolding computed
bytes_of_a_write_to_another_block a = not_the_one 1 7 refl ((last_asks sevens blank written_beside a).0.read_rule refl)

-- The table has block 17 at spare 0, which holds an eight. Its home holds a seven.
abbrev eight_at_spare : Sectors
eight_at_spare = λ s. held (block (cond (eqb s.0 4928) 8 7))

abbrev home_of_amoved_block : List Line
home_of_amoved_block = found (17 ∷ []) ++ asks_read 17 ++ (says go (reads 4928) ∷ ends (gives 7) 0x00 0x00 7 ∷ [])

pub bytes_of_the_home_of_a_moved_block : Allows eight_at_spare blank home_of_amoved_block → ⊥
unfolding computed
bytes_of_the_home_of_a_moved_block a = not_the_one 7 8 refl ((last_asks eight_at_spare blank home_of_amoved_block a).0.read_rule refl)

-- FIRST ACCESSES

-- 64 are added from block 4927 on.
abbrev far_from_home : List Line
far_from_home = found [] ++ asks_read 4927 ++ (says go (reads 4991) ∷ [])

pub a_first_read_elsewhere : Allows sevens blank far_from_home → ⊥
unfolding computed
a_first_read_elsewhere a = not_there 4927 4991 refl ((last_asks sevens blank far_from_home a).0.first_rule refl).1

-- A write at the sector beside.
abbrev next_door : List Line
next_door = found [] ++ asks_write 1 ++ (says go (writes 18) ∷ [])

pub a_first_write_elsewhere : Allows sevens blank next_door → ⊥
unfolding computed
a_first_write_elsewhere a = not_there 17 18 refl ((last_asks sevens blank next_door a).0.first_rule refl).1

-- The table has it at spare 0.
abbrev spare_forgotten : List Line
spare_forgotten = found (17 ∷ []) ++ asks_read 17 ++ (says go (reads 17) ∷ [])

pub a_moved_block_read_at_its_home : Allows sevens blank spare_forgotten → ⊥
unfolding computed
a_moved_block_read_at_its_home a = not_there 4928 17 refl ((last_asks sevens blank spare_forgotten a).0.first_rule refl).1

-- The sparing bit told of the move to spare 0.
abbrev move_forgotten : List Line
move_forgotten =
    found [] ++ asks_read 17 ++ (says go (reads 17) ∷ says (garbles 9) (reads 4928) ∷ ends (gives 7) 0x08 0x04 7 ∷ [])
    ++ asks_read 17 ++ (says go (reads 17) ∷ [])

pub a_block_read_at_its_home_after_its_move : Allows sevens blank move_forgotten → ⊥
unfolding computed
a_block_read_at_its_home_after_its_move a = not_there 4928 17 refl ((last_asks sevens blank move_forgotten a).0.first_rule refl).1

-- So does the sparing bit of a command that failed.
abbrev failed_and_moved : List Line
failed_and_moved =
    found [] ++ asks_read 17 ++ (says go (reads 17) ∷ says (garbles 9) (reads 4928) ∷ ends (gives 7) 0x09 0x04 7 ∷ [])
    ++ asks_read 17 ++ (says go (reads 17) ∷ [])

pub a_block_read_at_its_home_after_a_failed_command_moved_it : Allows sevens blank failed_and_moved → ⊥
unfolding computed
a_block_read_at_its_home_after_a_failed_command_moved_it a = not_there 4928 17 refl ((last_asks sevens blank failed_and_moved a).0.first_rule refl).1

-- The command failed, with no sparing bit: the block keeps its sector.
abbrev spare_taken : List Line
spare_taken = found [] ++ moves_in_vain ++ asks_read 17 ++ (says go (reads 4928) ∷ [])

pub a_block_read_at_a_spare_after_a_failed_move : Allows sevens blank spare_taken → ⊥
unfolding computed
a_block_read_at_a_spare_after_a_failed_move a = not_there 17 4928 refl ((last_asks sevens blank spare_taken a).0.first_rule refl).1

-- The finish of a command broken off has the sparing bit, and moves nothing.
abbrev moved_at_abreak : List Line
moved_at_abreak =
    found [] ++ moves_in_vain ++ asks_read 17 ++ (ends (lower 0x00) 0x80 0x04 7 ∷ [])
    ++ asks_read 17 ++ (says go (reads 4928) ∷ [])

pub a_block_read_at_a_spare_after_a_break : Allows sevens blank moved_at_abreak → ⊥
unfolding computed
a_block_read_at_a_spare_after_a_break a = not_there 17 4928 refl ((last_asks sevens blank moved_at_abreak a).0.first_rule refl).1

-- A write tells of a move and has no read s of its own.
abbrev moved_by_another : List Line
moved_by_another =
    found [] ++ moves_in_vain ++ asks_write 1 ++ (says go (writes 17) ∷ ends done 0x00 0x04 1 ∷ [])
    ++ asks_read 17 ++ (says go (reads 4928) ∷ [])

pub a_block_read_where_the_command_before_had_read : Allows sevens blank moved_by_another → ⊥
unfolding computed
a_block_read_where_the_command_before_had_read a = not_anywhere 4928 ((last_asks sevens blank moved_by_another a).0.first_rule refl).1

-- The first access comes after the lower, and the command before had one.
abbrev late : List Line
late = found [] ++ writes_good 1 ++ asks_read 17 ++ (says go answer.Wait ∷ says times_out (reads 18) ∷ [])

pub a_late_first_access_elsewhere : Allows sevens blank late → ⊥
unfolding computed
a_late_first_access_elsewhere a = not_there 17 18 refl ((last_asks sevens blank late a).0.first_rule refl).1

-- No block has a sector yet.
abbrev access_first : List Line
access_first = found_none ++ asks_read 17 ++ (says go (reads 17) ∷ [])

pub an_access_before_any_table : Allows sevens blank access_first → ⊥
unfolding computed
an_access_before_any_table a = not_anywhere 17 ((last_asks sevens blank access_first a).0.first_rule refl).1

-- 9728 is no block.
abbrev no_block : List Line
no_block = found [] ++ asks_read 9728 ++ (says go (reads 9728) ∷ [])

pub an_access_for_a_number_of_no_block : Allows sevens blank no_block → ⊥
unfolding computed
an_access_for_a_number_of_no_block a = clash ((last_asks sevens blank no_block a).0.first_rule refl).0 refl

-- SECTORS

-- Block 17 is said to have moved to the home of block 18.
abbrev shared : List Line
shared = found [] ++ asks_read 17 ++ (says go (reads 17) ∷ says (garbles 9) (reads 18) ∷ ends (gives 7) 0x08 0x04 7 ∷ [])

pub two_blocks_at_one_sector : Allows sevens blank shared → ⊥
unfolding computed
two_blocks_at_one_sector a = differ 17 18 refl (ap (λ (b : Block). b.0) (a.2.2.2.2.2.2.2.1 (record { 0 = 17 }) (record { 0 = 18 }) (record { 0 = 18 }) refl refl refl refl))

-- WHAT IT DOES NOT FORBID

-- The start reads 4960 once more, which is no access of a command. A failed read leaves bytes that nobody wrote, after an access
-- away from its block's sector. So does a read of a number of no block, which is reported of none. A good write's bytes were no
-- candidate. After a failed write the older bytes are read, and then the same again.
abbrev fitting : List Line
fitting =
    (says times_out (reads 4960) ∷ []) ++ found []
    ++ asks_read 17 ++ (says go (reads 17) ∷ says (garbles 9) answer.Wait ∷ says times_out (reads 4928) ∷ ends times_out 0x0D 0x00 9 ∷ [])
    ++ asks_read 0xFFFFFE ++ (ends go 0x00 0x00 9 ∷ [])
    ++ writes_good 1 ++ asks_write 2 ++ (says go (writes 17) ∷ ends times_out 0x05 0x00 2 ∷ []) ++ reads_good 1 ++ reads_good 1

pub a_list_that_fits : AllFit sevens blank fitting
unfolding computed
a_list_that_fits = all_fit sevens blank fitting refl

-- Of 533 threes fed the last is cut.
abbrev threes : Bytes
threes = replicate 532 3

abbrev one_too_many : List Line
one_too_many =
    found [] ++ opens_write 17
    ++ (says go answer.Wait ∷ says (feed (3 ∷ threes)) answer.Wait ∷ offers offer.Act ∷ says go (writes 17) ∷ shows threes done answer.Finished ∷ [])
    ++ asks_read 17 ++ (says go (reads 17) ∷ shows threes (surface 0 threes) answer.Finished ∷ [])

pub a_byte_too_many_fits : AllFit sevens blank one_too_many
unfolding computed
a_byte_too_many_fits = all_fit sevens blank one_too_many refl

-- What the surface brings is not fed: it joins neither the command nor the data.
abbrev brought_in_between : List Line
brought_in_between =
    found []
    ++ (offers offer.Command ∷ says go answer.Wait ∷ says (gives 9) answer.Wait ∷ says (feed (command 1 17 [])) answer.Wait ∷ offers offer.Write ∷ [])
    ++ (says go answer.Wait ∷ says (gives 9) answer.Wait ∷ says (feed (1 ∷ [])) answer.Wait ∷ offers offer.Act ∷ [])
    ++ (says go (writes 17) ∷ ends done 0x00 0x00 1 ∷ []) ++ reads_good 1

pub bytes_brought_between_feeds_fit : AllFit sevens blank brought_in_between
unfolding computed
bytes_brought_between_feeds_fit = all_fit sevens blank brought_in_between refl

-- Handshakes, computed: no table, numbers of no block, commands broken off or dropped, resets, calls out of place.
use mathlib.Core.Path.{◌≡◌, refl}
use mathlib.Core.Bool.{true, false}
use mathlib.Core.List.{List, [], ◌∷◌, ◌++◌}
use lib.ListN.{replicate}
use Rattle.lists.specs.Lists.{dead}
use Rattle.image.specs.FormA.{form_a}
use Rattle.drive.specs.declared.Drive.{Drive}
use Rattle.drive.specs.Calls.{raise, lower, feed, surface, reset}
use Rattle.drive.specs.History.{held}
use Rattle.drive.specs.Run.{after_all}
use Rattle.drive.specs.Views.{nowhere}
use Rattle.drive.proofs.Computing.{computed}
use Rattle.drive.proofs.Transcripts.{Exchange, ◌⇒◌, Run, Happens, happens, bytes, disk, sector, go, gives, done, garbles, times_out, found, opens, stored, command, asks_read, asks_write, asks_table, ten_timeouts, eleven_timeouts, wait, offer, read, write, store, finished, refused, from, calls, unsettled}

-- Ten reads of the start fail: bytes that are no image, an image with answer 1, timeouts. With no table FFFFFE is good, and too
-- many data bytes are told before all else; 600 count as 533.
abbrev no_table : Run
no_table =
    record {
      sectors = λ s. held (bytes 7);
      exchanges =
          (gives 7 ⇒ read 4960 ∷ surface 1 (form_a [] []) ⇒ read 4960 ∷ []) ++ replicate 7 (times_out ⇒ read 4960) ++ (times_out ⇒ wait ∷ [])
          ++ opens ++ asks_read 17 2 2 ++ (go ⇒ finished 0x01 0x08 0x80 0 ∷ [])
          ++ opens ++ asks_write 1 17 (bytes 1) ++ (go ⇒ finished 0x41 0x08 0x00 0 ∷ [])
          ++ opens ++ asks_write 2 17 (bytes 2) ++ (go ⇒ finished 0x41 0x08 0x00 0 ∷ [])
          ++ opens ++ asks_read 0xFFFFFF 0 0 ++ (go ⇒ finished 0x01 0x08 0x00 0 ∷ [])
          ++ opens ++ asks_read 0xFFFFFE 0 0 ++ (go ⇒ finished 0x00 0x00 0x00 0 ∷ [])
          ++ opens ++ asks_write 1 17 (replicate 600 3) ++ (go ⇒ finished 0x41 0x00 0x00 0 ∷ []);
      part = bytes 3;
      place = nowhere;
      candidates = [];
    }

pub with_no_table_reads_and_writes_fail : (old : Drive) → Happens old no_table
unfolding computed
with_no_table_reads_and_writes_fail old = happens old no_table refl

pub no_table_latches_nothing : (old : Drive) → (after_all (from old no_table) (calls no_table)).drive.state.marks.latch ≡ false
unfolding computed
no_table_latches_nothing old = refl

-- FFFFFF puts the image in the data part, and FFFFFE leaves it there. 9728, 00FFFE and a write to FFFFFF fail, and so do too many
-- data bytes to FFFFFE.
abbrev not_blocks : Run
not_blocks =
    record {
      sectors = disk (dead ∷ []) [];
      exchanges =
          found (dead ∷ []) []
          ++ opens ++ asks_write 1 0xFFFFFF (bytes 1) ++ (go ⇒ finished 0x01 0x00 0xC0 0 ∷ [])
          ++ opens ++ asks_write 1 0xFFFFFE (replicate 533 3) ++ (go ⇒ finished 0x41 0x00 0x00 0 ∷ [])
          ++ opens ++ asks_read 0x00FFFE 2 2 ++ (go ⇒ finished 0x01 0x00 0x40 0 ∷ [])
          ++ opens ++ asks_table 0x00
          ++ opens ++ asks_read 0xFFFFFE 2 2 ++ (go ⇒ finished 0x00 0x00 0x00 0 ∷ [])
          ++ opens ++ asks_read 9728 2 2 ++ (go ⇒ finished 0x01 0x00 0x40 0 ∷ []);
      part = form_a (dead ∷ []) [];
      place = sector 17;
      candidates = bytes 7 ∷ [];
    }

pub numbers_of_no_block_touch_no_block : (old : Drive) → Happens old not_blocks
unfolding computed
numbers_of_no_block_touch_no_block old = happens old not_blocks refl

-- One write is broken off by a byte other than 55, one by reset. Then the old bytes are read.
abbrev broken_off_at_offer06 : Run
broken_off_at_offer06 =
    record {
      sectors = disk [] [];
      exchanges =
          found [] []
          ++ opens ++ asks_write 1 17 (bytes 1) ++ (lower 0xAA ⇒ finished 0x80 0x00 0x00 0 ∷ [])
          ++ opens ++ asks_write 2 17 (bytes 2) ++ (reset ⇒ wait ∷ [])
          ++ opens ++ asks_read 17 2 2 ++ (go ⇒ read 17 ∷ gives 7 ⇒ finished 0x00 0x00 0x80 0 ∷ []);
      part = bytes 7;
      place = sector 17;
      candidates = bytes 7 ∷ [];
    }

pub bytes_of_a_write_broken_off_do_not_count : (old : Drive) → Happens old broken_off_at_offer06
unfolding computed
bytes_of_a_write_broken_off_do_not_count old = happens old broken_off_at_offer06 refl

-- A wrong handshake byte neither shows nor clears status 3 bit 7.
abbrev wrong_byte_first : Run
wrong_byte_first =
    record {
      sectors = disk [] [];
      exchanges =
          found [] [] ++ opens ++ (lower 0xAA ⇒ finished 0x80 0x00 0x00 0 ∷ [])
          ++ opens ++ asks_read 17 0 1 ++ (go ⇒ read 17 ∷ gives 7 ⇒ finished 0x00 0x00 0x80 0 ∷ []);
      part = bytes 7;
      place = sector 17;
      candidates = bytes 7 ∷ [];
    }

pub a_wrong_byte_leaves_the_first_finish_due : (old : Drive) → Happens old wrong_byte_first
unfolding computed
a_wrong_byte_leaves_the_first_finish_due old = happens old wrong_byte_first refl

-- Short commands and an unknown opcode are dropped, with no store in between, though a change is unstored. Seven bytes come in
-- three pieces, and the seventh is ignored; that command stores.
abbrev dropped : Run
dropped =
    record {
      sectors = disk [] [];
      exchanges =
          found [] [] ++ eleven_timeouts times_out (finished 0x05 0x00 0x80 0) ++ opens
          ++ (go ⇒ wait ∷ feed (0 ∷ 0 ∷ 0 ∷ 17 ∷ 0 ∷ []) ⇒ wait ∷ raise ⇒ offer 0x01 ∷ go ⇒ wait ∷ feed (1 ∷ 0 ∷ 0 ∷ []) ⇒ wait ∷ raise ⇒ offer 0x01 ∷ [])
          ++ (go ⇒ wait ∷ feed (2 ∷ 0 ∷ 0 ∷ []) ⇒ wait ∷ raise ⇒ offer 0x01 ∷ go ⇒ wait ∷ feed (3 ∷ 0 ∷ 0 ∷ 17 ∷ 0 ∷ 0 ∷ []) ⇒ wait ∷ raise ⇒ offer 0x01 ∷ [])
          ++ (go ⇒ wait ∷ feed (0 ∷ 0 ∷ []) ⇒ wait ∷ feed (0 ∷ 17 ∷ 1 ∷ []) ⇒ wait ∷ feed (2 ∷ 9 ∷ []) ⇒ wait ∷ raise ⇒ offer 0x02 ∷ [])
          ++ (go ⇒ read 17 ∷ garbles 9 ⇒ read 17 ∷ []) ++ stored (gives 7) (finished 0x08 0x00 0x00 0);
      part = bytes 7;
      place = sector 17;
      candidates = bytes 7 ∷ [];
    }

pub short_and_unknown_commands_are_dropped : (old : Drive) → Happens old dropped
unfolding computed
short_and_unknown_commands_are_dropped old = happens old dropped refl

-- No opcode but 00, 01 and 02 is a command, with four bytes or with six.
abbrev unknown_opcodes : Run
unknown_opcodes =
    record {
      sectors = disk [] [];
      exchanges =
          found [] [] ++ opens
          ++ (go ⇒ wait ∷ feed (command 3 17 []) ⇒ wait ∷ raise ⇒ offer 0x01 ∷ go ⇒ wait ∷ feed (command 3 17 (0 ∷ 0 ∷ [])) ⇒ wait ∷ raise ⇒ offer 0x01 ∷ [])
          ++ (go ⇒ wait ∷ feed (command 4 17 (0 ∷ 0 ∷ [])) ⇒ wait ∷ raise ⇒ offer 0x01 ∷ go ⇒ wait ∷ feed (command 0x10 17 (0 ∷ 0 ∷ [])) ⇒ wait ∷ raise ⇒ offer 0x01 ∷ [])
          ++ (go ⇒ wait ∷ feed (command 0x80 17 (0 ∷ 0 ∷ [])) ⇒ wait ∷ raise ⇒ offer 0x01 ∷ go ⇒ wait ∷ feed (command 0xFF 17 (0 ∷ 0 ∷ [])) ⇒ wait ∷ raise ⇒ offer 0x01 ∷ [])
          ++ asks_read 0xFFFFFE 0 0 ++ (go ⇒ finished 0x00 0x00 0x80 0 ∷ []);
      part = bytes 0;
      place = sector 17;
      candidates = bytes 7 ∷ [];
    }

pub an_unknown_opcode_is_offered_01 : (old : Drive) → Happens old unknown_opcodes
unfolding computed
an_unknown_opcode_is_offered_01 old = happens old unknown_opcodes refl

-- Resets among command bytes, among data, at an offer and in idle; the mark, the table and the buffer stay.
abbrev resets : Run
resets =
    record {
      sectors = disk [] [];
      exchanges =
          found [] [] ++ eleven_timeouts times_out (finished 0x05 0x00 0x80 0) ++ opens ++ (go ⇒ wait ∷ feed (1 ∷ []) ⇒ wait ∷ reset ⇒ wait ∷ []) ++ opens
          ++ (go ⇒ wait ∷ feed (command 1 17 []) ⇒ wait ∷ raise ⇒ offer 0x03 ∷ go ⇒ wait ∷ feed (bytes 3) ⇒ wait ∷ reset ⇒ wait ∷ reset ⇒ wait ∷ [])
          ++ opens ++ (reset ⇒ wait ∷ []) ++ opens ++ asks_read 0xFFFFFE 0 0 ++ (go ⇒ finished 0x00 0x00 0x80 0 ∷ []);
      part = bytes 3;
      place = sector 17;
      candidates = bytes 7 ∷ [];
    }

pub resets_keep_table_mark_and_buffer : (old : Drive) → Happens old resets × ((after_all (from old resets) (calls resets)).drive.state.marks.changed ≡ true)
unfolding computed
resets_keep_table_mark_and_buffer old = (happens old resets refl, refl)

-- Calls out of place, answers above 3 and bytes of a wrong length come among the calls of one write.
abbrev refused_among : Run
refused_among =
    record {
      sectors = disk [] [];
      exchanges =
          (raise ⇒ refused 3 ∷ surface 4 [] ⇒ refused 4 ∷ surface 0 [] ⇒ refused 5 ∷ surface 0 (replicate 533 9) ⇒ refused 5 ∷ [])
          ++ (surface 1 (9 ∷ []) ⇒ refused 5 ∷ surface 2 (9 ∷ []) ⇒ refused 5 ∷ []) ++ found [] []
          ++ (surface 9 [] ⇒ refused 3 ∷ lower 0x55 ⇒ refused 3 ∷ []) ++ opens ++ (feed (bytes 9) ⇒ refused 3 ∷ [])
          ++ asks_write 1 17 (bytes 1)
          ++ (raise ⇒ refused 3 ∷ go ⇒ write 17 ∷ reset ⇒ refused 3 ∷ garbles 9 ⇒ refused 4 ∷ gives 9 ⇒ refused 5 ∷ surface 2 (9 ∷ []) ⇒ refused 5 ∷ [])
          ++ (done ⇒ finished 0x00 0x00 0x80 0 ∷ []);
      part = bytes 1;
      place = sector 17;
      candidates = bytes 1 ∷ [];
    }

pub refused_calls_change_nothing : (old : Drive) → Happens old refused_among
unfolding computed
refused_calls_change_nothing old = happens old refused_among refl

-- Calls out of place while an access of each kind is awaited: each time raise, lower, feed and reset are refused.
abbrev all_refused : List Exchange
all_refused = raise ⇒ refused 3 ∷ go ⇒ refused 3 ∷ feed (bytes 9) ⇒ refused 3 ∷ reset ⇒ refused 3 ∷ []

abbrev busy : Run
busy =
    record {
      sectors = disk [] [];
      exchanges =
          all_refused ++ found [] [] ++ ten_timeouts ++ (times_out ⇒ store ∷ []) ++ all_refused
          ++ (gives 9 ⇒ refused 5 ∷ garbles 9 ⇒ refused 4 ∷ done ⇒ finished 0x05 0x00 0x80 0 ∷ []) ++ opens ++ asks_write 2 18 (bytes 1) ++ (go ⇒ write 18 ∷ []) ++ all_refused ++ (done ⇒ read 18 ∷ []) ++ all_refused
          ++ (done ⇒ refused 5 ∷ gives 1 ⇒ finished 0x00 0x00 0x00 0 ∷ []);
      part = bytes 1;
      place = sector 17;
      candidates = bytes 7 ∷ [];
    }

pub while_an_answer_is_awaited_only_it_is_in_place : (old : Drive) → Happens old busy
unfolding computed
while_an_answer_is_awaited_only_it_is_in_place old = happens old busy refl

abbrev busy_trial : Run
busy_trial =
    record {
      sectors = disk [] [];
      exchanges =
          found [] [] ++ opens ++ asks_read 17 0 0
          ++ (go ⇒ read 17 ∷ []) ++ all_refused ++ (garbles 9 ⇒ read 17 ∷ gives 7 ⇒ write 17 ∷ []) ++ all_refused
          ++ (times_out ⇒ write 4928 ∷ done ⇒ read 4928 ∷ []) ++ all_refused
          ++ (surface 4 [] ⇒ refused 4 ∷ done ⇒ refused 5 ∷ gives 7 ⇒ read 4928 ∷ unsettled ⇒ finished 0x1D 0x00 0x80 0 ∷ []) ++ opens ++ asks_table 0x00;
      part = form_a (dead ∷ []) [];
      place = sector 17;
      candidates = bytes 7 ∷ [];
    }

pub in_a_trial_only_an_answer_is_in_place : (old : Drive) → Happens old busy_trial
unfolding computed
in_a_trial_only_an_answer_is_in_place old = happens old busy_trial refl

-- Calls out of place in idle, at an offer, among command bytes and among data.
abbrev out_of_place : Run
out_of_place =
    record {
      sectors = disk [] [];
      exchanges =
          found [] [] ++ (go ⇒ refused 3 ∷ feed (1 ∷ []) ⇒ refused 3 ∷ done ⇒ refused 3 ∷ [])
          ++ opens ++ (raise ⇒ refused 3 ∷ feed (1 ∷ []) ⇒ refused 3 ∷ done ⇒ refused 3 ∷ [])
          ++ (go ⇒ wait ∷ go ⇒ refused 3 ∷ done ⇒ refused 3 ∷ feed (command 1 17 []) ⇒ wait ∷ raise ⇒ offer 0x03 ∷ [])
          ++ (go ⇒ wait ∷ go ⇒ refused 3 ∷ lower 0xAA ⇒ refused 3 ∷ done ⇒ refused 3 ∷ feed (bytes 1) ⇒ wait ∷ feed [] ⇒ wait ∷ raise ⇒ offer 0x06 ∷ [])
          ++ (go ⇒ write 17 ∷ surface 4 [] ⇒ refused 4 ∷ done ⇒ finished 0x00 0x00 0x80 0 ∷ []);
      part = bytes 1;
      place = sector 17;
      candidates = bytes 1 ∷ [];
    }

pub with_nothing_awaited_no_answer_is_in_place : (old : Drive) → Happens old out_of_place
unfolding computed
with_nothing_awaited_no_answer_is_in_place old = happens old out_of_place refl

-- A refused answer 0 writes nothing: the seven is read. A call refused in between does not take the write away: the two is read.
abbrev refused_answers : Run
refused_answers =
    record {
      sectors = disk (replicate 32 dead) [];
      exchanges =
          found (replicate 32 dead) []
          ++ opens ++ asks_write 1 17 (bytes 1) ++ (go ⇒ write 17 ∷ gives 9 ⇒ refused 5 ∷ times_out ⇒ finished 0x05 0x40 0x80 0 ∷ [])
          ++ opens ++ asks_read 17 0 1 ++ (go ⇒ read 17 ∷ gives 7 ⇒ finished 0x00 0x00 0x00 0 ∷ [])
          ++ opens ++ asks_write 1 17 (bytes 2) ++ (go ⇒ write 17 ∷ raise ⇒ refused 3 ∷ done ⇒ finished 0x00 0x00 0x00 0 ∷ [])
          ++ opens ++ asks_read 17 0 1 ++ (go ⇒ read 17 ∷ gives 2 ⇒ finished 0x00 0x00 0x00 0 ∷ []);
      part = bytes 2;
      place = sector 17;
      candidates = bytes 2 ∷ [];
    }

pub a_refused_answer_writes_nothing : (old : Drive) → Happens old refused_answers
unfolding computed
a_refused_answer_writes_nothing old = happens old refused_answers refl

-- Answer 3 ends the start, without a table.
abbrev start_unsettled : Run
start_unsettled =
    record {
      sectors = disk [] [];
      exchanges = (times_out ⇒ read 4960 ∷ unsettled ⇒ wait ∷ []) ++ opens ++ asks_read 17 0 1 ++ (go ⇒ finished 0x01 0x08 0x80 0 ∷ []);
      part = bytes 0;
      place = nowhere;
      candidates = [];
    }

pub answer_3_ends_a_start : (old : Drive) → Happens old start_unsettled
unfolding computed
answer_3_ends_a_start old = happens old start_unsettled refl

pub answer_3_to_a_start_latches_nothing : (old : Drive) → (after_all (from old start_unsettled) (calls start_unsettled)).drive.state.marks.latch ≡ false
unfolding computed
answer_3_to_a_start_latches_nothing old = refl

-- A write takes five or six command bytes too, and its data come in two pieces.
abbrev in_pieces : Run
in_pieces =
    record {
      sectors = disk [] [];
      exchanges =
          found [] []
          ++ opens ++ (go ⇒ wait ∷ feed (command 2 17 (9 ∷ [])) ⇒ wait ∷ raise ⇒ offer 0x04 ∷ lower 0xAA ⇒ finished 0x80 0x00 0x00 0 ∷ [])
          ++ opens ++ (go ⇒ wait ∷ feed (command 1 17 (9 ∷ 9 ∷ [])) ⇒ wait ∷ raise ⇒ offer 0x03 ∷ go ⇒ wait ∷ [])
          ++ (feed (replicate 300 1) ⇒ wait ∷ feed (replicate 232 2) ⇒ wait ∷ raise ⇒ offer 0x06 ∷ go ⇒ write 17 ∷ done ⇒ finished 0x00 0x00 0x80 0 ∷ []);
      part = replicate 300 1 ++ replicate 232 2;
      place = sector 17;
      candidates = (replicate 300 1 ++ replicate 232 2) ∷ [];
    }

pub data_come_in_pieces : (old : Drive) → Happens old in_pieces
unfolding computed
data_come_in_pieces old = happens old in_pieces refl

-- Of 300, 300 and 5 bytes the first 532 are kept.
abbrev past_the_end : Run
past_the_end =
    record {
      sectors = disk [] [];
      exchanges =
          found [] [] ++ opens ++ (go ⇒ wait ∷ feed (command 1 17 []) ⇒ wait ∷ raise ⇒ offer 0x03 ∷ go ⇒ wait ∷ [])
          ++ (feed (replicate 300 1) ⇒ wait ∷ feed (replicate 300 2) ⇒ wait ∷ feed (replicate 5 3) ⇒ wait ∷ raise ⇒ offer 0x06 ∷ go ⇒ finished 0x41 0x00 0x80 0 ∷ []);
      part = replicate 300 1 ++ replicate 232 2;
      place = sector 17;
      candidates = bytes 7 ∷ [];
    }

pub pieces_past_the_end_are_dropped : (old : Drive) → Happens old past_the_end
unfolding computed
pieces_past_the_end_are_dropped old = happens old past_the_end refl

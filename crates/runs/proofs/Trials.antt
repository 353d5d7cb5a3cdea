-- SECTOR TRIALS, computed: 30 failures pass and 31 do not, and every reread is made. Document 02, request 4.
use mathlib.Core.Path.{◌≡◌, refl, ap, sym, ◌∙◌}
use mathlib.Core.Bool.{Bool, true, false}
use mathlib.Core.List.{List, [], ◌∷◌, ◌++◌}
use Prim.Native.Nat.{ℕ, ◌≤◌, ◌<◌}
use lib.ListN.{length, take, get_or, replicate}
use Rattle.logic.proofs.Bools.{clash}
use Rattle.lists.specs.Lists.{dead}
use Rattle.image.specs.FormA.{form_a}
use Rattle.drive.specs.declared.Drive.{Drive}
use Rattle.drive.specs.declared.Trial.{Trial}
use Rattle.drive.specs.declared.Access.{Access}
use Rattle.drive.specs.declared.Access.TheVariants as access
use Rattle.drive.specs.declared.Answer.{Answer}
use Rattle.drive.specs.declared.Answer.TheVariants as answer
use Rattle.drive.specs.declared.Ending.{Ending}
use Rattle.drive.specs.declared.Ending.TheVariants as ending
use Rattle.drive.specs.declared.Phase.{Phase}
use Rattle.drive.specs.declared.Phase.TheVariants as phase
use Rattle.drive.specs.Words.{fails}
use Rattle.drive.specs.Records.{awaits}
use Rattle.drive.specs.Results.{Out, with_marks, clean}
use Rattle.drive.specs.Calls.{Call}
use Rattle.drive.specs.Over.{Reply}
use Rattle.drive.specs.History.{bit}
use Rattle.drive.specs.Trials.{counts, AllCount, failing, through, AwaitsReread, listed_then, HasEnded, finished as ended, storing, Decided, Rereads, Trial100}
use Rattle.drive.specs.Views.{of_answer}
use Rattle.drive.proofs.Computing.{computed}
use Rattle.drive.proofs.Lasts.{differ}
use Rattle.drive.proofs.Forging.{byte_of, number_at}
use Rattle.drive.proofs.Codes.{table, with, trial_of}
use Rattle.drive.proofs.Transcripts.{◌⇒◌, Run, Happens, happens, bytes, disk, sector, go, gives, done, garbles, times_out, unsettled, found, opens, asks_read, asks_write, rereads, trial, asks_table, eleven_timeouts, read, write, store, finished}

-- Answers a hundred rereads with 31 failures at the beginning, so that 69 good ones follow them.
abbrev thirty_one_early : ℕ → List Call
thirty_one_early v = replicate 31 (garbles 9) ++ replicate 69 (gives v)

-- A READ AT THE THRESHOLD: the trial begins at once, with no verify before it.

abbrev read_passes : Run
read_passes =
    record {
      sectors = disk [] [];
      exchanges =
          found [] [] ++ opens ++ asks_read 17 1 1 ++ (go ⇒ read 17 ∷ garbles 9 ⇒ read 17 ∷ garbles 9 ⇒ read 17 ∷ gives 7 ⇒ write 17 ∷ [])
          ++ trial 17 7 times_out (finished 0x0C 0x00 0x80 1)
          ++ opens ++ asks_table 0x00;
      part = form_a [] [];
      place = sector 17;
      candidates = bytes 7 ∷ [];
    }

pub thirty_failures_pass : (old : Drive) → Happens old read_passes
unfolding computed
thirty_failures_pass old = happens old read_passes refl

abbrev read_moves : Run
read_moves =
    record {
      sectors = disk [] [];
      exchanges =
          found [] [] ++ opens ++ asks_read 17 0 0
          ++ (go ⇒ read 17 ∷ times_out ⇒ read 17 ∷ gives 7 ⇒ write 17 ∷ done ⇒ read 17 ∷ []) ++ rereads 17 (thirty_one_early 7) (write 4928)
          ++ trial 4928 7 (garbles 9) store ++ (done ⇒ finished 0x0C 0x04 0x80 0 ∷ []) ++ opens ++ asks_table 0x00;
      part = form_a (17 ∷ []) [];
      place = sector 4928;
      candidates = bytes 7 ∷ [];
    }

-- The spare passes with 30 failures, and is live.
pub thirty_one_failures_move : (old : Drive) → Happens old read_moves
unfolding computed
thirty_one_failures_move old = happens old read_moves refl

-- A WRITE TO A BLOCK IN THE BAD LIST begins with the trial, by 01 and by 02.

-- By 01, passed with no failure: the block leaves the list. That it moves by 01 too is in `Moves`.
abbrev leaves_the_bad_list : Run
leaves_the_bad_list =
    record {
      sectors = disk [] [];
      exchanges =
          found [] [] ++ eleven_timeouts done (finished 0x05 0x00 0x80 0)
          ++ opens ++ asks_write 1 17 (bytes 1) ++ (go ⇒ write 17 ∷ done ⇒ read 17 ∷ []) ++ rereads 17 (replicate 100 (gives 1)) store ++ (done ⇒ finished 0x00 0x00 0x00 0 ∷ [])
          ++ opens ++ asks_table 0x00;
      part = form_a [] [];
      place = sector 17;
      candidates = bytes 1 ∷ [];
    }

pub a_write_that_verifies_leaves_the_bad_list : (old : Drive) → Happens old leaves_the_bad_list
unfolding computed
a_write_that_verifies_leaves_the_bad_list old = happens old leaves_the_bad_list refl

abbrev bad_passes : Run
bad_passes =
    record {
      sectors = disk [] (5 ∷ 17 ∷ 6 ∷ []);
      exchanges =
          found [] (5 ∷ 17 ∷ 6 ∷ []) ++ opens ++ asks_write 2 17 (bytes 1)
          ++ (go ⇒ write 17 ∷ []) ++ trial 17 1 (garbles 9) store ++ (done ⇒ finished 0x08 0x00 0x80 0 ∷ []) ++ opens ++ asks_table 0x00;
      part = form_a [] (5 ∷ 6 ∷ []);
      place = sector 17;
      candidates = bytes 1 ∷ [];
    }

pub a_bad_block_that_passes_leaves_the_bad_list : (old : Drive) → Happens old bad_passes
unfolding computed
a_bad_block_that_passes_leaves_the_bad_list old = happens old bad_passes refl

abbrev bad_moves : Run
bad_moves =
    record {
      sectors = disk [] (17 ∷ []);
      exchanges =
          found [] (17 ∷ []) ++ opens ++ asks_write 2 17 (bytes 1)
          ++ (go ⇒ write 17 ∷ done ⇒ read 17 ∷ []) ++ rereads 17 (replicate 100 (garbles 9)) (write 4928) ++ trial 4928 1 (garbles 9) store ++ (done ⇒ finished 0x08 0x04 0x80 0 ∷ [])
          ++ opens ++ asks_table 0x00;
      part = form_a (17 ∷ []) [];
      place = sector 4928;
      candidates = bytes 1 ∷ [];
    }

pub a_bad_block_that_fails_its_trial_moves : (old : Drive) → Happens old bad_moves
unfolding computed
a_bad_block_that_fails_its_trial_moves old = happens old bad_moves refl

-- The block is at spare 0 and in the bad list: its trial is there, and answer 3 to it kills no spare.
abbrev bad_at_its_spare : Run
bad_at_its_spare =
    record {
      sectors = disk (17 ∷ []) (17 ∷ []);
      exchanges =
          found (17 ∷ []) (17 ∷ []) ++ opens ++ asks_write 1 17 (bytes 1) ++ (go ⇒ write 4928 ∷ done ⇒ read 4928 ∷ unsettled ⇒ finished 0x11 0x00 0x80 0 ∷ [])
          ++ opens ++ asks_table 0x00;
      part = form_a (17 ∷ []) (17 ∷ []);
      place = sector 4928;
      candidates = bytes 1 ∷ bytes 7 ∷ [];
    }

pub a_bad_block_at_its_spare_is_tried_there : (old : Drive) → Happens old bad_at_its_spare
unfolding computed
a_bad_block_at_its_spare_is_tried_there old = happens old bad_at_its_spare refl

-- A PLAIN WRITE THAT TIMES OUT goes straight to the next spare. A moved block moves on, and its old entry dies.

abbrev plain_moves : Run
plain_moves =
    record {
      sectors = disk [] [];
      exchanges =
          found [] [] ++ opens ++ asks_write 1 17 (bytes 1) ++ (go ⇒ write 17 ∷ times_out ⇒ write 4928 ∷ []) ++ trial 4928 1 times_out store ++ (done ⇒ finished 0x04 0x04 0x80 0 ∷ [])
          ++ opens ++ asks_write 1 17 (bytes 2)
          ++ (go ⇒ write 4928 ∷ times_out ⇒ write 4929 ∷ times_out ⇒ write 4930 ∷ []) ++ trial 4930 2 (garbles 9) store ++ (done ⇒ finished 0x0C 0x04 0x00 0 ∷ [])
          ++ opens ++ asks_table 0x00;
      part = form_a (dead ∷ dead ∷ 17 ∷ []) [];
      place = sector 4930;
      candidates = bytes 2 ∷ [];
    }

pub a_plain_write_that_times_out_moves : (old : Drive) → Happens old plain_moves
unfolding computed
a_plain_write_that_times_out_moves old = happens old plain_moves refl

-- The last spare fails, and then there is none. The bytes of both writes are candidates; the block keeps its sector.
abbrev plain_fails : Run
plain_fails =
    record {
      sectors = disk (replicate 31 dead) [];
      exchanges =
          found (replicate 31 dead) [] ++ opens ++ asks_write 1 17 (bytes 1)
          ++ (go ⇒ write 17 ∷ times_out ⇒ write 4959 ∷ done ⇒ read 4959 ∷ []) ++ rereads 4959 (thirty_one_early 1) store ++ (done ⇒ finished 0x0D 0x40 0x80 0 ∷ [])
          ++ opens ++ asks_write 1 17 (bytes 2) ++ (go ⇒ write 17 ∷ times_out ⇒ finished 0x05 0x40 0x00 0 ∷ []) ++ opens ++ asks_table 0x00;
      part = form_a (replicate 32 dead) [];
      place = sector 17;
      candidates = bytes 2 ∷ bytes 1 ∷ bytes 7 ∷ [];
    }

pub a_plain_write_with_no_spare_unused_fails : (old : Drive) → Happens old plain_fails
unfolding computed
a_plain_write_with_no_spare_unused_fails old = happens old plain_fails refl

-- WHAT IS STATED of a hundred rereads, held against one drive: the data part is sevens, and two spares are listed.

abbrev present : Trial
present = trial_of 0 0 false 0 0

abbrev aside : Trial
aside = trial_of 0 4930 true 0 0

-- Returns the drive that awaits the first reread, with so many dead spares listed.
abbrev rereading : ℕ → Trial → Drive
rereading n r = with (table (replicate n dead) n [] 0) true 0 0 (phase.Awaiting (access.TrialRead r))

-- Returns a result: this drive, an answer, and a buffer with this status 1.
abbrev result : Drive → Answer → ℕ → Out
result d a one = record { step = record { drive = d; answer = a }; bytes = one ∷ replicate 535 7 }

abbrev asked : Trial → Out
asked r = result (rereading 2 r) (answer.Read r.sector) 7

-- Answers a reread.
abbrev reply : ℕ → List ℕ → Reply
reply a bs = record { number = a; bytes = bs }

abbrev equal : Reply
equal = reply 0 (bytes 7)

abbrev other : Reply
other = reply 0 (bytes 8)

abbrev late : Reply
late = reply 2 []

pub record Counting : Type 0 where
  pub good : counts equal ≡ true
  pub others : counts other ≡ true
  pub crc : counts (reply 1 (bytes 7)) ≡ true
  pub timeout : counts late ≡ true
  pub no_settle : counts (reply 3 []) ≡ false
  pub short : counts (reply 0 (replicate 531 7)) ≡ false
  pub crowded : counts (reply 2 (bytes 7)) ≡ false
  -- Fails by other bytes, a CRC error and a timeout, each once.
  pub failures : failing (bytes 7) (equal ∷ other ∷ equal ∷ reply 1 (bytes 7) ∷ late ∷ []) ≡ 3
  pub none : failing (bytes 7) (equal ∷ equal ∷ []) ≡ 0
  -- Counts a spare under trial among those listed once it failed.
  pub at_present : listed_then (rereading 2 present).table present ≡ 2
  pub at_a_spare : listed_then (rereading 2 aside).table aside ≡ 3

pub counting : Counting
unfolding computed
counting =
    record {
      good = refl;
      others = refl;
      crc = refl;
      timeout = refl;
      no_settle = refl;
      short = refl;
      crowded = refl;
      failures = refl;
      none = refl;
      at_present = refl;
      at_a_spare = refl;
    }

-- Counts no list with an answer 3, wherever it is.
pub all_count_lem : (AllCount (equal ∷ reply 3 [] ∷ []) → ⊥) × (AllCount (reply 3 [] ∷ equal ∷ []) → ⊥)
all_count_lem = (λ c. clash c.1.0 refl, λ c. clash c.0 refl)

-- Returns that drive under the latch.
abbrev under_the_latch : Drive
under_the_latch =
    let d = rereading 2 present in
    record {
      table = d.table;
      causes = d.causes;
      state = with_marks d.state (record { known = true; changed = false; moved = false; latch = true; fresh = false }) (phase.Awaiting (access.TrialRead present));
    }

-- Takes no drive for one that awaits a trial's first reread that awaits nothing, or had a reread, or a failure, or is under the latch.
pub a_trial_under_way :
    (AwaitsReread (with (table [] 0 [] 0) true 0 0 phase.Idle) present → ⊥)
    × (AwaitsReread (rereading 2 (trial_of 0 0 false 1 0)) (trial_of 0 0 false 1 0) → ⊥)
    × (AwaitsReread (rereading 2 (trial_of 0 0 false 0 1)) (trial_of 0 0 false 0 1) → ⊥)
    × (AwaitsReread under_the_latch present → ⊥)
a_trial_under_way = (
  λ a. clash (sym (ap (awaits (λ (x : Access). true)) (sym a.phase))) refl,
  λ a. differ 1 0 refl a.none,
  λ a. differ 1 0 refl a.clean,
  λ a. clash refl a.free,
)

-- Computes what the answers lead to, one after another.
pub record Rereading : Type 0 where
  pub first : (through (asked present) []).step.answer ≡ answer.Read (record { 0 = 0 })
  pub second : (through (asked present) (late ∷ [])).step.answer ≡ answer.Read (record { 0 = 0 })
  pub last_but_one : (through (asked present) (replicate 99 late)).step.answer ≡ answer.Read (record { 0 = 0 })
  pub last : (through (asked present) (replicate 100 late)).step.answer ≡ answer.Write (record { 0 = 4930 })
  pub spare : (through (asked aside) (replicate 100 late)).step.answer ≡ answer.Write (record { 0 = 4931 })
  pub passes : (through (asked present) (replicate 30 other ++ replicate 70 equal)).step.answer ≡ answer.Finished
  pub moves : (through (asked aside) (replicate 30 other ++ replicate 70 equal)).step.answer ≡ answer.Store

pub rereading_goes : Rereading
unfolding computed
rereading_goes = record { first = refl; second = refl; last_but_one = refl; last = refl; spare = refl; passes = refl; moves = refl }

-- Applies the statement, at the present sector and at a spare.
pub trial_100_of_a_drive :
    Trial100 → (ys : List Reply) → AllCount ys → length ys ≡ 100
    → ((k : ℕ) → 1 ≤ k → k < 100 → Rereads present (replicate 536 7) (through (asked present) (take k ys)))
    × Decided 2 (failing (bytes 7) ys) (bytes 7) (through (asked present) ys)
    × Decided 3 (failing (bytes 7) ys) (bytes 7) (through (asked aside) ys)
unfolding computed
trial_100_of_a_drive h ys c n =
    let at_home = h (asked present) present ys refl refl (record { phase = refl; free = refl; none = refl; clean = refl }) c n in
    let at_spare_lem = h (asked aside) aside ys refl refl (record { phase = refl; free = refl; none = refl; clean = refl }) c n in
    (at_home.0, at_home.1, at_spare_lem.1)

-- FORBIDDEN

abbrev is_finished : Answer → Bool
is_finished a = (of_answer a).finished

-- Says whether an answer ends a command: it is finished, or the store is asked for.
abbrev is_end : Answer → Bool
is_end answer.Wait = false
is_end (answer.Offer o) = false
is_end (answer.Read s) = false
is_end (answer.Write s) = false
is_end answer.Store = true
is_end answer.Finished = true
is_end (answer.Refused r) = false

-- Says whether a command whose store is awaited has failed.
abbrev fails_in : Phase → Bool
fails_in phase.Idle = false
fails_in (phase.Offered o) = false
fails_in phase.Command = false
fails_in phase.Data = false
fails_in (phase.Awaiting (access.Start n)) = false
fails_in (phase.Awaiting (access.Store k)) = fails k.ending
fails_in (phase.Awaiting (access.Read r)) = false
fails_in (phase.Awaiting (access.Write w)) = false
fails_in (phase.Awaiting (access.Verify w)) = false
fails_in (phase.Awaiting (access.TrialWrite r)) = false
fails_in (phase.Awaiting (access.TrialRead r)) = false

-- An end is one of the two, and tells the truth in its status or in the record.
is_end_lem : (failed : Bool) (x : Out) → HasEnded failed x → is_end x.step.answer ≡ true
is_end_lem failed x (ended a b) = ap is_end a
is_end_lem failed x (storing k a p f) = ap is_end a

told_so : (failed : Bool) (x : Out) → x.step.answer ≡ answer.Finished → HasEnded failed x → bit 1 (get_or x.bytes 0 0) ≡ failed
told_so failed x h (ended a b) = b
told_so failed x h (storing k a p f) = clash (ap is_finished h) (ap is_finished a)

kept_so : (failed : Bool) (x : Out) → x.step.answer ≡ answer.Store → HasEnded failed x → fails_in x.step.drive.state.phase ≡ failed
kept_so failed x h (ended a b) = clash (ap is_finished a) (ap is_finished h)
kept_so failed x h (storing k a p f) = ap fails_in p ∙ f

-- Returns a result that asks for the store, of a command that ended so.
abbrev closing : Ending → Out
closing e = result (with (table [] 0 [] 0) true 0 0 (phase.Awaiting (access.Store (record { ending = e; seen = clean })))) answer.Store 0

abbrev written : Answer → ℕ
written a = number_at (of_answer a).write

abbrev read_at : Answer → ℕ
read_at a = number_at (of_answer a).read

-- Says what a trial may not lead to, with so many spares listed then.
abbrev Never : ℕ → ℕ → Answer → ℕ → Type 0
Never n failures a one = Decided n failures (bytes 7) (result (rereading n present) a one) → ⊥

pub record Undecided : Type 0 where
  pub thirty_goes_on : Never 2 30 (answer.Read (record { 0 = 0 })) 0
  pub thirty_moves : Never 2 30 (answer.Write (record { 0 = 4930 })) 0
  pub thirty_fails : Never 2 30 answer.Finished 1
  pub thirty_one_passes : Never 2 31 answer.Finished 0
  pub thirty_one_fails : Never 2 31 answer.Finished 1
  pub thirty_one_moves_elsewhere : Never 2 31 (answer.Write (record { 0 = 4929 })) 0
  pub no_spare_passes : Never 32 31 answer.Finished 0
  pub no_spare_moves : Never 32 31 (answer.Write (record { 0 = 4960 })) 0
  -- How it ended stands in the record while the store is awaited.
  pub thirty_fails_storing : Decided 2 30 (bytes 7) (closing ending.NoSpare) → ⊥
  pub no_spare_passes_storing : (Decided 32 31 (bytes 7) (closing ending.Good) → ⊥) × (Decided 32 31 (bytes 7) (closing ending.Moved) → ⊥)
  -- The last reread's bytes are not kept, nor those of another, and each is of the same sector.
  pub bytes_kept : Decided 2 0 (bytes 8) (result (rereading 2 present) answer.Finished 0) → ⊥
  pub buffer_kept : Rereads present (replicate 536 8) (asked present) → ⊥
  pub elsewhere : Rereads present (replicate 536 7) (asked aside) → ⊥

pub undecided : Undecided
unfolding computed
undecided =
    record {
      thirty_goes_on = λ d. clash (is_end_lem false (result (rereading 2 present) (answer.Read (record { 0 = 0 })) 0) (d.passes refl)) refl;
      thirty_moves = λ d. clash (is_end_lem false (result (rereading 2 present) (answer.Write (record { 0 = 4930 })) 0) (d.passes refl)) refl;
      thirty_fails = λ d. clash refl (told_so false (result (rereading 2 present) answer.Finished 1) refl (d.passes refl));
      thirty_one_passes = λ d. clash (sym (ap is_finished (d.moves refl refl))) refl;
      thirty_one_fails = λ d. clash (sym (ap is_finished (d.moves refl refl))) refl;
      thirty_one_moves_elsewhere = λ d. differ 4929 4930 refl (ap written (d.moves refl refl));
      no_spare_passes = λ d. clash (told_so true (result (rereading 32 present) answer.Finished 0) refl (d.ends refl refl)) refl;
      no_spare_moves = λ d. clash (is_end_lem true (result (rereading 32 present) (answer.Write (record { 0 = 4960 })) 0) (d.ends refl refl)) refl;
      thirty_fails_storing = λ d. clash refl (kept_so false (closing ending.NoSpare) refl (d.passes refl));
      no_spare_passes_storing = (λ d. clash (kept_so true (closing ending.Good) refl (d.ends refl refl)) refl, λ d. clash (kept_so true (closing ending.Moved) refl (d.ends refl refl)) refl);
      bytes_kept = λ d. differ 7 8 refl (ap byte_of d.stays);
      buffer_kept = λ d. differ 7 8 refl (ap byte_of d.stays);
      elsewhere = λ d. differ 4930 0 refl (ap read_at d.asks);
    }

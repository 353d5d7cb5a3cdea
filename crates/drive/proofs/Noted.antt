-- Run number and causes, computed: what each rule remembers of failures, what a change notes, and when the run number goes up.
use mathlib.Core.Path.{◌≡◌, refl}
use mathlib.Core.Bool.{Bool, true, false}
use mathlib.Core.List.{List, [], ◌∷◌, ◌++◌}
use Prim.Native.Nat.{ℕ, ◌+◌}
use lib.ListN.{take, replicate}
use Rattle.geometry.specs.declared.Block.{Block}
use Rattle.lists.specs.Lists.{dead}
use Rattle.table.specs.declared.Table.{Table}
use Rattle.image.specs.FormA.{form_a}
use Rattle.image.specs.FormB.{form_b}
use Rattle.drive.specs.declared.Access.TheVariants as access
use Rattle.drive.specs.declared.Answer.TheVariants as answer
use Rattle.drive.specs.declared.Cause.{Cause}
use Rattle.drive.specs.declared.Cause.TheVariants as cause
use Rattle.drive.specs.declared.Change.{Change}
use Rattle.drive.specs.declared.Change.TheVariants as change
use Rattle.drive.specs.declared.Drive.{Drive}
use Rattle.drive.specs.declared.Phase.{Phase}
use Rattle.drive.specs.declared.Phase.TheVariants as phase
use Rattle.drive.specs.declared.Refusal.TheVariants as refusal
use Rattle.drive.specs.declared.State.{State}
use Rattle.drive.specs.declared.Trial.{Trial}
use Rattle.drive.specs.declared.Turn.{Turn}
use Rattle.drive.specs.Words.{code_of}
use Rattle.drive.specs.Results.{noted, clean}
use Rattle.drive.specs.Sparing.{missed, stopped, verified, tried, counted}
use Rattle.drive.specs.Access.{write_answered}
use Rattle.drive.specs.Calls.{Call, raise, lower, feed, surface, reset, started, image_out_of, Conversion, convert_of}
use Rattle.drive.proofs.Computing.{computed}
use Rattle.drive.proofs.Examples.{ready, run, asks, good, timeout, done}
use Rattle.drive.proofs.Codes.{table}

-- WHAT A TRIAL REMEMBERS

abbrev block : Block
block = record { 0 = 17 }

-- Holds the trial of the present sector or of spare 1, with three failures remembered.
abbrev trial_of : Bool → Cause → Cause → Cause → Trial
trial_of spare last before present =
    record { block = block; sector = record { 0 = 4929 }; spare = spare; rereads = 99; failures = 40; seen = clean; last = last; before = before; present = present }

-- Holds a table with block 17 on spare 0.
abbrev on_spare0 : Table
on_spare0 = table (17 ∷ []) 1 [] 0

abbrev idle : State
idle = ready.state

-- Returns the trial whose write is awaited, if one is.
abbrev tries : Phase → List Trial
tries phase.Idle = []
tries (phase.Offered o) = []
tries phase.Command = []
tries phase.Data = []
tries (phase.Awaiting (access.Start k)) = []
tries (phase.Awaiting (access.Store k)) = []
tries (phase.Awaiting (access.Read r)) = []
tries (phase.Awaiting (access.Write w)) = []
tries (phase.Awaiting (access.Verify w)) = []
tries (phase.Awaiting (access.TrialWrite r)) = r ∷ []
tries (phase.Awaiting (access.TrialRead r)) = []

-- Says what a turn does to the table, and which failures the next spare's trial begins with.
abbrev GoesOn : Turn → Change → Cause → Cause → ℕ → Type 0
GoesOn x c before present n =
    (x.change ≡ c)
    × (tries x.state.phase
    ≡ record { block = block; sector = record { 0 = 4928 + n }; spare = true; rereads = 0; failures = 0; seen = clean; last = cause.Unknown; before = before; present = present } ∷ [])

pub record Remembers : Type 0 where
  -- a reread's failure is the last one, and a good reread leaves it
  pub crc : (counted (trial_of true cause.Timeout cause.Unknown cause.Unknown) 1 false).last ≡ cause.Crc
  pub timeout : (counted (trial_of true cause.Crc cause.Unknown cause.Unknown) 2 false).last ≡ cause.Timeout
  pub other_bytes_lem : (counted (trial_of true cause.Timeout cause.Unknown cause.Unknown) 0 false).last ≡ cause.Crc
  pub good : (counted (trial_of true cause.Timeout cause.Crc cause.NoSettle) 0 true).last ≡ cause.Timeout
  pub good_keeps : ((counted (trial_of true cause.Timeout cause.Crc cause.NoSettle) 0 true).before ≡ cause.Crc) × ((counted (trial_of true cause.Timeout cause.Crc cause.NoSettle) 0 true).present ≡ cause.NoSettle)
  -- from the present sector: its last failure is both
  pub from_present : GoesOn (missed idle on_spare0 (trial_of false cause.Crc cause.Unknown cause.Unknown) clean cause.Crc) change.Keep cause.Crc cause.Crc 1
  -- from a spare: it dies of its last failure, which is the next one's before; the present sector's stays
  pub from_spare : GoesOn (missed idle on_spare0 (trial_of true cause.Crc cause.Timeout cause.NoSettle) clean cause.Crc) (change.Kill cause.Crc) cause.Crc cause.NoSettle 2
  -- a spare dies of its write's timeout, and of answer 3
  pub write_times_out : (tried idle on_spare0 (trial_of true cause.Crc cause.Crc cause.Crc) 2).change ≡ change.Kill cause.Timeout
  pub answer_3 : (stopped idle (trial_of true cause.Crc cause.Crc cause.Crc)).change ≡ change.Kill cause.NoSettle
  pub answer_3_in_place : (stopped idle (trial_of false cause.Crc cause.Crc cause.Crc)).change ≡ change.Keep
  -- a move takes the failure before, and for the old entry the present sector's
  pub moves : (verified idle on_spare0 (trial_of true cause.NoSettle cause.Crc cause.Timeout)).change ≡ change.Move block cause.Crc cause.Timeout
  -- a write that times out is the last failure before the first spare
  pub plain_write : tries (write_answered idle on_spare0 (record { block = block; sector = record { 0 = 4928 }; verify = false }) 2).state.phase
      ≡ record { block = block; sector = record { 0 = 4929 }; spare = true; rereads = 0; failures = 0; seen = record { errors = 0; crc = false; timeout = true }; last = cause.Unknown; before = cause.Timeout; present = cause.Timeout } ∷ []

pub remembers : Remembers
unfolding computed
remembers =
    record {
      crc = refl;
      timeout = refl;
      other_bytes_lem = refl;
      good = refl;
      good_keeps = (refl, refl);
      from_present = (refl, refl);
      from_spare = (refl, refl);
      write_times_out = refl;
      answer_3 = refl;
      answer_3_in_place = refl;
      moves = refl;
      plain_write = refl;
    }

-- WHAT A CHANGE NOTES

-- Holds the causes of two entries, dead and block 17.
abbrev two_causes : List ℕ
two_causes = 3 ∷ 1 ∷ replicate 30 0

abbrev two : Table
two = table (dead ∷ 17 ∷ []) 2 [] 0

pub record Notes : Type 0 where
  pub kept : noted change.Keep two two_causes [] ≡ two_causes
  pub entered : noted (change.Enter block) two two_causes [] ≡ two_causes
  pub removed : noted (change.Remove block) two two_causes [] ≡ two_causes
  pub killed : noted (change.Kill cause.Timeout) two two_causes [] ≡ 3 ∷ 1 ∷ 2 ∷ replicate 29 0
  pub moved_on : noted (change.Move block cause.Crc cause.Timeout) two two_causes [] ≡ 3 ∷ 2 ∷ 1 ∷ replicate 29 0
  pub moved_first : noted (change.Move (record { 0 = 18 }) cause.NoSettle cause.Timeout) two two_causes [] ≡ 3 ∷ 1 ∷ 3 ∷ replicate 29 0
  pub loaded_a : noted change.Load two two_causes (form_a (17 ∷ []) []) ≡ replicate 32 0
  pub loaded_b : noted change.Load two two_causes (form_b 7 (17 ∷ []) (2 ∷ []) []) ≡ 2 ∷ replicate 31 0

pub notes : Notes
unfolding computed
notes = record { kept = refl; entered = refl; removed = refl; killed = refl; moved_on = refl; moved_first = refl; loaded_a = refl; loaded_b = refl }

-- THE RUN NUMBER

-- Holds an idle drive with this run number and a change that is not stored.
abbrev unstored : ℕ → Drive
unstored n =
    record {
      table = two;
      causes = two_causes;
      state = record { phase = phase.Idle; marks = record { known = true; changed = true; moved = false; latch = false; fresh = false }; command = replicate 6 0; count = 0; fed = 0; run = n };
    }

-- Reads block 0, good at once.
abbrev reads_good : List Call
reads_good = asks 0 1 (good ∷ [])

-- Returns the run number after calls.
abbrev run_after : Drive → List Call → ℕ
run_after d cs = (run d (replicate 536 0) cs).step.drive.state.run

pub record RunNumbers : Type 0 where
  -- up with the store that is asked for; the image fetched for it carries it
  pub asked : run_after (unstored 6) reads_good ≡ 7
  pub fetched : (image_out_of (run (unstored 6) (replicate 536 0) reads_good).step.drive (replicate 532 5)).bytes ≡ form_b 7 (dead ∷ 17 ∷ []) (3 ∷ 1 ∷ []) []
  -- whether it is done or not, and once more for the next
  pub stored : run_after (unstored 6) (reads_good ++ (done ∷ [])) ≡ 7
  pub failed : run_after (unstored 6) (reads_good ++ (timeout ∷ [])) ≡ 7
  pub again : run_after (unstored 6) (reads_good ++ (timeout ∷ reads_good)) ≡ 8
  pub once_more : run_after (unstored 6) (reads_good ++ (timeout ∷ reads_good ++ (timeout ∷ reset ∷ reads_good))) ≡ 9
  -- after answer 3 there is none, and after one that was done there is none either
  pub after_no_settle : run_after (unstored 6) (reads_good ++ (surface 3 [] ∷ reset ∷ reads_good)) ≡ 7
  pub kept_by_a_command : run_after (unstored 6) (reads_good ++ (done ∷ raise ∷ lower 0x55 ∷ feed (1 ∷ 0 ∷ 0 ∷ 5 ∷ []) ∷ raise ∷ lower 0x55 ∷ feed (9 ∷ []) ∷ raise ∷ lower 0x55 ∷ done ∷ [])) ≡ 7
  -- up to its top, where it stays
  pub to_the_top : run_after (unstored 0xFFFFFFFE) reads_good ≡ 0xFFFFFFFF
  pub at_the_top : run_after (unstored 0xFFFFFFFF) reads_good ≡ 0xFFFFFFFF
  -- what asks for no store leaves it: a raise, and a command with nothing unstored
  pub not_asked : (run_after (unstored 6) (raise ∷ []) ≡ 6) × (run_after ready reads_good ≡ 0)
  -- a start takes the image's, 0 from form A, and 0 while there is none
  pub from_b : run_after started (surface 0 (form_b 0x01020304 [] [] []) ∷ []) ≡ 0x01020304
  pub from_a : run_after started (surface 0 (form_a [] []) ∷ []) ≡ 0
  pub from_none : run_after started (surface 3 [] ∷ []) ≡ 0
  -- and nothing is unstored then, from form A neither
  pub stored_a : (run started (replicate 536 0) (surface 0 (form_a (17 ∷ []) []) ∷ reads_good)).step.answer ≡ answer.Finished
  -- images of a wrong sum, and of a wrong field, are counted as tries
  pub wrong_field : (run started (replicate 536 0) (surface 0 (form_b 0 (17 ∷ []) (4 ∷ []) []) ∷ [])).step.drive.state.phase ≡ phase.Awaiting (access.Start 2)
  pub wrong_sum : (run started (replicate 536 0) (surface 0 (take 531 (form_b 0 [] [] []) ++ (0 ∷ [])) ∷ [])).step.drive.state.phase ≡ phase.Awaiting (access.Start 2)

pub run_numbers : RunNumbers
unfolding computed image_out_of
run_numbers =
    record {
      asked = refl;
      fetched = refl;
      stored = refl;
      failed = refl;
      again = refl;
      once_more = refl;
      after_no_settle = refl;
      kept_by_a_command = refl;
      to_the_top = refl;
      at_the_top = refl;
      not_asked = (refl, refl);
      from_b = refl;
      from_a = refl;
      from_none = refl;
      stored_a = refl;
      wrong_field = refl;
      wrong_sum = refl;
    }

-- CONVERT

abbrev Converts : List ℕ → List ℕ → Conversion → Type 0
Converts from to x = convert_of from to ≡ x

pub record Conversions : Type 0 where
  pub to_b : Converts (form_a (17 ∷ []) (5 ∷ [])) (replicate 532 7) (record { answer = answer.Wait; bytes = form_b 0 (17 ∷ []) (0 ∷ []) (5 ∷ []) })
  pub to_a : Converts (form_b 9 (17 ∷ []) (2 ∷ []) (5 ∷ [])) (replicate 532 7) (record { answer = answer.Wait; bytes = form_a (17 ∷ []) (5 ∷ []) })
  -- 2 for either length, before all else
  pub first_short : Converts (replicate 531 0) (replicate 532 7) (record { answer = answer.Refused refusal.Buffer; bytes = replicate 532 7 })
  pub second_short : Converts (replicate 532 0) (replicate 533 7) (record { answer = answer.Refused refusal.Buffer; bytes = replicate 533 7 })
  -- 6, 7, 8, which leave the second buffer
  pub form : Converts (replicate 532 0) (replicate 532 7) (record { answer = answer.Refused refusal.Form; bytes = replicate 532 7 })
  pub sum : Converts (take 531 (form_b 0 [] [] []) ++ (0 ∷ [])) (replicate 532 7) (record { answer = answer.Refused refusal.Sum; bytes = replicate 532 7 })
  pub field : Converts (form_b 0 (17 ∷ []) (4 ∷ []) []) (replicate 532 7) (record { answer = answer.Refused refusal.Field; bytes = replicate 532 7 })

pub conversions : Conversions
unfolding computed
conversions = record { to_b = refl; to_a = refl; first_short = refl; second_short = refl; form = refl; sum = refl; field = refl }

-- The numbers of the three codes that only convert gives.
pub codes : (code_of refusal.Form ≡ 6) × (code_of refusal.Sum ≡ 7) × (code_of refusal.Field ≡ 8)
codes = (refl, refl, refl)

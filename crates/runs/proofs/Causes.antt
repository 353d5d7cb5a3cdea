-- Causes of spare entries, computed from whole trials. Document 02, request 6: "for a live entry the last failure before its spare
-- was tried, for a dead one the last on that spare". The surface answers as it likes here: some bytes are none that it may bring.
use mathlib.Core.Path.{◌≡◌, refl}
use mathlib.Core.List.{List, [], ◌∷◌, ◌++◌}
use Prim.Native.Nat.{ℕ}
use lib.ListN.{take, replicate}
use Rattle.lists.specs.Lists.{dead}
use Rattle.table.specs.Tables.{spare_list}
use Rattle.drive.specs.declared.Drive.{Drive}
use Rattle.drive.specs.Calls.{Call, raise, lower, feed, surface}
use Rattle.drive.proofs.Computing.{computed}
use Rattle.drive.proofs.Examples.{ready, run}

-- THE CALLS

-- Writes block 17 with verify, up to its first access.
abbrev writes17 : List Call
writes17 =
    raise ∷ lower 0x55 ∷ feed (2 ∷ 0 ∷ 0 ∷ 17 ∷ []) ∷ raise ∷ lower 0x55 ∷ feed (replicate 532 1) ∷ raise ∷ lower 0x55 ∷ []

-- Answers a write, and a reread: with the bytes written, with others, with a CRC error; a timeout; no settle.
abbrev done : Call
done = surface 0 []

abbrev good : Call
good = surface 0 (replicate 532 1)

abbrev other : Call
other = surface 0 (replicate 532 2)

abbrev garbled : Call
garbled = surface 1 (replicate 532 9)

abbrev late : Call
late = surface 2 []

abbrev unsettled : Call
unsettled = surface 3 []

-- Makes the trial of a sector that fails: 30 rereads fail one way, then one another way, and the last 69 are good.
abbrev fails_by : Call → Call → List Call
fails_by most last = done ∷ (replicate 30 most ++ (last ∷ replicate 69 good))

-- Makes one that passes, with 30 failures at its end.
abbrev passes_with : Call → List Call
passes_with failure = done ∷ (replicate 70 good ++ replicate 30 failure)

-- Fails the first write and its verify, so that the trial of the present sector is next.
abbrev begins : List Call
begins = writes17 ++ (done ∷ garbled ∷ [])

-- Returns the drive after calls, its spare list and the causes of that.
abbrev after : Drive → List Call → Drive
after d cs = (run d (replicate 536 0) cs).step.drive

abbrev spares : Drive → List ℕ
spares d = spare_list d.table

abbrev causes : Drive → List ℕ
causes d = take d.table.nspares d.causes

-- A LIVE ENTRY: the last failure on the sector before. Its own trial's failures are of the other kind, and do not count.

pub after_a_crc_error : causes (after ready (begins ++ fails_by late garbled ++ passes_with late)) ≡ 1 ∷ []
unfolding computed
after_a_crc_error = refl

pub after_a_timeout : causes (after ready (begins ++ fails_by garbled late ++ passes_with garbled)) ≡ 2 ∷ []
unfolding computed
after_a_timeout = refl

-- Differing bytes are a CRC error.
pub after_other_bytes : causes (after ready (begins ++ fails_by late other ++ passes_with late)) ≡ 1 ∷ []
unfolding computed
after_other_bytes = refl

-- A write that times out is the last failure.
pub after_a_write_that_times_out : causes (after ready (writes17 ++ (late ∷ passes_with garbled))) ≡ 2 ∷ []
unfolding computed
after_a_write_that_times_out = refl

-- So is the write of a trial, on the present sector.
pub after_a_trial_write_that_times_out : causes (after ready (begins ++ (late ∷ passes_with garbled))) ≡ 2 ∷ []
unfolding computed
after_a_trial_write_that_times_out = refl

-- A DEAD SPARE: the last failure on it. The block then moves to spare 1, and that same failure is the last before spare 1 was tried.

abbrev by_trial : Drive
by_trial = after ready (begins ++ fails_by late garbled ++ fails_by garbled late ++ passes_with garbled)

pub a_spare_dead_by_its_trial : (spares by_trial ≡ dead ∷ 17 ∷ []) × (causes by_trial ≡ 2 ∷ 2 ∷ [])
unfolding computed
a_spare_dead_by_its_trial = (refl, refl)

abbrev by_write : Drive
by_write = after ready (begins ++ fails_by late garbled ++ (late ∷ passes_with garbled))

pub a_spare_dead_by_its_write : (spares by_write ≡ dead ∷ 17 ∷ []) × (causes by_write ≡ 2 ∷ 2 ∷ [])
unfolding computed
a_spare_dead_by_its_write = (refl, refl)

-- By answer 3, to its write and to a reread after failures.
pub a_spare_dead_by_answer_3 :
    (causes (after ready (begins ++ fails_by late garbled ++ (unsettled ∷ []))) ≡ 3 ∷ [])
    × (causes (after ready (begins ++ fails_by late garbled ++ (done ∷ late ∷ unsettled ∷ []))) ≡ 3 ∷ [])
unfolding computed
a_spare_dead_by_answer_3 = (refl, refl)

-- AN OLD ENTRY, of cause 3, killed when its block moves on: the last failure on the spare that it leaves, a CRC error, though the
-- spare between died by a timeout. The new entry has that timeout.
abbrev moved : Drive
moved =
    record {
      table = record { spares = 17 ∷ replicate 31 0; bads = replicate 100 0; nspares = 1; nbads = 0 };
      causes = 3 ∷ replicate 31 0;
      state = ready.state;
    }

abbrev moved_on : Drive
moved_on = after moved (begins ++ fails_by late garbled ++ (late ∷ passes_with garbled))

pub an_old_entry_has_the_last_failure_on_its_spare : (spares moved_on ≡ dead ∷ dead ∷ 17 ∷ []) × (causes moved_on ≡ 1 ∷ 2 ∷ 2 ∷ [])
unfolding computed
an_old_entry_has_the_last_failure_on_its_spare = (refl, refl)

-- With no spare left the block stays where it is, and its entry keeps its cause. The spare that died on the way is noted.
abbrev last_spare : Drive
last_spare =
    record {
      table = record { spares = 17 ∷ (replicate 30 dead ++ (0 ∷ [])); bads = replicate 100 0; nspares = 31; nbads = 0 };
      causes = 3 ∷ (replicate 30 1 ++ (0 ∷ []));
      state = ready.state;
    }

pub with_no_spare_left_its_entry_keeps_its_cause : causes (after last_spare (begins ++ fails_by late garbled ++ (late ∷ []))) ≡ 3 ∷ (replicate 30 1 ++ (2 ∷ []))
unfolding computed
with_no_spare_left_its_entry_keeps_its_cause = refl

-- A trial of the present sector that passes leaves the causes.
pub a_trial_that_passes_notes_nothing : causes (after moved (begins ++ passes_with late)) ≡ 3 ∷ []
unfolding computed
a_trial_that_passes_notes_nothing = refl

-- STATUS 4, computed: what its statement says of four reads, and that the calls leave it so.
use mathlib.Core.Path.{◌≡◌, refl}
use mathlib.Core.Bool.{true, false}
use mathlib.Core.List.{List, [], ◌∷◌}
use Prim.Native.Nat.{ℕ}
use lib.ListN.{get_or, replicate}
use Rattle.drive.specs.declared.Drive.{Drive}
use Rattle.drive.specs.declared.Retry.{Retry}
use Rattle.drive.specs.Over.{Reply, command, Completes}
use Rattle.drive.specs.Results.{Out, clean}
use Rattle.drive.specs.Status4.{failures, numbers, left_by, AwaitsFirst, Status4}
use Rattle.drive.proofs.Computing.{computed}
use Rattle.drive.proofs.Examples.{ready, run, asks}
use Rattle.runs.proofs.Overs.{good, crc, late}

-- Asks for a read of block 0 with R and T 99, and returns status 4 after these answers.
abbrev asked : Drive → ℕ → Out
asked d r = run d (replicate 536 0) (asks r 99 [])

abbrev errors_after : Drive → ℕ → List Reply → ℕ
errors_after d r xs = get_or (left_by (asked d r).step.drive (asked d r).bytes xs) 3 0

-- Holds a drive whose table has unstored changes.
abbrev changed : Drive
changed =
    record {
      table = ready.table;
      causes = ready.causes;
      state = record {
        phase = ready.state.phase;
        marks = record { known = true; changed = true; moved = false; latch = false; fresh = false };
        command = ready.state.command;
        count = 0;
        fed = 0;
        run = 0;
      };
    }

-- Holds what the first read awaits: no error met, and R rereads left.
abbrev first : ℕ → Retry
first r = record { block = record { 0 = 0 }; sector = record { 0 = 0 }; first = true; left = r; spent = 0; threshold = 99; good = false; seen = clean }

-- Says that the first read is awaited, and that these answers complete the command.
abbrev Completed : Drive → ℕ → Reply → List Reply → Type 0
Completed d r x xs = AwaitsFirst (asked d r).step.drive (first r) × Completes command (asked d r).step.drive (asked d r).bytes (x ∷ xs)

-- FAILURES are the answers 1 and 2.
pub failures_are_1_and_2 : (failures (0 ∷ 1 ∷ 2 ∷ 3 ∷ []) ≡ 2) × (failures (2 ∷ 2 ∷ []) ≡ 2) × (numbers (crc ∷ good ∷ late ∷ []) ≡ 1 ∷ 0 ∷ 2 ∷ [])
failures_are_1_and_2 = (refl, refl, refl)

-- FOUR READS that are completed: the first read failed and of two rereads the first did, or the second; both failed, and so did the
-- first further read; the first read was good, and the store timed out.
pub first_fails : Completed ready 2 crc (late ∷ good ∷ [])
unfolding computed
first_fails = (record { phase = refl; first = refl; clean = refl }, (record { accepted = refl; awaited = refl }, (record { accepted = refl; awaited = refl }, record { answer = refl; phase = refl })))

pub second_fails : Completed ready 2 crc (good ∷ crc ∷ [])
unfolding computed
second_fails = (record { phase = refl; first = refl; clean = refl }, (record { accepted = refl; awaited = refl }, (record { accepted = refl; awaited = refl }, record { answer = refl; phase = refl })))

pub both_fail : Completed ready 2 crc (late ∷ crc ∷ crc ∷ good ∷ [])
unfolding computed
both_fail = (
  record { phase = refl; first = refl; clean = refl },
  (
    record { accepted = refl; awaited = refl },
    (record { accepted = refl; awaited = refl }, (record { accepted = refl; awaited = refl }, (record { accepted = refl; awaited = refl }, record { answer = refl; phase = refl }))),
  ),
)

pub store_fails : Completed changed 2 good (late ∷ [])
unfolding computed
store_fails = (record { phase = refl; first = refl; clean = refl }, (record { accepted = refl; awaited = refl }, record { answer = refl; phase = refl }))

-- WHAT THE STATEMENT SAYS of them: the first read does not count, nor does a further read or a store.
pub one_of_two_rereads : Status4 → (errors_after ready 2 (crc ∷ late ∷ good ∷ []) ≡ 1) × (errors_after ready 2 (crc ∷ good ∷ crc ∷ []) ≡ 1)
one_of_two_rereads is_e = (
  is_e (asked ready 2).step.drive (asked ready 2).bytes (first 2) crc (late ∷ good ∷ []) first_fails.0 first_fails.1,
  is_e (asked ready 2).step.drive (asked ready 2).bytes (first 2) crc (good ∷ crc ∷ []) second_fails.0 second_fails.1,
)

pub further_reads_do_not_count : Status4 → errors_after ready 2 (crc ∷ late ∷ crc ∷ crc ∷ good ∷ []) ≡ 2
further_reads_do_not_count is_e =
    is_e (asked ready 2).step.drive (asked ready 2).bytes (first 2) crc (late ∷ crc ∷ crc ∷ good ∷ []) both_fail.0 both_fail.1

pub a_store_does_not_count : Status4 → errors_after changed 2 (good ∷ late ∷ []) ≡ 0
a_store_does_not_count is_e = is_e (asked changed 2).step.drive (asked changed 2).bytes (first 2) good (late ∷ []) store_fails.0 store_fails.1

-- So the calls leave it.
pub status_4_so :
    (errors_after ready 2 (crc ∷ late ∷ good ∷ []) ≡ 1)
    × (errors_after ready 2 (crc ∷ good ∷ crc ∷ []) ≡ 1)
    × (errors_after ready 2 (crc ∷ late ∷ crc ∷ crc ∷ good ∷ []) ≡ 2)
    × (errors_after changed 2 (good ∷ late ∷ []) ≡ 0)
unfolding computed
status_4_so = (refl, refl, refl, refl)

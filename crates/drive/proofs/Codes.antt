-- THE CODES, computed: each clause of code 1 on both sides of its bound, and the order in which the codes are tested.
use mathlib.Core.Path.{◌≡◌, refl}
use mathlib.Core.Bool.{Bool, true, false}
use mathlib.Core.List.{List, [], ◌∷◌, ◌++◌}
use Prim.Native.Nat.{ℕ}
use lib.ListN.{replicate}
use Rattle.lists.specs.Lists.{dead}
use Rattle.table.specs.declared.Table.{Table}
use Rattle.drive.specs.declared.Cause.TheVariants as cause
use Rattle.drive.specs.declared.Drive.{Drive}
use Rattle.drive.specs.declared.Target.{Target}
use Rattle.drive.specs.declared.Trial.{Trial}
use Rattle.drive.specs.declared.Close.{Close}
use Rattle.drive.specs.declared.Ending.TheVariants as ending
use Rattle.drive.specs.declared.Offer.TheVariants as offer
use Rattle.drive.specs.declared.Access.{Access}
use Rattle.drive.specs.declared.Access.TheVariants as access
use Rattle.drive.specs.declared.Phase.{Phase}
use Rattle.drive.specs.declared.Phase.TheVariants as phase
use Rattle.drive.specs.Records.{record_ok}
use Rattle.drive.specs.Results.{clean}
use Rattle.drive.specs.Calls.{Call, raise, lower, feed, surface, reset, step_of, image_out_of}
use Rattle.drive.specs.Views.{of_answer}
use Rattle.drive.proofs.Computing.{computed}
use Rattle.drive.proofs.Examples.{blocks}

-- THE RECORDS

-- Returns a table whose lists begin with these entries and have these counts.
abbrev pub table : List ℕ → ℕ → List ℕ → ℕ → Table
table s n b m = record { spares = s ++ replicate 32 0; bads = b ++ replicate 100 0; nspares = n; nbads = m }

-- Returns a record with this table, known or not, so many command and data bytes counted, in this phase.
abbrev pub with : Table → Bool → ℕ → ℕ → Phase → Drive
with t known n f p =
    record {
      table = t;
      causes = replicate 32 0;
      state = record { phase = p; marks = record { known = known; changed = false; moved = false; latch = false; fresh = false }; command = replicate 6 0; count = n; fed = f; run = 0 };
    }

-- Returns one with empty lists and the most bytes that code 1 lets pass.
abbrev pub at : Bool → Phase → Drive
at known p = with (table [] 0 [] 0) known 6 533 p

-- Returns an idle one with these lists and no table known.
abbrev pub lists : List ℕ → ℕ → List ℕ → ℕ → Drive
lists s n b m = with (table s n b m) false 0 0 phase.Idle

-- Returns an idle one with two dead spares and these causes.
abbrev caused : List ℕ → Drive
caused cs = record { table = table (dead ∷ dead ∷ []) 2 [] 0; causes = cs ++ replicate 32 0; state = (at false phase.Idle).state }

-- Returns one that awaits an access.
abbrev pub awaiting : Bool → Access → Drive
awaiting known x = at known (phase.Awaiting x)

-- Returns a read of block b at sector s.
abbrev pub retry : ℕ → ℕ → ℕ → ℕ → ℕ → Access
retry b s errors left spent =
    access.Read (record { block = record { 0 = b }; sector = record { 0 = s }; first = false; left = left; spent = spent; threshold = 0; good = false; seen = record { errors = errors; crc = false; timeout = false } })

-- Returns a write of block b at sector s.
abbrev pub target : ℕ → ℕ → Target
target b s = record { block = record { 0 = b }; sector = record { 0 = s }; verify = true }

-- Returns the trial of sector s for block b, with so many rereads and failures.
abbrev pub trial_of : ℕ → ℕ → Bool → ℕ → ℕ → Trial
trial_of b s spare n k =
    record {
      block = record { 0 = b };
      sector = record { 0 = s };
      spare = spare;
      rereads = n;
      failures = k;
      seen = record { errors = 0; crc = false; timeout = false };
      last = cause.Unknown;
      before = cause.Unknown;
      present = cause.Unknown;
    }

-- Holds the end of a command that was good.
abbrev pub close : Close
close = record { ending = ending.Good; seen = clean }

abbrev Passes : Drive → Type 0
Passes d = record_ok d ≡ true

abbrev Fails : Drive → Type 0
Fails d = record_ok d ≡ false

-- CODE 1

pub record Code1 : Type 0 where
  -- "more than 6 command or 533 data bytes counted"
  pub command_bytes : Passes (with (table [] 0 [] 0) true 6 0 phase.Command) × Fails (with (table [] 0 [] 0) true 7 0 phase.Command)
  pub data_bytes : Passes (with (table [] 0 [] 0) true 0 533 phase.Data) × Fails (with (table [] 0 [] 0) true 0 534 phase.Data)
  -- Tests both counts where nothing is awaited.
  pub idle : Passes (at false phase.Idle) × Fails (with (table [] 0 [] 0) false 7 0 phase.Idle)
  pub offered : Passes (at false (phase.Offered offer.Act)) × Fails (with (table [] 0 [] 0) false 0 534 (phase.Offered offer.Act))
  -- "start reads above 10"; a start has no table
  pub start_reads : Passes (awaiting false (access.Start 10)) × Fails (awaiting false (access.Start 11))
  -- "any access but the start's awaited with no table"
  pub store : Passes (awaiting true (access.Store close)) × Fails (awaiting false (access.Store close))
  pub read : Passes (awaiting true (retry 9727 9791 100 155 89)) × Fails (awaiting false (retry 9727 9791 100 155 89))
  pub write : Passes (awaiting true (access.Write (target 9727 9791))) × Fails (awaiting false (access.Write (target 9727 9791)))
  pub verify : Passes (awaiting true (access.Verify (target 9727 9791))) × Fails (awaiting false (access.Verify (target 9727 9791)))
  pub trial_write : Passes (awaiting true (access.TrialWrite (trial_of 9727 9791 false 100 100))) × Fails (awaiting false (access.TrialWrite (trial_of 9727 9791 false 100 100)))
  pub reread : Passes (awaiting true (access.TrialRead (trial_of 9727 9791 false 100 100))) × Fails (awaiting false (access.TrialRead (trial_of 9727 9791 false 100 100)))
  -- "a pending sector or block out of range"
  pub read_block : Fails (awaiting true (retry 9728 0 0 0 0))
  pub read_sector : Fails (awaiting true (retry 0 9792 0 0 0))
  pub write_block : Fails (awaiting true (access.Write (target 9728 0))) × Fails (awaiting true (access.Verify (target 9728 0)))
  pub write_sector : Fails (awaiting true (access.Write (target 0 9792))) × Fails (awaiting true (access.Verify (target 0 9792)))
  pub trial_block : Fails (awaiting true (access.TrialWrite (trial_of 9728 0 false 0 0))) × Fails (awaiting true (access.TrialRead (trial_of 9728 0 false 0 0)))
  pub trial_sector : Fails (awaiting true (access.TrialWrite (trial_of 0 9792 false 0 0))) × Fails (awaiting true (access.TrialRead (trial_of 0 9792 false 0 0)))
  -- "E plus rereads left above 255, spent above 89 while a read is awaited"
  pub errors_and_rereads : Fails (awaiting true (retry 0 0 100 156 0)) × Fails (awaiting true (retry 0 0 1 255 0)) × Passes (awaiting true (retry 0 0 0 255 0))
  pub spent : Passes (awaiting true (retry 0 0 0 0 89)) × Fails (awaiting true (retry 0 0 0 0 90))
  -- "a trial's rereads, at most 100, and failures, at most the rereads made"
  pub rereads : Fails (awaiting true (access.TrialWrite (trial_of 0 0 false 101 0))) × Fails (awaiting true (access.TrialRead (trial_of 0 0 false 101 0)))
  pub failures : Fails (awaiting true (access.TrialWrite (trial_of 0 0 false 0 1))) × Fails (awaiting true (access.TrialRead (trial_of 0 0 false 99 100)))
  -- "a spare under trial other than the next unused"
  pub next_spare_lem : Passes (awaiting true (access.TrialWrite (trial_of 0 4928 true 0 0))) × Fails (awaiting true (access.TrialWrite (trial_of 0 4929 true 0 0)))
  pub next_verified : Passes (awaiting true (access.TrialRead (trial_of 0 4928 true 0 0))) × Fails (awaiting true (access.TrialRead (trial_of 0 4929 true 0 0)))
  pub spare_before : Fails (with (table (dead ∷ []) 1 (5 ∷ 6 ∷ []) 2) true 0 0 (phase.Awaiting (access.TrialWrite (trial_of 0 4928 true 0 0))))
  pub last_spare_lem : Passes (with (table (replicate 31 dead) 31 [] 0) true 0 0 (phase.Awaiting (access.TrialWrite (trial_of 0 4959 true 0 0))))
  pub no_spare : Fails (with (table (replicate 32 dead) 32 [] 0) true 0 0 (phase.Awaiting (access.TrialWrite (trial_of 0 4960 true 0 0))))
  -- "record with lists not well formed", in every record
  pub marks_and_both_lists : Passes (lists (dead ∷ 9727 ∷ dead ∷ []) 3 (9727 ∷ []) 1)
  pub spares_33 : Passes (lists (replicate 32 dead) 32 [] 0) × Fails (lists (replicate 33 dead) 33 [] 0)
  pub bads_101 : Passes (lists [] 0 (blocks 100) 100) × Fails (lists [] 0 (blocks 101) 101)
  pub twice : Fails (lists (5 ∷ 5 ∷ []) 2 [] 0) × Fails (lists [] 0 (5 ∷ 5 ∷ []) 2)
  -- "a cause above 3", of an entry in use
  pub causes : Passes (caused (3 ∷ 3 ∷ [])) × Fails (caused (4 ∷ [])) × Fails (caused (0 ∷ 4 ∷ [])) × Passes (caused (0 ∷ 0 ∷ 4 ∷ []))
  pub no_block : Fails (lists (9728 ∷ []) 1 [] 0) × Fails (lists [] 0 (9728 ∷ []) 1) × Fails (lists [] 0 (dead ∷ []) 1)

pub code_1 : Code1
unfolding computed
code_1 =
    record {
      command_bytes = (refl, refl);
      data_bytes = (refl, refl);
      idle = (refl, refl);
      offered = (refl, refl);
      start_reads = (refl, refl);
      store = (refl, refl);
      read = (refl, refl);
      write = (refl, refl);
      verify = (refl, refl);
      trial_write = (refl, refl);
      reread = (refl, refl);
      read_block = refl;
      read_sector = refl;
      write_block = (refl, refl);
      write_sector = (refl, refl);
      trial_block = (refl, refl);
      trial_sector = (refl, refl);
      errors_and_rereads = (refl, refl, refl);
      spent = (refl, refl);
      rereads = (refl, refl);
      failures = (refl, refl);
      next_spare_lem = (refl, refl);
      next_verified = (refl, refl);
      spare_before = refl;
      last_spare_lem = refl;
      no_spare = refl;
      marks_and_both_lists = refl;
      spares_33 = (refl, refl);
      bads_101 = (refl, refl);
      twice = (refl, refl);
      causes = (refl, refl, refl, refl);
      no_block = (refl, refl, refl);
    }

-- THE ORDER OF THE CODES

-- Returns the code with which a call refuses, given a buffer of n bytes.
abbrev code_of_call : Call → Drive → ℕ → ℕ
code_of_call c d n = (of_answer (step_of c d (replicate n 0)).step.answer).code

abbrev code_of_image : Drive → ℕ → ℕ
code_of_image d n = (of_answer (image_out_of d (replicate n 0)).step.answer).code

-- Holds a record that code 1 refuses.
abbrev broken : Drive
broken = lists (9728 ∷ []) 1 [] 0

-- Holds a record that awaits the start's first read.
abbrev starting : Drive
starting = awaiting false (access.Start 1)

-- Holds an idle record with changes that are not stored.
abbrev unstored : Drive
unstored =
    record {
      table = table [] 0 [] 0;
      causes = replicate 32 0;
      state = record { phase = phase.Idle; marks = record { known = true; changed = true; moved = false; latch = false; fresh = false }; command = replicate 6 0; count = 0; fed = 0; run = 0 };
    }

pub record InOrder : Type 0 where
  -- Tests 1 before 2, and for every call.
  pub first_1 :
      (code_of_call raise broken 535 ≡ 1)
      × (code_of_call (lower 0x55) broken 535 ≡ 1)
      × (code_of_call (feed []) broken 535 ≡ 1)
      × (code_of_call (surface 9 []) broken 535 ≡ 1)
      × (code_of_call reset broken 535 ≡ 1)
      × (code_of_image broken 536 ≡ 1)
  -- Tests 2 before 3 and 4.
  pub then_2 :
      (code_of_call raise starting 535 ≡ 2)
      × (code_of_call (lower 0x55) starting 537 ≡ 2)
      × (code_of_call (feed []) starting 0 ≡ 2)
      × (code_of_call (surface 9 []) starting 535 ≡ 2)
      × (code_of_call reset starting 532 ≡ 2)
      × (code_of_image starting 536 ≡ 2)
  -- Tests 3 before 4 and 5.
  pub then_3 :
      (code_of_call raise starting 536 ≡ 3) × (code_of_call (surface 9 (7 ∷ [])) (at true phase.Idle) 536 ≡ 3) × (code_of_image starting 532 ≡ 3)
  -- Tests 4 before 5, for a read and for a write.
  pub then_4 :
      (code_of_call (surface 4 (7 ∷ [])) starting 536 ≡ 4)
      × (code_of_call (surface 1 (7 ∷ [])) (awaiting true (access.Store close)) 536 ≡ 4)
  pub then_5 : (code_of_call (surface 3 (7 ∷ [])) starting 536 ≡ 5) × (code_of_call (surface 0 (7 ∷ [])) (awaiting true (access.Store close)) 536 ≡ 5)
  -- Gives none where a call is taken, whatever it answers.
  pub none :
      (code_of_call (surface 3 []) starting 536 ≡ 0)
      × (code_of_call raise (at true phase.Idle) 536 ≡ 0)
      × (code_of_call (lower 0x00) (at true (phase.Offered offer.Command)) 536 ≡ 0)
      × (code_of_call (surface 2 []) starting 536 ≡ 0)
      × (code_of_call (surface 2 []) (awaiting true (access.TrialWrite (trial_of 0 0 false 0 0))) 536 ≡ 0)
      × (code_of_call raise unstored 536 ≡ 0)
      × (code_of_call (surface 0 (replicate 532 0)) (awaiting true (access.TrialRead (trial_of 0 4928 true 99 0))) 536 ≡ 0)
      × (code_of_call (surface 0 []) (awaiting true (access.Store close)) 536 ≡ 0)
      × (code_of_image (at true phase.Idle) 532 ≡ 0)

pub in_order : InOrder
unfolding computed image_out_of
in_order =
    record {
      first_1 = (refl, refl, refl, refl, refl, refl);
      then_2 = (refl, refl, refl, refl, refl, refl);
      then_3 = (refl, refl, refl);
      then_4 = (refl, refl);
      then_5 = (refl, refl);
      none = (refl, refl, refl, refl, refl, refl, refl, refl, refl);
    }

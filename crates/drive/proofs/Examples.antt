-- THE STARRED EXAMPLES of document 01, all thirteen, computed from the definitions. Two of them enter the block in the bad list: by
-- request 7 of document 02 they ask for the store, and are finished at its answer.
use mathlib.Core.Path.{◌≡◌, refl}
use mathlib.Core.Bool.{true, false}
use mathlib.Core.List.{List, [], ◌∷◌, ◌++◌}
use Prim.Native.Nat.{ℕ, zero, suc}
use lib.ListN.{take, replicate}
use Rattle.geometry.specs.Geometry.{is_block}
use Rattle.lists.specs.Lists.{dead}
use Rattle.table.specs.Tables.{sector_of, empty_table}
use Rattle.image.specs.FormA.{form_a}
use Rattle.image.specs.Images.{well_formed}
use Rattle.drive.specs.declared.Cause.TheVariants as cause
use Rattle.drive.specs.declared.Drive.{Drive}
use Rattle.drive.specs.declared.Access.TheVariants as access
use Rattle.drive.specs.declared.Phase.{Phase}
use Rattle.drive.specs.declared.Phase.TheVariants as phase
use Rattle.drive.specs.declared.Answer.TheVariants as answer
use Rattle.drive.specs.Results.{Out}
use Rattle.drive.specs.Calls.{Call, raise, lower, feed, surface, step_of}
use Rattle.drive.proofs.Computing.{computed}

-- Returns the sector at which a table with no spare in use has block n.
abbrev pub at_home : ℕ → ℕ
at_home n = (sector_of [] (record { 0 = n })).0

-- Returns the blocks 0, 1, .., n of them.
abbrev pub blocks : ℕ → List ℕ
blocks zero = []
blocks (suc n) = blocks n ++ (n ∷ [])

-- Returns an image that is well formed in all but, perhaps, its counts.
abbrev pub counted : ℕ → ℕ → List ℕ
counted spares bads = form_a (replicate spares dead) (blocks bads)

-- Holds an idle drive with an empty table, which has finished a command since its start.
abbrev pub ready : Drive
ready =
    record {
      table = empty_table;
      causes = replicate 32 0;
      state = record { phase = phase.Idle; marks = record { known = true; changed = false; moved = false; latch = false; fresh = false }; command = replicate 6 0; count = 0; fed = 0; run = 0 };
    }

-- Makes calls one after the other.
abbrev pub run : Drive → List ℕ → List Call → Out
run d u [] = record { step = record { drive = d; answer = answer.Wait }; bytes = u }
run d u (c ∷ []) = step_of c d u
run d u (c ∷ x ∷ cs) = run (step_of c d u).step.drive (step_of c d u).bytes (x ∷ cs)

-- Asks for a read of block 0 with R and T, and answers it.
abbrev pub asks : ℕ → ℕ → List Call → List Call
asks r t cs = raise ∷ lower 0x55 ∷ feed (0 ∷ 0 ∷ 0 ∷ 0 ∷ r ∷ t ∷ []) ∷ raise ∷ lower 0x55 ∷ cs

abbrev pub crc : Call
crc = surface 1 (replicate 532 1)

abbrev pub good : Call
good = surface 0 (replicate 532 7)

abbrev pub timeout : Call
timeout = surface 2 []

-- Answers a write or the store with 0.
abbrev pub done : Call
done = surface 0 []

abbrev pub reading : ℕ → ℕ → List Call → Out
reading r t cs = run ready (replicate 536 0) (asks r t cs)

-- Says that a command finished with these four status bytes.
abbrev pub Ended : Out → List ℕ → Type 0
Ended x status = (x.step.answer ≡ answer.Finished) × (take 4 x.bytes ≡ status)

-- Says that the read so answered asks for the store, and finishes with these four status bytes once that is done.
abbrev pub EndedStored : ℕ → ℕ → List Call → List ℕ → Type 0
EndedStored r t cs status = ((reading r t cs).step.answer ≡ answer.Store) × Ended (reading r t (cs ++ (done ∷ []))) status

-- Awaits the write of the trial of the present sector, with one error met. Document 02, request 4: what was a move begins so.
abbrev pub moving : Phase
moving =
    phase.Awaiting (access.TrialWrite (record { block = record { 0 = 0 }; sector = record { 0 = 0 }; spare = false; rereads = 0; failures = 0; seen = record { errors = 1; crc = true; timeout = false }; last = cause.Unknown; before = cause.Unknown; present = cause.Unknown }))

pub record Examples : Type 0 where
  pub block_0 : at_home 0 ≡ 0
  pub block_4927 : at_home 4927 ≡ 4927
  pub block_4928 : at_home 4928 ≡ 4992
  pub block_9727 : at_home 9727 ≡ 9791
  pub block_9728 : is_block 9728 ≡ false
  pub crc_then_good : Ended (reading 0 1 (crc ∷ good ∷ [])) (0x08 ∷ 0 ∷ 0 ∷ 0 ∷ [])
  pub crc_good_good : Ended (reading 2 1 (crc ∷ good ∷ good ∷ [])) (0x08 ∷ 0 ∷ 0 ∷ 0 ∷ [])
  pub crc_crc_good :
      ((reading 2 1 (crc ∷ crc ∷ good ∷ [])).step.answer ≡ answer.Write (record { 0 = 0 })) × ((reading 2 1 (crc ∷ crc ∷ good ∷ [])).step.drive.state.phase ≡ moving)
  pub eleven_timeouts_lem : EndedStored 0 1 (replicate 11 timeout) (0x05 ∷ 0 ∷ 0 ∷ 0 ∷ [])
  pub nine_and_nine : EndedStored 0 1 (crc ∷ replicate 9 timeout ++ replicate 9 crc) (0x0D ∷ 0 ∷ 0 ∷ 0 ∷ [])
  pub spares_32 : well_formed (counted 32 0) ≡ true
  pub spares_33 : well_formed (counted 33 0) ≡ false
  pub bads_101 : well_formed (counted 0 101) ≡ false

pub examples : Examples
unfolding computed
examples =
    record {
      block_0 = refl;
      block_4927 = refl;
      block_4928 = refl;
      block_9727 = refl;
      block_9728 = refl;
      crc_then_good = (refl, refl);
      crc_good_good = (refl, refl);
      crc_crc_good = (refl, refl);
      eleven_timeouts_lem = (refl, (refl, refl));
      nine_and_nine = (refl, (refl, refl));
      spares_32 = refl;
      spares_33 = refl;
      bads_101 = refl;
    }

-- A VERIFY OR A REREAD THAT BRINGS OTHER BYTES IS A CRC ERROR. No lawful run shows it: a surface that answers 0 brings what was
-- written. So it is computed as the starred examples are, and so is a read that is answered 0 twice with different bytes.
use mathlib.Core.Path.{◌≡◌, refl}
use mathlib.Core.List.{List, [], ◌∷◌, ◌++◌}
use Prim.Native.Nat.{ℕ, ◌-◌}
use lib.ListN.{replicate}
use Rattle.drive.specs.declared.Answer.TheVariants as answer
use Rattle.drive.specs.Words.{data_of}
use Rattle.drive.specs.Results.{Out}
use Rattle.drive.specs.Calls.{Call, raise, lower, feed, surface}
use Rattle.drive.proofs.Computing.{computed}
use Rattle.drive.proofs.Examples.{ready, run, crc, good, reading, Ended}

-- Asks for a write/verify of sevens to block 0, and answers it.
abbrev verifying : List Call → Out
verifying cs =
    run ready (replicate 536 0) (raise ∷ lower 0x55 ∷ feed (2 ∷ 0 ∷ 0 ∷ 0 ∷ []) ∷ raise ∷ lower 0x55 ∷ feed (replicate 532 7) ∷ raise ∷ lower 0x55 ∷ cs)

abbrev done : Call
done = surface 0 []

-- Brings sevens to the verify, all of them or all but one byte.
abbrev equal : Call
equal = surface 0 (replicate 532 7)

abbrev first_wrong : Call
first_wrong = surface 0 (8 ∷ replicate 531 7)

abbrev middle_wrong : Call
middle_wrong = surface 0 (replicate 265 7 ++ (8 ∷ replicate 266 7))

abbrev last_wrong : Call
last_wrong = surface 0 (replicate 531 7 ++ (8 ∷ []))

-- Makes a first verify so answered, then the trial's write, and its rereads: so many are equal, and the others so answered.
abbrev then : Call → ℕ → Call → List Call
then first n other = done ∷ first ∷ done ∷ (replicate n equal ++ replicate (100 - n) other)

pub record Verifies : Type 0 where
  pub equal_bytes : Ended (verifying (done ∷ equal ∷ [])) (0x00 ∷ 0 ∷ 0 ∷ 0 ∷ [])
  -- The first verify fails by one byte, and so do 30 of the hundred rereads.
  pub first_byte : Ended (verifying (then first_wrong 70 first_wrong)) (0x08 ∷ 0 ∷ 0 ∷ 0 ∷ [])
  pub middle_byte : (verifying (done ∷ middle_wrong ∷ [])).step.answer ≡ answer.Write (record { 0 = 0 })
  pub last_byte : (verifying (then last_wrong 69 last_wrong)).step.answer ≡ answer.Write (record { 0 = 4928 })
  -- Answer 1 fails a verify and a reread even with equal bytes.
  pub answer_1 : (verifying (then (surface 1 (replicate 532 7)) 69 (surface 1 (replicate 532 7)))).step.answer ≡ answer.Write (record { 0 = 4928 })
  -- A read's first good bytes stay, whatever a later good answer brings.
  pub first_good_bytes : data_of (reading 2 1 (crc ∷ good ∷ surface 0 (replicate 532 8) ∷ [])).bytes ≡ replicate 532 7
  -- The bytes of a reread are never kept: the data part stays.
  pub no_bytes_kept : data_of (verifying (done ∷ first_wrong ∷ done ∷ last_wrong ∷ crc ∷ [])).bytes ≡ replicate 532 7

pub verifies : Verifies
unfolding computed
verifies =
    record { equal_bytes = (refl, refl); first_byte = (refl, refl); middle_byte = refl; last_byte = refl; answer_1 = refl; first_good_bytes = refl; no_bytes_kept = refl }

-- A MOVE REPORTED GOOD must have 70 good rereads: lists of lines that the small judge of Made forbids, and one that it allows.
use mathlib.Core.Path.{refl}
use mathlib.Core.List.{List, [], ◌∷◌, ◌++◌}
use Prim.Native.Nat.{ℕ, ◌≤◌}
use native.Mathlib.Omega.{arith}
use lib.ListN.{replicate}
use Rattle.drive.specs.declared.Offer.TheVariants as offer
use Rattle.drive.specs.declared.Answer.TheVariants as answer
use Rattle.drive.specs.declared.Refusal.TheVariants as refusal
use Rattle.drive.specs.Calls.{feed}
use Rattle.drive.specs.History.{Line, blank}
use Rattle.drive.specs.Made.{unwritten, wrote_next, good_write}
use Rattle.drive.proofs.Computing.{computed}
use Rattle.drive.proofs.Forging.{block, not_anywhere, says, ends, shows, offers, reads, writes, gives, garbles, found, asks_write}
use Rattle.drive.proofs.Lasts.{AtLast}
use Rattle.runs.proofs.MadeForged.{goes_to, Asks, AllMade, last_asks}
use Rattle.drive.proofs.Transcripts.{go, done, times_out, command}

-- Moves to spare 0 by a trial with these rereads, before the last one, which is good.
abbrev moved_by : List Line → List Line
moved_by rereads =
    found [] ++ asks_write 1 ++ (says go (writes 17) ∷ says times_out (writes 4928) ∷ shows (block 1) done (reads 4928) ∷ [])
    ++ rereads ++ (ends (gives 1) 0x0C 0x04 1 ∷ [])

abbrev good_ones : ℕ → List Line
good_ones n = replicate n (says (gives 1) (reads 4928))

-- Has 69 good rereads: the seventieth brings a CRC error, other bytes, or another sector's; or it is refused; or the sector is
-- written again after it.
abbrev too_few : Line → List Line
too_few o = moved_by (o ∷ good_ones 68)

abbrev elsewhere : List Line
elsewhere = moved_by (says (garbles 1) (reads 4929) ∷ says (gives 1) (reads 4928) ∷ good_ones 68)

abbrev rewritten : List Line
rewritten = moved_by (says (gives 1) (writes 4928) ∷ shows (block 1) done (reads 4928) ∷ good_ones 68)

no_70 : 70 ≤ 69 → ⊥
no_70 h = omega (arith, h)

pub a_move_with_69_good_rereads :
    (AllMade (too_few (says (garbles 1) (reads 4928))) → ⊥)
    × (AllMade (too_few (says (gives 2) (reads 4928))) → ⊥)
    × (AllMade (too_few (says (gives 1) (answer.Refused refusal.Bytes))) → ⊥)
    × (AllMade elsewhere → ⊥)
    × (AllMade rewritten → ⊥)
unfolding computed wrote_next good_write
a_move_with_69_good_rereads = (
  λ m. no_70 ((last_asks (too_few (says (garbles 1) (reads 4928))) m refl).reread refl),
  λ m. no_70 ((last_asks (too_few (says (gives 2) (reads 4928))) m refl).reread refl),
  λ m. no_70 ((last_asks (too_few (says (gives 1) (answer.Refused refusal.Bytes))) m refl).reread refl),
  λ m. no_70 ((last_asks elsewhere m refl).reread refl),
  λ m. no_70 ((last_asks rewritten m refl).reread refl),
)

-- Reads spare 0 seventy times, and tells of the move there with no write.
abbrev only_read : List Line
only_read = found [] ++ asks_write 1 ++ (says go (reads 4928) ∷ []) ++ good_ones 69 ++ (ends (gives 1) 0x00 0x04 1 ∷ [])

pub a_spare_that_was_only_read : AllMade only_read → ⊥
unfolding computed wrote_next good_write
a_spare_that_was_only_read m = let x = last_asks only_read m refl in not_anywhere x.sector.0 x.written

-- ALLOWED

-- Moves by a write/verify: the write at spare 0 is done, and 70 rereads are good.
abbrev moving : List Line
moving =
    found []
    ++ (offers offer.Command ∷ says go answer.Wait ∷ says (feed (command 2 17 [])) answer.Wait ∷ offers offer.Verify ∷ says go answer.Wait ∷ [])
    ++ (says (feed (3 ∷ [])) answer.Wait ∷ offers offer.Act ∷ says go (writes 17) ∷ says times_out (writes 17) ∷ shows (block 3) done (reads 17) ∷ [])
    ++ (says (garbles 9) (writes 4928) ∷ shows (block 3) done (reads 4928) ∷ says (garbles 3) (reads 4928) ∷ [])
    ++ replicate 69 (says (gives 3) (reads 4928)) ++ (ends (gives 3) 0x0C 0x04 3 ∷ [])

pub a_move_with_70_good_rereads : AtLast goes_to Asks (blank, unwritten) moving
unfolding computed wrote_next good_write
a_move_with_70_good_rereads g = record { sector = record { 0 = 4928 }; written = refl; place = refl; reread = λ k. omega arith }

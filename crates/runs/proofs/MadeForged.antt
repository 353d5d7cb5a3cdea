-- A write reported good must have been made: lists of lines that the small judge of Made forbids, and one that it allows.
use mathlib.Core.Path.{◌≡◌, refl, sym, ◌∙◌}
use mathlib.Core.Bool.{Bool, true, not, ◌&&◌, ◌||◌}
use mathlib.Core.List.{List, [], ◌∷◌, ◌++◌}
use borrow.Author.Tests.{leb-true}
use lib.Dec.{leb}
use Rattle.logic.proofs.Bools.{clash, and_left, and_right}
use Rattle.geometry.specs.declared.Sector.{Sector}
use Rattle.drive.specs.declared.Answer.TheVariants as answer
use Rattle.drive.specs.declared.Refusal.TheVariants as refusal
use Rattle.drive.specs.Words.{block_of}
use Rattle.drive.specs.Calls.{Call, raise, feed}
use Rattle.drive.specs.History.{Entry, Line, entry, restart, History, blank, is_at, moves, next, begun, order}
use Rattle.drive.specs.Made.{Wrote, unwritten, wrote_next, good_write, IsMade, Made}
use Rattle.drive.specs.Views.{Where, nowhere, at}
use Rattle.drive.proofs.Computing.{computed}
use Rattle.drive.proofs.Lasts.{AtLast, at_last}
use Rattle.drive.proofs.Forging.{if_so, block, not_there, not_anywhere, sevens, says, ends, shows, reads, writes, gives, found, asks_write, reads_good, writes_good}
use Rattle.drive.proofs.Transcripts.{same_where, same_where_lem, go, done, times_out}

-- Holds what the judge keeps: the history, and the last write answered 0.
abbrev pub Books : Type 0
Books = History × Wrote

abbrev pub goes_to : Books → Line → Books
goes_to b (entry o) = (next sevens b.0 o, wrote_next b.0 b.1 o)
goes_to b (restart a) = (begun b.0 a, b.1)

-- Says what is asked at a line, of a whole list, and at the last line of one. At a start nothing is.
abbrev pub Asks : Books → Line → Type 0
Asks b (entry o) = good_write b.0 o ≡ true → IsMade sevens b.0 b.1 o
Asks b (restart a) = Unit {0}

abbrev pub MadeFrom : Books → List Line → Type 0
MadeFrom b xs = Made sevens b.0 b.1 xs

abbrev pub AllMade : List Line → Type 0
AllMade xs = MadeFrom (blank, unwritten) xs

asks_here : (b : Books) (x : Line) (xs : List Line) → MadeFrom b (x ∷ xs) → Asks b x
asks_here b (entry o) xs m = m.0
asks_here b (restart a) xs m = tt

asks_after : (b : Books) (x : Line) (xs : List Line) → MadeFrom b (x ∷ xs) → MadeFrom (goes_to b x) xs
asks_after b (entry o) xs m = m.1
asks_after b (restart a) xs m = m

pub last_asks : (xs : List Line) → AllMade xs → AtLast goes_to Asks (blank, unwritten) xs
last_asks xs m = at_last goes_to Asks MadeFrom asks_here asks_after (blank, unwritten) xs m

-- FORBIDDEN

-- Reports a write good with no write s.
abbrev never_asked : List Line
never_asked = found [] ++ asks_write 1 ++ (ends go 0x00 0x00 1 ∷ [])

pub a_write_never_asked_for : AllMade never_asked → ⊥
unfolding computed wrote_next good_write
a_write_never_asked_for m = let x = m.1.1.1.1.1.1.1.1.0 refl in not_anywhere x.sector.0 x.written

-- Reports it good by this call, after its write s: a timeout, or a call that is no answer.
abbrev ended_by : Call → List Line
ended_by c = found [] ++ asks_write 1 ++ (says go (writes 17) ∷ ends c 0x00 0x00 1 ∷ [])

pub a_write_without_answer_0 : (AllMade (ended_by times_out) → ⊥) × (AllMade (ended_by raise) → ⊥) × (AllMade (ended_by (feed [])) → ⊥) × (AllMade (ended_by go) → ⊥)
unfolding computed wrote_next good_write
a_write_without_answer_0 = (
  λ m. let x = last_asks (ended_by times_out) m refl in not_anywhere x.sector.0 x.written,
  λ m. let x = last_asks (ended_by raise) m refl in not_anywhere x.sector.0 x.written,
  λ m. let x = last_asks (ended_by (feed [])) m refl in not_anywhere x.sector.0 x.written,
  λ m. let x = last_asks (ended_by go) m refl in not_anywhere x.sector.0 x.written,
)

-- Refuses the answer 0, and the next one is a timeout.
abbrev refused_answer : List Line
refused_answer =
    found [] ++ asks_write 1 ++ (says go (writes 17) ∷ shows (block 1) (gives 9) (answer.Refused refusal.Bytes) ∷ ends times_out 0x00 0x00 1 ∷ [])

pub a_write_whose_answer_0_was_refused : AllMade refused_answer → ⊥
unfolding computed wrote_next good_write
a_write_whose_answer_0_was_refused m = let x = last_asks refused_answer m refl in not_anywhere x.sector.0 x.written

-- Answers a read s with 0, and no write s.
abbrev read_instead : List Line
read_instead = found [] ++ asks_write 1 ++ (says go (reads 17) ∷ ends (gives 1) 0x00 0x00 1 ∷ [])

pub a_write_that_only_read : AllMade read_instead → ⊥
unfolding computed wrote_next good_write
a_write_that_only_read m = let x = last_asks read_instead m refl in not_anywhere x.sector.0 x.written

-- Makes a write good, and reports the next one good with no write s of its own.
abbrev made_before : List Line
made_before = found [] ++ writes_good 1 ++ asks_write 2 ++ (ends go 0x00 0x00 2 ∷ [])

pub a_write_that_the_command_before_made : AllMade made_before → ⊥
unfolding computed wrote_next good_write
a_write_that_the_command_before_made m = let x = last_asks made_before m refl in not_anywhere x.sector.0 x.written

-- Writes at the sector beside.
abbrev beside : List Line
beside = found [] ++ asks_write 1 ++ (says go (writes 18) ∷ ends done 0x00 0x00 1 ∷ [])

pub a_write_made_elsewhere : AllMade beside → ⊥
unfolding computed wrote_next good_write
a_write_made_elsewhere m = let x = last_asks beside m refl in not_there 18 17 refl (x.written ∙ sym x.place)

-- Sends other bytes than the command's.
abbrev other_bytes : List Line
other_bytes = found [] ++ asks_write 1 ++ (says go (writes 17) ∷ ends done 0x00 0x00 2 ∷ [])

pub a_write_of_other_bytes : AllMade other_bytes → ⊥
unfolding computed wrote_next good_write
a_write_of_other_bytes m = let x = last_asks other_bytes m refl in not_anywhere x.sector.0 x.written

-- Writes at the home of the block, reads at spare 0, and tells of the move there.
abbrev moved_unwritten : List Line
moved_unwritten = found [] ++ asks_write 1 ++ (says go (writes 17) ∷ shows (block 1) done (reads 4928) ∷ ends (gives 1) 0x00 0x04 1 ∷ [])

pub a_moved_block_written_at_its_home : AllMade moved_unwritten → ⊥
unfolding computed wrote_next good_write
a_moved_block_written_at_its_home m = let x = last_asks moved_unwritten m refl in not_there 17 4928 refl (x.written ∙ sym x.place)

-- Writes and reads spare 0, and reports the block good where it was.
abbrev moved_untold : List Line
moved_untold = found [] ++ asks_write 1 ++ (says go (writes 17) ∷ says times_out (writes 4928) ∷ shows (block 1) done (reads 4928) ∷ ends (gives 1) 0x04 0x00 1 ∷ [])

pub a_write_made_at_a_spare_with_no_move : AllMade moved_untold → ⊥
unfolding computed wrote_next good_write
a_write_made_at_a_spare_with_no_move m = let x = last_asks moved_untold m refl in not_there 4928 17 refl (x.written ∙ sym x.place)

-- Writes spare 0, reads spare 1, and tells of the move there.
abbrev moved_beside : List Line
moved_beside = found [] ++ asks_write 1 ++ (says go (writes 17) ∷ says times_out (writes 4928) ∷ shows (block 1) done (reads 4929) ∷ ends (gives 1) 0x04 0x04 1 ∷ [])

pub a_write_made_at_another_spare : AllMade moved_beside → ⊥
unfolding computed wrote_next good_write
a_write_made_at_another_spare m = let x = last_asks moved_beside m refl in not_there 4928 4929 refl (x.written ∙ sym x.place)

-- Starts first, and then reports a write good with no write s.
abbrev after_astart : List Line
after_astart = restart (reads 4960) ∷ (found [] ++ asks_write 1 ++ (ends go 0x00 0x00 1 ∷ []))

pub a_write_not_made_after_a_start : AllMade after_astart → ⊥
unfolding computed wrote_next good_write
a_write_not_made_after_a_start m = let x = m.1.1.1.1.1.1.1.1.0 refl in not_anywhere x.sector.0 x.written

-- ALLOWED

-- Asks for no reread where the block did not move.
pub a_write_that_stays_needs_no_reread : AtLast goes_to Asks (blank, unwritten) (found [] ++ writes_good 1)
unfolding computed wrote_next good_write
a_write_that_stays_needs_no_reread g = record { sector = record { 0 = 17 }; written = refl; place = refl; reread = λ k. clash k refl }

-- Says so where a start ends a write that asked for no write s, and a finish comes after it: that reports nothing.
abbrev ended_by_astart : List Line
ended_by_astart = found [] ++ asks_write 1 ++ (says go answer.Wait ∷ restart (reads 4960) ∷ ends done 0x00 0x00 1 ∷ [])

pub a_write_that_a_start_ends_is_not_reported : AllMade ended_by_astart
unfolding computed wrote_next good_write
a_write_that_a_start_ends_is_not_reported =
    (λ g. clash g refl, (λ g. clash g refl, (λ g. clash g refl, (λ g. clash g refl, (λ g. clash g refl, (λ g. clash g refl, (λ g. clash g refl, (λ g. clash g refl, (λ g. clash g refl, (λ g. clash g refl, tt))))))))))

-- Tests whether an entry reports no good write, or one that was made.
abbrev is_well : Books → Entry → Bool
is_well b o =
    let w = wrote_next b.0 b.1 o in
    is_at w.went && same_where w.went ((next sevens b.0 o).place (block_of (order b.0))) && (not (moves o) || leb 70 w.same)

abbrev is_made : Books → Entry → Bool
is_made b o = not (good_write b.0 o) || is_well b o

abbrev is_made_line : Books → Line → Bool
is_made_line b (entry o) = is_made b o
is_made_line b (restart a) = true

abbrev are_made : Books → List Line → Bool
are_made b [] = true
are_made b (x ∷ xs) = is_made_line b x && are_made (goes_to b x) xs

abbrev sector_in : Where → Sector
sector_in nowhere = record { 0 = 0 }
sector_in (at s) = s

in_it : (w : Where) → is_at w ≡ true → w ≡ at (sector_in w)
in_it nowhere h = clash h refl
in_it (at s) h = refl

made_by_test : (b : Books) (o : Entry) → is_made b o ≡ true → Asks b (entry o)
made_by_test b o h g =
    let went = (wrote_next b.0 b.1 o).went in
    let count = (wrote_next b.0 b.1 o).same in
    let place = (next sevens b.0 o).place (block_of (order b.0)) in
    let enough = not (moves o) || leb 70 count in
    let all = if_so (good_write b.0 o) (is_well b o) h g in
    let both = and_left (is_at went && same_where went place) enough all in
    let there = in_it went (and_left (is_at went) (same_where went place) both) in
    record {
      sector = sector_in went;
      written = there;
      place = sym (same_where_lem went place (and_right (is_at went) (same_where went place) both)) ∙ there;
      reread = λ k. leb-true 70 count (if_so (moves o) (leb 70 count) (and_right (is_at went && same_where went place) enough all) k);
    }

all_made : (b : Books) (xs : List Line) → are_made b xs ≡ true → MadeFrom b xs
all_made b [] h = tt
all_made b (entry o ∷ xs) h = (
  made_by_test b o (and_left (is_made b o) (are_made (goes_to b (entry o)) xs) h),
  all_made (goes_to b (entry o)) xs (and_right (is_made b o) (are_made (goes_to b (entry o)) xs) h),
)
all_made b (restart a ∷ xs) h = all_made (goes_to b (restart a)) xs h

-- Writes, with a call refused in between; reads without a write; and fails a write without one.
abbrev making : List Line
making =
    found [] ++ asks_write 1 ++ (says go (writes 17) ∷ says raise (answer.Refused refusal.Place) ∷ ends done 0x00 0x00 1 ∷ [])
    ++ reads_good 1 ++ asks_write 2 ++ (ends go 0x11 0x00 2 ∷ [])

pub writes_that_were_made : AllMade making
unfolding computed wrote_next good_write
writes_that_were_made = all_made (blank, unwritten) making refl

-- The pieces of forged lists of lines, what the rules of the history cannot be met with, and a test that they are met. Blocks
-- are one byte and zeros here.
use mathlib.Core.Path.{◌≡◌, refl, ap, sym}
use mathlib.Core.Logic.{inl, inr}
use mathlib.Core.Bool.{Bool, true, false, not, ◌&&◌, ◌||◌}
use mathlib.Core.List.{List, [], ◌∷◌, ◌++◌}
use Prim.Native.Nat.{ℕ}
use lib.Dec.{eqb}
use lib.ListN.{get_or, replicate}
use Rattle.logic.proofs.Bools.{clash, and_left, and_right}
use Rattle.geometry.specs.Geometry.{is_block}
use Rattle.image.specs.FormA.{form_a}
use Rattle.buffer.specs.Runs.{same}
use Rattle.buffer.proofs.Compare.{same_equal}
use Rattle.drive.specs.declared.Offer.{Offer}
use Rattle.drive.specs.declared.Offer.TheVariants as offer
use Rattle.drive.specs.declared.Answer.{Answer}
use Rattle.drive.specs.declared.Answer.TheVariants as answer
use Rattle.drive.specs.Words.{data_of, block_of}
use Rattle.drive.specs.Calls.{Call, raise, feed, surface}
use Rattle.drive.specs.History.{held, Sectors, Entry, Line, entry, restart, History, is_at, or_else, In, past, order, good_read, first_access, Fits, FitsLine, Apart, Allows}
use Rattle.drive.specs.Views.{Bytes, Where, nowhere, at, of_answer}
use Rattle.drive.proofs.Lasts.{AtLast, at_last, differ}
use Rattle.drive.proofs.Transcripts.{same_where, same_where_lem, sector, go, done, times_out, command}

-- Says what the rules ask at a line, and at the last one of a list.
abbrev pub Asks : Sectors → History → Line → Type 0
Asks start H x = FitsLine H x × Apart (past start H x).place

pub last_asks : (start : Sectors) (H : History) (xs : List Line) → Allows start H xs → AtLast (past start) (Asks start) H xs
last_asks start H xs a = at_last (past start) (Asks start) (Allows start) (λ H x xs a. (a.0, a.1)) (λ H x xs a. a.2) H xs a

-- Returns a block of one byte and zeros.
abbrev pub block : ℕ → Bytes
block v = v ∷ replicate 531 0

-- WHAT THE RULES CANNOT BE MET WITH
abbrev pub byte_of : Bytes → ℕ
byte_of x = get_or x 0 0

abbrev pub number_at : Where → ℕ
number_at nowhere = 0
number_at (at s) = s.0

pub not_the_one : (m n : ℕ) → eqb m n ≡ false → In (block m) (block n ∷ []) → ⊥
not_the_one m n h (inl e) = differ m n h (ap byte_of e)
not_the_one m n h (inr e) = e

pub not_the_two : (m n k : ℕ) → eqb m n ≡ false → eqb m k ≡ false → In (block m) (block n ∷ block k ∷ []) → ⊥
not_the_two m n k h g (inl e) = differ m n h (ap byte_of e)
not_the_two m n k h g (inr e) = not_the_one m k g e

pub not_there : (m n : ℕ) → eqb m n ≡ false → sector m ≡ sector n → ⊥
not_there m n h e = differ m n h (ap number_at e)

pub not_anywhere : (n : ℕ) → nowhere ≡ sector n → ⊥
not_anywhere n e = clash refl (sym (ap is_at e))

-- THE PIECES OF A LIST

-- Holds a seven in every sector.
abbrev pub sevens : Sectors
sevens = λ s. held (block 7)

-- Returns an entry with zeros in its buffer, and a finish with status 1, status 2 and the first data byte.
abbrev pub says : Call → Answer → Line
says c a = entry (record { call = c; answer = a; buffer = replicate 536 0 })

abbrev pub ends : Call → ℕ → ℕ → ℕ → Line
ends c s t v = entry (record { call = c; answer = answer.Finished; buffer = s ∷ t ∷ 0 ∷ 0 ∷ block v })

-- Returns an entry that leaves these bytes in the data part.
abbrev pub shows : Bytes → Call → Answer → Line
shows x c a = entry (record { call = c; answer = a; buffer = 0 ∷ 0 ∷ 0 ∷ 0 ∷ x })

abbrev pub offers : Offer → Line
offers o = says raise (answer.Offer o)

abbrev pub reads : ℕ → Answer
reads n = answer.Read (record { 0 = n })

abbrev pub writes : ℕ → Answer
writes n = answer.Write (record { 0 = n })

-- Answers a read with 0, and with 1.
abbrev pub gives : ℕ → Call
gives v = surface 0 (block v)

abbrev pub garbles : ℕ → Call
garbles v = surface 1 (block v)

-- Finds a table with these spares at the start; or none, with an image that came with answer 1 and bytes that are no image.
abbrev pub found : List ℕ → List Line
found spares = says (surface 0 (form_a spares [])) answer.Wait ∷ []

abbrev pub found_none : List Line
found_none = says (surface 1 (form_a [] [])) (reads 4960) ∷ says (gives 9) answer.Wait ∷ []

-- Asks for a read of block n, up to the offer after which it is acted on.
abbrev pub asks_read : ℕ → List Line
asks_read n = offers offer.Command ∷ says go answer.Wait ∷ says (feed (command 0 n (2 ∷ 2 ∷ []))) answer.Wait ∷ offers offer.Read ∷ []

-- Asks for a write to block n, up to offer 03.
abbrev pub opens_write : ℕ → List Line
opens_write n = offers offer.Command ∷ says go answer.Wait ∷ says (feed (command 1 n [])) answer.Wait ∷ offers offer.Write ∷ []

-- Asks for a write of a byte to block n, and to block 17, up to the offer after which it is acted on.
abbrev pub asks_write_to : ℕ → ℕ → List Line
asks_write_to n v = opens_write n ++ (says go answer.Wait ∷ says (feed (v ∷ [])) answer.Wait ∷ offers offer.Act ∷ [])

abbrev pub asks_write : ℕ → List Line
asks_write v = asks_write_to 17 v

-- Makes whole commands for block 17, reported good.
abbrev pub reads_good : ℕ → List Line
reads_good v = asks_read 17 ++ (says go (reads 17) ∷ ends (gives v) 0x00 0x00 v ∷ [])

abbrev pub writes_good : ℕ → List Line
writes_good v = asks_write v ++ (says go (writes 17) ∷ ends done 0x00 0x00 v ∷ [])

-- Makes a read of block 17 that fails with its last read at spare 0.
abbrev pub moves_in_vain : List Line
moves_in_vain = asks_read 17 ++ (says go (reads 17) ∷ says (garbles 9) (reads 4928) ∷ ends times_out 0x0D 0x00 7 ∷ [])

-- A TEST OF THE RULES

-- Tests the two rules at an entry.
abbrev pub is_in : Bytes → List Bytes → Bool
is_in y [] = false
is_in y (x ∷ xs) = same y x || is_in y xs

abbrev pub passes : History → Entry → Bool
passes H o =
    (not (good_read H o) || is_in (data_of o.buffer) (H.candidates (block_of (order H))))
    && (not (first_access H o) || (is_block (order H).number && same_where (H.place (block_of (order H))) (or_else (of_answer o.answer).read (of_answer o.answer).write)))

-- Tests a line: at a start there is nothing to test.
abbrev pub passes_line : History → Line → Bool
passes_line H (entry o) = passes H o
passes_line H (restart a) = true

abbrev pub all_pass : Sectors → History → List Line → Bool
all_pass start H [] = true
all_pass start H (x ∷ xs) = passes_line H x && all_pass start (past start H x) xs

is_in_lem : (y : Bytes) (xs : List Bytes) → is_in y xs ≡ true → In y xs
is_in_lem y [] h = clash h refl
is_in_lem y (x ∷ xs) h = either (same y x) refl h (is_in_lem y xs)
  where
    either : (b : Bool) → same y x ≡ b → (b || is_in y xs) ≡ true → (is_in y xs ≡ true → In y xs) → In y (x ∷ xs)
    either true e g further = inl (same_equal y x e)
    either false e g further = inr (further g)

pub if_so : (a b : Bool) → (not a || b) ≡ true → a ≡ true → b ≡ true
if_so true b h e = h
if_so false b h e = clash e refl

fits_by_test : (H : History) (o : Entry) → passes H o ≡ true → Fits H o
fits_by_test H o h =
    let found = is_in (data_of o.buffer) (H.candidates (block_of (order H))) in
    let there = same_where (H.place (block_of (order H))) (or_else (of_answer o.answer).read (of_answer o.answer).write) in
    let block = is_block (order H).number in
    let reading = and_left (not (good_read H o) || found) (not (first_access H o) || (block && there)) h in
    let accessing = and_right (not (good_read H o) || found) (not (first_access H o) || (block && there)) h in
    record {
      read_rule = λ g. is_in_lem (data_of o.buffer) (H.candidates (block_of (order H))) (if_so (good_read H o) found reading g);
      first_rule = λ g.
          let both = if_so (first_access H o) (block && there) accessing g in (
            and_left block there both,
            same_where_lem (H.place (block_of (order H))) (or_else (of_answer o.answer).read (of_answer o.answer).write) (and_right block there both),
          );
    }

line_by_test : (H : History) (x : Line) → passes_line H x ≡ true → FitsLine H x
line_by_test H (entry o) h = fits_by_test H o h
line_by_test H (restart a) h = tt

abbrev pub AllFit : Sectors → History → List Line → Type 0
AllFit start H [] = Unit {0}
AllFit start H (x ∷ xs) = FitsLine H x × AllFit start (past start H x) xs

pub all_fit : (start : Sectors) (H : History) (xs : List Line) → all_pass start H xs ≡ true → AllFit start H xs
all_fit start H [] h = tt
all_fit start H (x ∷ xs) h = (
  line_by_test H x (and_left (passes_line H x) (all_pass start (past start H x) xs) h),
  all_fit start (past start H x) xs (and_right (passes_line H x) (all_pass start (past start H x) xs) h),
)

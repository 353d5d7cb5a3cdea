-- DOCUMENT 02, REQUEST 6: what convert promises beyond its equation. "turns either form into the other"; "Moving A to B [..] sets run
-- number and causes to 0, moving back drops them, and A to B to A is the first image."
use Rattle.std.specs.Prelude.{◌≡◌, true, false, not, List, ℕ, length, replicate}
use Rattle.table.specs.Tables.{SameTable}
use Rattle.image.specs.FormB.{has_magic}
use Rattle.image.specs.Images.{well_formed, table_of, run_of, causes_of}
use Rattle.drive.specs.declared.Answer.TheVariants as answer
use Rattle.drive.specs.Calls.{convert_of}
use Rattle.drive.specs.Values.{Bytewise}

-- Says that an image x is the image i in the other form: well formed, of the same two lists, with no run number and no causes.
pub record OtherForm (i x : List ℕ) : Type 0 where
  pub formed : well_formed x ≡ true
  pub other : has_magic x ≡ not (has_magic i)
  pub lists : SameTable (table_of x) (table_of i)
  pub run : run_of x ≡ 0
  pub causes : causes_of x ≡ replicate 32 0

-- Says that every well-formed image is converted so, whatever the second buffer held.
abbrev pub ConvertsEither : Type 0
ConvertsEither =
    (i to : List ℕ) → length to ≡ 532 → well_formed i ≡ true → ((convert_of i to).answer ≡ answer.Wait) × OtherForm i (convert_of i to).bytes

-- Says that form A, converted and converted back, is the first image.
abbrev pub ThereAndBack : Type 0
ThereAndBack =
    (i to back : List ℕ) → Bytewise i → length to ≡ 532 → length back ≡ 532 → well_formed i ≡ true → has_magic i ≡ false
    → convert_of (convert_of i to).bytes back ≡ record { answer = answer.Wait; bytes = i }

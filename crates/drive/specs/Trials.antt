-- A TRIAL HAS EXACTLY A HUNDRED REREADS, whatever they bring, unless answer 3 ends it; 30 failures pass it, 31 do not; and what
-- they bring is not kept.
use Rattle.std.specs.Prelude.{◌≡◌, Bool, true, false, cond, ◌&&◌, List, [], ◌∷◌, ℕ, suc, ◌+◌, ◌≤◌, ◌<◌, eqb, leb, length, take, get_or}
use Rattle.geometry.specs.Geometry.{spare_of}
use Rattle.table.specs.declared.Table.{Table}
use Rattle.buffer.specs.Runs.{same}
use Rattle.drive.specs.declared.Drive.{Drive}
use Rattle.drive.specs.declared.Trial.{Trial}
use Rattle.drive.specs.declared.Close.{Close}
use Rattle.drive.specs.declared.Access.TheVariants as access
use Rattle.drive.specs.declared.Phase.TheVariants as phase
use Rattle.drive.specs.declared.Answer.TheVariants as answer
use Rattle.drive.specs.Words.{data_of, fails}
use Rattle.drive.specs.Records.{record_ok}
use Rattle.drive.specs.Results.{Out}
use Rattle.drive.specs.Access.{bytes_fit}
use Rattle.drive.specs.Sparing.{has_unused}
use Rattle.drive.specs.History.{bit}
use Rattle.drive.specs.Over.{Reply, replied}

-- Says whether an answer to a reread leaves the trial to its count: 0, 1 or 2, with the bytes that it needs.
abbrev pub counts : Reply → Bool
counts x = leb x.number 2 && bytes_fit true x.number (length x.bytes)

-- Says so of each.
abbrev pub AllCount : List Reply → Type 0
AllCount [] = Unit {0}
AllCount (x ∷ xs) = (counts x ≡ true) × AllCount xs

-- Returns how many of the answers fail, given the data part: "more than 30 failures"
abbrev pub failing : List ℕ → List Reply → ℕ
failing part [] = 0
failing part (x ∷ xs) = cond (eqb x.number 0 && same x.bytes part) (failing part xs) (suc (failing part xs))

-- Returns what the last of the answers gives, each given the record and the buffer that the one before it left.
abbrev pub through : Out → List Reply → Out
through x [] = x
through x (y ∷ ys) = through (replied x.step.drive x.bytes y) ys

-- Says that a record awaits a trial's first reread: its write was answered 0. Under the latch no trial begins.
pub record AwaitsReread (d : Drive) (r : Trial) : Type 0 where
  pub phase : d.state.phase ≡ phase.Awaiting (access.TrialRead r)
  pub free : d.state.marks.latch ≡ false
  pub none : r.rereads ≡ 0
  pub clean : r.failures ≡ 0

-- Returns how many spares are listed once the sector failed: one more, if it is a spare.
abbrev pub listed_then : Table → Trial → ℕ
listed_then t r = cond r.spare (t.nspares + 1) t.nspares

-- Says that a command ended, failed or not: it is finished so, or its store is asked for, and how it ended stands in the record.
pub data HasEnded (failed : Bool) (x : Out) : Type 0 where
  finished : x.step.answer ≡ answer.Finished → bit 1 (get_or x.bytes 0 0) ≡ failed → HasEnded failed x
  storing : (k : Close) → x.step.answer ≡ answer.Store → x.step.drive.state.phase ≡ phase.Awaiting (access.Store k) → fails k.ending ≡ failed
      → HasEnded failed x

-- Says what the hundredth reread leads to, with so many failures, and so many spares listed once the sector failed. Passed: the
-- command has ended, good. Failed: a write to the next unused spare, or no spare is unused and the command has ended, failed.
-- The data part stays.
pub record Decided (listed failures : ℕ) (part : List ℕ) (x : Out) : Type 0 where
  pub passes : leb failures 30 ≡ true → HasEnded false x
  pub moves : leb failures 30 ≡ false → has_unused listed ≡ true → x.step.answer ≡ answer.Write (spare_of listed)
  pub ends : leb failures 30 ≡ false → has_unused listed ≡ false → HasEnded true x
  pub stays : data_of x.bytes ≡ part

-- Says that a call asked for a read of the sector, and left this buffer.
pub record Rereads (r : Trial) (u : List ℕ) (x : Out) : Type 0 where
  pub asks : x.step.answer ≡ answer.Read r.sector
  pub stays : x.bytes ≡ u

-- Says that each but the last of a hundred answers to rereads is followed by another reread, and what the last leads to.
abbrev pub Trial100 : Type 0
Trial100 =
    (x : Out) (r : Trial) (ys : List Reply) → record_ok x.step.drive ≡ true → length x.bytes ≡ 536 → AwaitsReread x.step.drive r
    → AllCount ys → length ys ≡ 100
    → ((k : ℕ) → 1 ≤ k → k < 100 → Rereads r x.bytes (through x (take k ys)))
    × Decided (listed_then x.step.drive.table r) (failing (data_of x.bytes) ys) (data_of x.bytes) (through x ys)

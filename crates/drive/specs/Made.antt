-- A WRITE REPORTED GOOD WAS MADE, in every list of calls and starts: its command asked for a write s of its bytes at the sector where its
-- block then is, and that write was answered 0. If the block moved, at least 70 rereads of the spare were answered 0 with its
-- bytes. A small judge beside the history says so; it reads the same entries.
use Rattle.std.specs.Prelude.{◌≡◌, Bool, true, false, cond, not, ◌&&◌, List, [], ◌∷◌, ℕ, suc, ◌≤◌, eqb, length}
use Rattle.buffer.specs.Runs.{same}
use Rattle.geometry.specs.declared.Sector.{Sector}
use Rattle.drive.specs.declared.Drive.{Drive}
use Rattle.drive.specs.Words.{data_of, block_of, is_read}
use Rattle.drive.specs.Calls.{start_of}
use Rattle.drive.specs.History.{Sectors, Entry, Line, entry, restart, History, blank, is_at, acts, reports, good, moves, padded, next, past, order}
use Rattle.drive.specs.Run.{Moment, Lawful, lines, begins}
use Rattle.drive.specs.Views.{Bytes, Where, nowhere, at, of_call, of_answer}

-- Says whether two are the same sector.
abbrev pub same_sector : Where → Where → Bool
same_sector nowhere w = false
same_sector (at s) nowhere = false
same_sector (at s) (at k) = eqb s.0 k.0

-- Holds the last write s of the command under way that was answered 0: where it went, if it sent the command's bytes, and how
-- many rereads of it since then were answered 0 with these bytes.
pub record Wrote : Type 0 where
  pub went : Where
  pub same : ℕ

-- Holds no write.
abbrev pub unwritten : Wrote
unwritten = record { went = nowhere; same = 0 }

-- Returns the write that the entry answers with 0. It sent the data part.
abbrev pub landing : History → Entry → Wrote
landing H o = record { went = cond (same (data_of o.buffer) (padded H.fed)) (of_answer H.last).write nowhere; same = 0 }

-- Says whether a reread of the last write brought the command's bytes.
abbrev pub confirms : History → Wrote → Entry → Bool
confirms H w o = same_sector (of_answer H.last).read w.went && same (of_call o.call).brought (padded H.fed)

-- Returns the write after an answer 0: a new one, the same once more confirmed, or the same.
abbrev pub answered_well : History → Wrote → Entry → Wrote
answered_well H w o =
    cond (is_at (of_answer H.last).write) (landing H o)
    (cond (confirms H w o) (record { went = w.went; same = suc w.same }) w)

-- Returns the last write after an entry. The lower that acts begins anew; a refused call changes nothing.
unfoldable pub wrote_next : History → Wrote → Entry → Wrote
wrote_next H w o =
    cond (of_answer o.answer).refused w
    (cond (acts H o) unwritten (cond (of_call o.call).good (answered_well H w o) w))

-- Says whether the entry reports a write or write/verify of a block good.
unfoldable pub good_write : History → Entry → Bool
good_write H o = not (of_answer o.answer).refused && reports H o && good o && not (is_read (order H).kind)

-- Says that the write which the entry reports went to a sector, and that this is its block's sector after the entry: its spare,
-- if it moved, and then at least 70 rereads were equal.
pub record IsMade (start : Sectors) (H : History) (w : Wrote) (o : Entry) : Type 0 where
  pub sector : Sector
  pub written : (wrote_next H w o).went ≡ at sector
  pub place : (next start H o).place (block_of (order H)) ≡ at sector
  pub reread : moves o ≡ true → 70 ≤ (wrote_next H w o).same

-- Says that each write reported good in the list was made. A start is no report.
abbrev pub Made : Sectors → History → Wrote → List Line → Type 0
Made start H w [] = Unit {0}
Made start H w (entry o ∷ xs) =
    (good_write H o ≡ true → IsMade start H w o) × Made start (past start H (entry o)) (wrote_next H w o) xs
Made start H w (restart a ∷ xs) = Made start (past start H (restart a)) w xs

-- Says that no list of calls and starts reports "writes good that were never made": after any start, with any sectors and any outcome
-- that the surface's rules permit.
abbrev pub WritesMade : Type 0
WritesMade =
    (given : Drive) (lent : Bytes) → length lent ≡ 536
    → (sectors : Sectors) (ms : List Moment) → Lawful (begins (start_of given lent) sectors) ms
    → Made sectors blank unwritten (lines (begins (start_of given lent) sectors) ms)

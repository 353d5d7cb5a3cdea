-- DOCUMENT 02, REQUEST 7: "Whichever access the power fails at, after the next start each read of a block reported good gives a
-- candidate, the interrupted write's bytes being one; with the table spoiled none is good."
use Rattle.std.specs.Prelude.{◌≡◌, Bool, true, false, not, ◌&&◌, List, [], ◌∷◌, length}
use Rattle.geometry.specs.Geometry.{table_sector}
use Rattle.geometry.specs.declared.Block.{Block}
use Rattle.drive.specs.declared.Drive.{Drive}
use Rattle.drive.specs.Results.{Out}
use Rattle.drive.specs.Calls.{start_of}
use Rattle.drive.specs.Surface.{Fate}
use Rattle.drive.specs.History.{Sectors, unreadable, Entry, History, Line, entry, restart, blank, reports, good, past, past_all, begun, candidates_then}
use Rattle.drive.specs.Run.{World, Moment, Lawful, lines, begins, after, after_all, power}
use Rattle.drive.specs.Told.{none, Right, reports_of}
use Rattle.drive.specs.Views.{Bytes, of_answer}

-- Holds where the power fails: after any list of calls and starts that the surface's rules permit, whatever is awaited then. Next
-- comes a start, given any record and any buffer of 536 bytes.
pub record Cut : Type 0 where
  pub given : Drive  -- what the first start of the list was given
  pub lent : Bytes  -- and its buffer
  pub whole : length lent ≡ 536
  pub sectors : Sectors
  pub before : List Moment  -- what happened up to the cut
  pub lawful : Lawful (begins (start_of given lent) sectors) before
  pub drive : Drive  -- what the next start is given, whatever the drive had
  pub buffer : Bytes  -- and its buffer
  pub full : length buffer ≡ 536
  pub fate : Fate  -- what becomes of a pending write

-- Returns the world at that moment, and what the history has.
abbrev pub world_at : Cut → World
world_at c = after_all (begins (start_of c.given c.lent) c.sectors) c.before

abbrev pub history_at : Cut → History
history_at c = past_all c.sectors blank (lines (begins (start_of c.given c.lent) c.sectors) c.before)

-- Returns what the next start gives, the world after it, and what the history has then.
abbrev pub start_at : Cut → Out
start_at c = start_of c.drive c.buffer

abbrev pub world_then : Cut → World
world_then c = after (world_at c) (power c.drive c.buffer c.fate) (start_at c)

abbrev pub history_then : Cut → History
history_then c = begun (history_at c) (start_at c).step.answer

-- Says that after it, over any further calls and starts, each read of a block reported good gives one of the candidates that the
-- history had where the power failed, the bytes of an interrupted write to that block being one; or the bytes of a later write; or,
-- if no table had been read by then, what its sector held as the list began.
abbrev pub CutKeeps : Type 0
CutKeeps =
    (c : Cut) (ms : List Moment) → Lawful (world_then c) ms
    → (b : Block) → Right (candidates_then (history_at c) b) none false (reports_of b c.sectors (history_then c) (lines (world_then c) ms))

-- Says whether an entry reports a read or write of a block good.
abbrev pub good_report : History → Entry → Bool
good_report H o = not (of_answer o.answer).refused && reports H o && good o

-- Says that each such report comes after a table was read since the last start.
abbrev pub Tabled : Sectors → History → List Line → Type 0
Tabled start H [] = Unit {0}
Tabled start H (entry o ∷ xs) = (good_report H o ≡ true → H.found ≡ true) × Tabled start (past start H (entry o)) xs
Tabled start H (restart a ∷ xs) = Tabled start (past start H (restart a)) xs

-- Says so of every list of calls and starts.
abbrev pub GoodIsTabled : Type 0
GoodIsTabled =
    (given : Drive) (lent : Bytes) → length lent ≡ 536
    → (sectors : Sectors) (ms : List Moment) → Lawful (begins (start_of given lent) sectors) ms
    → Tabled sectors blank (lines (begins (start_of given lent) sectors) ms)

-- Says that no entry is such a report.
abbrev pub NoneGood : Sectors → History → List Line → Type 0
NoneGood start H [] = Unit {0}
NoneGood start H (entry o ∷ xs) = (good_report H o ≡ false) × NoneGood start (past start H (entry o)) xs
NoneGood start H (restart a ∷ xs) = NoneGood start (past start H (restart a)) xs

-- Says that there is none for ever, further starts included, once a start after a cut finds the table's sector unreadable: "with the
-- table spoiled none is good".
abbrev pub UnreadableTable : Type 0
UnreadableTable =
    (c : Cut) → (world_then c).sectors table_sector ≡ unreadable
    → (ms : List Moment) → Lawful (world_then c) ms → NoneGood c.sectors (history_then c) (lines (world_then c) ms)

-- Says the same of the first start of a list.
abbrev pub UnreadableAtFirst : Type 0
UnreadableAtFirst =
    (given : Drive) (lent : Bytes) → length lent ≡ 536
    → (sectors : Sectors) → sectors table_sector ≡ unreadable
    → (ms : List Moment) → Lawful (begins (start_of given lent) sectors) ms → NoneGood sectors blank (lines (begins (start_of given lent) sectors) ms)

-- The statements of the demands speak of each computed run, whatever record was started, and of what comes after it if the power
-- fails then.
use mathlib.Core.Path.{◌≡◌, refl}
use mathlib.Core.Bool.{false}
use mathlib.Core.List.{List, []}
use lib.ListN.{replicate}
use Rattle.geometry.specs.Geometry.{table_sector}
use Rattle.geometry.specs.declared.Block.{Block}
use Rattle.drive.specs.declared.Drive.{Drive}
use Rattle.drive.specs.Calls.{started}
use Rattle.drive.specs.Cuts.{Cut, world_then, history_then, CutKeeps, Tabled, GoodIsTabled, NoneGood, UnreadableTable, UnreadableAtFirst}
use Rattle.drive.specs.History.{unreadable, blank, Allows, candidates_then}
use Rattle.drive.specs.Made.{unwritten, Made, WritesMade}
use Rattle.drive.specs.Run.{Lawful, lines, Demand3}
use Rattle.drive.specs.Surface.{Fate}
use Rattle.drive.specs.Told.{none, Right, reports_of, Demand3Told}
use Rattle.drive.proofs.Transcripts.{Exchange, moments, Run, Happens, history, calls, entered}

pub demand_3_of_a_run : Demand3 → (given : Drive) (r : Run) → Happens given r → Allows r.sectors blank (entered given r)
demand_3_of_a_run demand given r h = demand given (replicate 536 1) refl r.sectors (calls r) h.lawful

pub demand_3_told_of_a_run :
    Demand3Told → (given : Drive) (r : Run) (b : Block) → Happens given r → Right [] none false (reports_of b r.sectors blank (entered given r))
demand_3_told_of_a_run demand given r b h = demand given (replicate 536 1) refl r.sectors (calls r) h.lawful b

pub writes_made_of_a_run : WritesMade → (given : Drive) (r : Run) → Happens given r → Made r.sectors blank unwritten (entered given r)
writes_made_of_a_run made given r h = made given (replicate 536 1) refl r.sectors (calls r) h.lawful

pub good_is_tabled_of_a_run : GoodIsTabled → (given : Drive) (r : Run) → Happens given r → Tabled r.sectors blank (entered given r)
good_is_tabled_of_a_run tabled given r h = tabled given (replicate 536 1) refl r.sectors (calls r) h.lawful

pub an_unreadable_table_at_first_of_a_run :
    UnreadableAtFirst → (given : Drive) (r : Run) → Happens given r → r.sectors table_sector ≡ unreadable → NoneGood r.sectors blank (entered given r)
an_unreadable_table_at_first_of_a_run dark given r h e = dark given (replicate 536 1) refl r.sectors e (calls r) h.lawful

-- THE POWER FAILS after a run, with what is pending left so; next comes a start, and then these exchanges

abbrev pub fails_after : (given : Drive) (r : Run) → Happens given r → Fate → Cut
fails_after given r h f =
    record {
      given = given;
      lent = replicate 536 1;
      whole = refl;
      sectors = r.sectors;
      before = calls r;
      lawful = h.lawful;
      drive = started;
      buffer = replicate 536 1;
      full = refl;
      fate = f;
    }

pub a_cut_keeps_of_a_run :
    CutKeeps → (given : Drive) (r : Run) (h : Happens given r) (f : Fate) (ts : List Exchange) (b : Block) → Lawful (world_then (fails_after given r h f)) (moments ts)
    → Right (candidates_then (history given r) b) none false (reports_of b r.sectors (history_then (fails_after given r h f)) (lines (world_then (fails_after given r h f)) (moments ts)))
a_cut_keeps_of_a_run keeps given r h f ts b l = keeps (fails_after given r h f) (moments ts) l b

pub an_unreadable_table_of_a_run :
    UnreadableTable → (given : Drive) (r : Run) (h : Happens given r) (f : Fate) (ts : List Exchange) → (world_then (fails_after given r h f)).sectors table_sector ≡ unreadable
    → Lawful (world_then (fails_after given r h f)) (moments ts)
    → NoneGood r.sectors (history_then (fails_after given r h f)) (lines (world_then (fails_after given r h f)) (moments ts))
an_unreadable_table_of_a_run dark given r h f ts e l = dark (fails_after given r h f) e (moments ts) l

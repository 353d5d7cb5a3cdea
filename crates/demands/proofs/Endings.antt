-- A command that ends by answer 3, or under the latch, asks for no store.
use mathlib.Core.Path.{◌≡◌, refl}
use mathlib.Core.Bool.{Bool, true, false, ◌&&◌, ◌||◌}
use Rattle.logic.proofs.Bools.{clash, and_right}
use Rattle.drive.specs.declared.Change.{Change}
use Rattle.drive.specs.declared.Ending.TheVariants as ending
use Rattle.drive.specs.declared.Marks.{Marks}
use Rattle.drive.specs.declared.Part.{Part}
use Rattle.drive.specs.declared.Seen.{Seen}
use Rattle.drive.specs.declared.State.{State}
use Rattle.drive.specs.declared.Turn.{Turn}
use Rattle.drive.specs.Results.{alters, ended, report, stores, finish}
use Rattle.records.proofs.Ladders.{finish_cases}

latched_stores_none : (m : Marks) (c : Change) → stores (ended m c ending.Latched) ≡ true → ⊥
latched_stores_none m c e = clash (and_right (m.known && (alters c || m.changed)) false e) refl

pub latched_reports : (P : Turn → Type 0) (l : State) (c : Change) (s : Seen) (p : Part) → ((unstored : Bool) → P (report l (ended l.marks c ending.Latched) c ending.Latched s unstored false p)) → P (finish l c ending.Latched s p)
latched_reports P l c s p h = finish_cases P l c ending.Latched s p (record { asks = λ q. absurd (latched_stores_none l.marks c q); reports = λ q. h _ })

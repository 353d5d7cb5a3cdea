-- Code 1: which records are refused. Its clauses are exactly those of the first line of the table of codes, as requests 4 and 6 of
-- document 02 have it.
use Rattle.std.specs.Prelude.{Bool, true, false, not, ◌&&◌, ◌||◌, ℕ, ◌+◌, ltb, leb, eqb, take}
use Rattle.geometry.specs.Geometry.{is_block, is_sector, spare_of}
use Rattle.table.specs.Tables.{table_ok, causes_ok}
use Rattle.drive.specs.declared.Drive.{Drive}
use Rattle.drive.specs.declared.State.{State}
use Rattle.drive.specs.declared.Retry.{Retry}
use Rattle.drive.specs.declared.Target.{Target}
use Rattle.drive.specs.declared.Trial.{Trial}
use Rattle.drive.specs.declared.Access.{Access}
use Rattle.drive.specs.declared.Access.TheVariants as access
use Rattle.drive.specs.declared.Phase.{Phase}
use Rattle.drive.specs.declared.Phase.TheVariants as phase

-- Says whether a read command passes. "E plus rereads left above 255, spent above 89 while a read is awaited", "a pending
-- sector or block out of range"
unfoldable pub retry_ok : Retry → Bool
retry_ok r = is_block r.block.0 && is_sector r.sector.0 && leb (r.seen.errors + r.left) 255 && leb r.spent 89

-- Says whether a write command's write, or its verify, passes. "a pending sector or block out of range"
abbrev pub target_ok : Target → Bool
target_ok w = is_block w.block.0 && is_sector w.sector.0

-- Says whether a trial passes. Document 02, request 4: "code 1 tests a trial's rereads, at most 100, and failures, at most the
-- rereads made"; "a spare under trial other than the next unused": with n listed that is spare n, if n is below 32
unfoldable pub trial_ok : ℕ → Trial → Bool
trial_ok n r =
    is_block r.block.0 && is_sector r.sector.0 && leb r.rereads 100 && leb r.failures r.rereads
    && (not r.spare || (ltb n 32 && eqb r.sector.0 (spare_of n).0))

-- Says whether an awaited access passes. "any access but the start's awaited with no table, start reads above 10": n spares
-- listed, known whether there is a table
abbrev pub access_ok : ℕ → Bool → Access → Bool
access_ok n known (access.Start k) = leb k 10
access_ok n known (access.Store k) = known
access_ok n known (access.Read r) = known && retry_ok r
access_ok n known (access.Write w) = known && target_ok w
access_ok n known (access.Verify w) = known && target_ok w
access_ok n known (access.TrialWrite r) = known && trial_ok n r
access_ok n known (access.TrialRead r) = known && trial_ok n r

-- Says whether the phase passes.
abbrev pub phase_ok : ℕ → Bool → Phase → Bool
phase_ok n known phase.Idle = true
phase_ok n known (phase.Offered o) = true
phase_ok n known phase.Command = true
phase_ok n known phase.Data = true
phase_ok n known (phase.Awaiting x) = access_ok n known x

-- Says whether all but the table passes. "more than 6 command or 533 data bytes counted"
unfoldable pub state_ok : ℕ → State → Bool
state_ok n l = leb l.count 6 && leb l.fed 533 && phase_ok n l.marks.known l.phase

-- Says whether code 1 does not apply: "record with lists not well formed", document 02, request 6, "a cause above 3" among the
-- entries in use, or any of the above.
unfoldable pub record_ok : Drive → Bool
record_ok d = table_ok d.table && causes_ok (take d.table.nspares d.causes) && state_ok d.table.nspares d.state

-- Says whether an access is awaited that passes a test.
abbrev pub awaits : (Access → Bool) → Phase → Bool
awaits f phase.Idle = false
awaits f (phase.Offered o) = false
awaits f phase.Command = false
awaits f phase.Data = false
awaits f (phase.Awaiting x) = f x

-- Holds what is known of an access.
pub record AccessView : Type 0 where
  pub reads : Bool  -- it asks for a read
  pub verifies : Bool  -- what it brings is compared with the data part
  pub start : Bool  -- it belongs to a start
  pub store : Bool  -- it is the store
  pub command : Bool  -- it belongs to a command, as all but the start's reads do; the store by request 7 of document 02: "one access more"

-- Returns what is known of each access.
abbrev pub of_access : Access → AccessView
of_access (access.Start k) = record { reads = true; verifies = false; start = true; store = false; command = false }
of_access (access.Store k) = record { reads = false; verifies = false; start = false; store = true; command = true }
of_access (access.Read r) = record { reads = true; verifies = false; start = false; store = false; command = true }
of_access (access.Write w) = record { reads = false; verifies = false; start = false; store = false; command = true }
of_access (access.Verify w) = record { reads = true; verifies = true; start = false; store = false; command = true }
of_access (access.TrialWrite r) = record { reads = false; verifies = false; start = false; store = false; command = true }
of_access (access.TrialRead r) = record { reads = true; verifies = true; start = false; store = false; command = true }

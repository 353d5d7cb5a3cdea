-- What code 1 lets pass, part by part.
use mathlib.Core.Path.{◌≡◌}
use mathlib.Core.Bool.{true, ◌&&◌}
use lib.ListN.{take}
use Rattle.logic.proofs.Bools.{and_left, and_right}
use Rattle.table.specs.Tables.{table_ok, causes_ok}
use Rattle.drive.specs.declared.Drive.{Drive}
use Rattle.drive.specs.Records.{state_ok, record_ok}

pub record Passed (d : Drive) : Type 0 where
  pub table : table_ok d.table ≡ true
  pub causes : causes_ok (take d.table.nspares d.causes) ≡ true
  pub state : state_ok d.table.nspares d.state ≡ true

pub passed : (d : Drive) → record_ok d ≡ true → Passed d
unfolding record_ok
passed d h =
    let t = table_ok d.table in
    let c = causes_ok (take d.table.nspares d.causes) in
    let l = state_ok d.table.nspares d.state in
    let p = and_left (t && c) l h in
    record { table = and_left t c p; causes = and_right t c p; state = and_right (t && c) l h }

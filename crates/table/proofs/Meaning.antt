-- The test of a table says what the statement says.
use mathlib.Core.Path.{◌≡◌}
use mathlib.Core.Bool.{true, false}
use Rattle.lists.proofs.Meaning.{entries_hold, entries_pass}
use Rattle.table.specs.Tables.{spare_list, bad_list, table_ok, WellFormed}
use Rattle.table.specs.declared.Table.{Table}
use Rattle.table.proofs.Keeps.{passes, passed}

-- THE TEST AND THE STATEMENT ARE EQUIVALENT
pub ok_well_formed : (t : Table) → table_ok t ≡ true → WellFormed t
ok_well_formed t h =
    let p = passes t h in
    record { few_spares = p.few_spares; few_bads = p.few_bads; spares = entries_hold true (spare_list t) p.spares; bads = entries_hold false (bad_list t) p.bads }

pub well_formed_ok : (t : Table) → WellFormed t → table_ok t ≡ true
well_formed_ok t w =
    passed t (record { few_spares = w.few_spares; few_bads = w.few_bads; spares = entries_pass true (spare_list t) w.spares; bads = entries_pass false (bad_list t) w.bads })

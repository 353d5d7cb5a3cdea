-- The table whose lists are lent to a rule, and the change that needs an image.
use Rattle.std.specs.Prelude.{Bool, true, false, List, ℕ}
use Rattle.table.specs.declared.Table.{Table}
use Rattle.drive.specs.declared.Change.{Change}
use Rattle.drive.specs.declared.Change.TheVariants as change

-- Returns the table whose arrays and counts these are.
abbrev pub lent : List ℕ → ℕ → List ℕ → ℕ → Table
lent spares n bads m = record { spares = spares; bads = bads; nspares = n; nbads = m }

-- Says whether a change loads a table.
abbrev pub is_load : Change → Bool
is_load change.Keep = false
is_load change.Load = true
is_load (change.Enter b) = false
is_load (change.Remove b) = false
is_load (change.Move b live killed) = false
is_load (change.Kill cause) = false

-- DEMAND 1: "A command is over after at most 478 surface accesses"; by request 4 of document 02 "the longest read is 3,679
-- accesses", and by request 7 the store is "one access more".
use Rattle.std.specs.Prelude.{◌≡◌, Bool, true, cond, List, [], ◌∷◌, ℕ, suc, ◌≤◌}
use Rattle.drive.specs.declared.Drive.{Drive}
use Rattle.drive.specs.declared.Access.{Access}
use Rattle.drive.specs.declared.Phase.{Phase}
use Rattle.drive.specs.Records.{record_ok, awaits, of_access}
use Rattle.drive.specs.Calls.{Call, step_of}
use Rattle.drive.specs.Views.{of_answer}

-- Says whether an access is a command's.
abbrev pub of_command : Access → Bool
of_command x = (of_access x).command

-- Says whether a command is under way at the surface.
abbrev pub is_command : Phase → Bool
is_command p = awaits of_command p

-- Returns how many calls of the list are accepted before the command under way is over; meanwhile only surface calls are.
unfoldable pub accesses : Drive → List ℕ → List Call → ℕ
accesses d u [] = 0
accesses d u (c ∷ cs) =
    let x = step_of c d u in
    let rest = accesses x.step.drive x.bytes cs in
    cond (is_command d.state.phase) (cond (of_answer x.step.answer).refused rest (suc rest)) 0

-- Returns the most that a command may take: 1 + 255 + 90 reads, then 33 sectors with a write and a hundred rereads each, then
-- the store.
abbrev pub most : ℕ
most = 3680

-- Says that no command takes more, for any valid record, any buffer and list of calls.
abbrev pub Demand1Bound : Type 0
Demand1Bound = (d : Drive) (u : List ℕ) (cs : List Call) → record_ok d ≡ true → accesses d u cs ≤ most

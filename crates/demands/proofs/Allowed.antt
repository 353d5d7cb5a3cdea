-- Demand 3 holds of each computed run: the history allows its whole list.
use Rattle.drive.specs.declared.Drive.{Drive}
use Rattle.drive.specs.History.{blank, Allows}
use Rattle.drive.proofs.Transcripts.{Run, Happens, entered}
use Rattle.drive.proofs.Statements.{demand_3_of_a_run}
use Rattle.demands.proofs.Demand3.{demand_3}

pub allowed : (d : Drive) (r : Run) → Happens d r → Allows r.sectors blank (entered d r)
allowed = demand_3_of_a_run demand_3

-- The whole list: DEMAND 3, and that a good report comes after a table was read.
use mathlib.Core.Path.{◌≡◌, refl}
use mathlib.Core.List.{List, [], ◌∷◌}
use lib.ListN.{length}
use borrow.Author.Tests.{eq-eqb}
use Rattle.logic.proofs.Bools.{clash}
use Rattle.drive.specs.declared.Drive.{Drive}
use Rattle.drive.specs.Calls.{start_of}
use Rattle.drive.specs.History.{Sectors, History, blank, past, past_all, FitsLine, Allows}
use Rattle.drive.specs.Run.{World, Moment, call, power, made, after, line_of, Permits, Lawful, lines, after_all, begins, Demand3}
use Rattle.drive.specs.Cuts.{Tabled, GoodIsTabled}
use Rattle.drive.specs.Views.{Bytes}
use Rattle.demands.proofs.Sim.{Sim, at_start, sim_apart, none_apart}
use Rattle.demands.proofs.Steps.{step}
use Rattle.demands.proofs.Restart.{began}

-- THE INVARIANT HOLDS where the list begins,
pub sim_begins : (given : Drive) (lent : Bytes) → length lent ≡ 536 → (sectors : Sectors) → Sim sectors (begins (start_of given lent) sectors) blank
unfolding start_of
sim_begins given lent h sectors =
    rw (eq-eqb (length lent) 536 h) (at_start refl refl refl (record { apart = none_apart (λ b. refl); untouched = λ q. refl; safe = λ q. clash q refl }))

module _ {start : Sectors} where
  -- after each call and each start,
  pub sim_next : {w : World} {H : History} → Sim start w H → (m : Moment) → Permits w m (made w m) → Sim start (after w m (made w m)) (past start H (line_of m (made w m)))
  sim_next s (call e) ok = (step s e.call e.spoils ok).1
  sim_next s (power d u f) ok = began s d u f

  -- and after the list.
  pub sim_after : {w : World} {H : History} → Sim start w H → (ms : List Moment) → Lawful w ms → Sim start (after_all w ms) (past_all start H (lines w ms))
  sim_after s [] ok = s
  sim_after {w = w} s (m ∷ ms) ok = sim_after {w = after w m (made w m)} (sim_next s m ok.0) ms ok.1

  fits_next : {w : World} {H : History} → Sim start w H → (m : Moment) → Permits w m (made w m) → FitsLine H (line_of m (made w m))
  fits_next s (call e) ok = (step s e.call e.spoils ok).0.fits
  fits_next s (power d u f) ok = tt

  pub all : {w : World} {H : History} → Sim start w H → (ms : List Moment) → Lawful w ms → Allows start H (lines w ms)
  all s [] ok = tt
  all {w = w} s (m ∷ ms) ok =
      let n = sim_next s m ok.0 in
      (fits_next s m ok.0, sim_apart n, all {w = after w m (made w m)} n ms ok.1)

  pub all_tabled : {w : World} {H : History} → Sim start w H → (ms : List Moment) → Lawful w ms → Tabled start H (lines w ms)
  all_tabled s [] ok = tt
  all_tabled {w = w} s (call e ∷ ms) ok =
      let r = step s e.call e.spoils ok.0 in
      (r.0.tabled, all_tabled {w = after w (call e) (made w (call e))} r.1 ms ok.1)
  all_tabled {w = w} s (power d u f ∷ ms) ok =
      all_tabled {w = after w (power d u f) (made w (power d u f))} (began s d u f) ms ok.1

-- DEMAND 3.
pub demand_3 : Demand3
demand_3 given lent h sectors ms ok = all (sim_begins given lent h sectors) ms ok

-- A good report comes after a table was read since the last start.
pub good_is_tabled : GoodIsTabled
good_is_tabled given lent h sectors ms ok = all_tabled (sim_begins given lent h sectors) ms ok

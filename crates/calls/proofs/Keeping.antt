-- Raise, lower, feed and reset keep the table; only a well-formed image is loaded.
use mathlib.Core.Path.{◌≡◌, refl}
use mathlib.Core.Bool.{Bool}
use mathlib.Core.List.{List}
use Prim.Native.Nat.{ℕ}
use lib.Dec.{eqb}
use lib.ListN.{length}
use Rattle.logic.proofs.Bools.{and_right}
use Rattle.table.specs.declared.Table.{Table}
use Rattle.image.specs.Images.{well_formed}
use Rattle.drive.specs.declared.Access.{Access}
use Rattle.drive.specs.declared.Access.TheVariants as access
use Rattle.drive.specs.declared.Change.TheVariants as change
use Rattle.drive.specs.declared.Offer.{Offer}
use Rattle.drive.specs.declared.Offer.TheVariants as offer
use Rattle.drive.specs.declared.Order.{Order}
use Rattle.drive.specs.declared.Phase.{Phase}
use Rattle.drive.specs.declared.Phase.TheVariants as phase
use Rattle.drive.specs.declared.State.{State}
use Rattle.drive.specs.declared.Turn.{Turn}
use Rattle.drive.specs.Words.{order_of}
use Rattle.drive.specs.Handshake.{raised, acted, goes_on, lowered, fed_to, rested}
use Rattle.drive.specs.Access.{asks_read, follows, answered}
use Rattle.records.proofs.Ladders.{acted_cases, lowered_cases, fitting_cases, start_cases}
use Rattle.records.proofs.Shapes.{finish_change, no_load}
use Rattle.calls.specs.Gives.{Formed}

-- THE TABLE IS KEPT
abbrev Keeps : Turn → Type 0
Keeps x = x.change ≡ change.Keep

pub raise_keeps : (p : Phase) (l : State) → Keeps (raised p l)
unfolding raised
raise_keeps phase.Idle l = refl
raise_keeps (phase.Offered o) l = refl
raise_keeps phase.Command l = refl
raise_keeps phase.Data l = refl
raise_keeps (phase.Awaiting x) l = refl

act_keeps : (o : Order) (l : State) (t : Table) → Keeps (acted o l t)
act_keeps o l t =
    acted_cases Keeps o l t
    (record {
      overrun = λ e. record { block = λ f. finish_change l change.Keep _ _ _; no_block = λ f. refl };
      no_block = λ e f. refl;
      buffer = λ e f. refl;
      no_table = λ e f. refl;
      table = λ e f. refl;
      health = λ e f. refl;
      read = λ b e. refl;
      latched = λ b e f. finish_change l change.Keep _ _ _;
      listed = λ b e f g. refl;
      write = λ b e f g. refl;
    })

go_keeps : (o : Offer) (l : State) (t : Table) → Keeps (goes_on o l t)
unfolding goes_on
go_keeps offer.Command l t = refl
go_keeps offer.Read l t = act_keeps (order_of l.command) l t
go_keeps offer.Write l t = refl
go_keeps offer.Verify l t = refl
go_keeps offer.Act l t = act_keeps (order_of l.command) l t

pub lower_keeps : (p : Phase) (l : State) (t : Table) (b : ℕ) → Keeps (lowered p l t b)
unfolding lowered
lower_keeps phase.Idle l t b = refl
lower_keeps (phase.Offered o) l t b = lowered_cases Keeps o l t b (record { goes = λ e. go_keeps o l t; breaks = λ e. refl })
lower_keeps phase.Command l t b = refl
lower_keeps phase.Data l t b = refl
lower_keeps (phase.Awaiting x) l t b = refl

pub feed_keeps : (p : Phase) (l : State) (bs : List ℕ) → Keeps (fed_to p l bs)
unfolding fed_to
feed_keeps phase.Idle l bs = refl
feed_keeps (phase.Offered o) l bs = refl
feed_keeps phase.Command l bs = refl
feed_keeps phase.Data l bs = refl
feed_keeps (phase.Awaiting x) l bs = refl

pub reset_keeps : (p : Phase) (l : State) → Keeps (rested p l)
unfolding rested
reset_keeps phase.Idle l = refl
reset_keeps (phase.Offered o) l = refl
reset_keeps phase.Command l = refl
reset_keeps phase.Data l = refl
reset_keeps (phase.Awaiting x) l = refl

-- ONLY A WELL-FORMED IMAGE IS LOADED
module _ (bs : List ℕ) where
  abbrev Loads : Turn → Type 0
  Loads x = Formed bs x.change

  follow_formed : (x : Access) (l : State) (t : Table) (a : ℕ) (q : Bool) → Loads (follows x l t a bs q)
  unfolding follows
  follow_formed (access.Start k) l t a q =
      start_cases Loads k l a bs (record { table = λ e. and_right (eqb a 0) (well_formed bs) e; stops = λ e f. refl; again = λ e f. refl; gives_up = λ e f. refl })
  follow_formed (access.Store k) l t a q = rw (no_load (access.Store k) l t a bs q refl)
  follow_formed (access.Read r) l t a q = rw (no_load (access.Read r) l t a bs q refl)
  follow_formed (access.Write w) l t a q = rw (no_load (access.Write w) l t a bs q refl)
  follow_formed (access.Verify w) l t a q = rw (no_load (access.Verify w) l t a bs q refl)
  follow_formed (access.TrialWrite r) l t a q = rw (no_load (access.TrialWrite r) l t a bs q refl)
  follow_formed (access.TrialRead r) l t a q = rw (no_load (access.TrialRead r) l t a bs q refl)

  pub answered_formed : (p : Phase) (l : State) (t : Table) (a : ℕ) (q : Bool) → Loads (answered p l t a bs q)
  unfolding answered
  answered_formed phase.Idle l t a q = refl
  answered_formed (phase.Offered o) l t a q = refl
  answered_formed phase.Command l t a q = refl
  answered_formed phase.Data l t a q = refl
  answered_formed (phase.Awaiting x) l t a q =
      fitting_cases Loads (asks_read x) l a (length bs) _ (record { answer = λ e. refl; bytes = λ e f. refl; fits = λ e f. follow_formed x l t a q })

-- The run number of a record stays a number of four bytes: a store asked for adds one below its top, an image brings one of four
-- bytes, and every other rule keeps it.
use mathlib.Core.Bool.{Bool}
use mathlib.Core.List.{List}
use Prim.Native.Nat.{ℕ, ◌<◌}
use native.Mathlib.Omega.{arith}
use borrow.Author.Tests.{eqb-false}
use lib.Dec.{eqb}
use lib.ListN.{length}
use Rattle.logic.proofs.Bools.{branch}
use Rattle.image.specs.FormB.{has_magic}
use Rattle.image.specs.Images.{run_of}
use Rattle.image.proofs.Quads.{two_below}
use Rattle.drive.specs.declared.Drive.{Drive}
use Rattle.drive.specs.declared.State.{State}
use Rattle.drive.specs.declared.Turn.{Turn}
use Rattle.drive.specs.declared.Offer.{Offer}
use Rattle.drive.specs.declared.Offer.TheVariants as offer
use Rattle.drive.specs.declared.Phase.{Phase}
use Rattle.drive.specs.declared.Phase.TheVariants as phase
use Rattle.table.specs.declared.Table.{Table}
use Rattle.drive.specs.Words.{order_of}
use Rattle.drive.specs.Records.{record_ok}
use Rattle.drive.specs.Results.{numbered, guarded}
use Rattle.drive.specs.Handshake.{raised, goes_on, lowered, fed_to, rested}
use Rattle.drive.specs.Access.{asks_read, answered}
use Rattle.drive.specs.Calls.{Call, raise, lower, feed, surface, reset, raise_of, lower_of, feed_of, surface_of, reset_of, step_of}
use Rattle.drive.specs.Values.{Bytewise, TypedCall}
use Rattle.records.proofs.Ladders.{guarded_cases, fitting_cases, lowered_cases}
use Rattle.records.proofs.Shapes.{Shapes, acted_shape, follows_shape}

abbrev Small : ℕ → Type 0
Small n = n < 4294967296

image_small : (i : List ℕ) → Bytewise i → Small (run_of i)
unfolding run_of
image_small i h = branch Small (has_magic i) (λ e. omega (arith, two_below i 4 h, two_below i 6 h)) (λ e. omega arith)

next_small : (l : State) → Small l.run → Small (numbered l).run
next_small l h = branch Small (eqb l.run 4294967295) (λ e. h) (λ e. let n = eqb-false l.run 4294967295 e in omega arith)

module _ (l : State) (t : Table) (h : Small l.run) where
  abbrev Ok : Turn → Type 0
  Ok x = Small x.state.run

  shapes : Shapes Ok l
  shapes = record { reports = λ m c e s v w p k. h; asks = λ m c e s p k. next_small l h; tries = λ c r p k. h; says = λ k a p n r. rw r h }

  raises : (p : Phase) → Ok (raised p l)
  unfolding raised
  raises phase.Idle = h
  raises (phase.Offered o) = h
  raises phase.Command = h
  raises phase.Data = h
  raises (phase.Awaiting x) = h

  goes : (o : Offer) → Ok (goes_on o l t)
  unfolding goes_on
  goes offer.Command = h
  goes offer.Read = acted_shape Ok l shapes t (order_of l.command)
  goes offer.Write = h
  goes offer.Verify = h
  goes offer.Act = acted_shape Ok l shapes t (order_of l.command)

  lowers : (p : Phase) (b : ℕ) → Ok (lowered p l t b)
  unfolding lowered
  lowers phase.Idle b = h
  lowers (phase.Offered o) b = lowered_cases Ok o l t b (record { goes = λ e. goes o; breaks = λ e. h })
  lowers phase.Command b = h
  lowers phase.Data b = h
  lowers (phase.Awaiting x) b = h

  feeds : (p : Phase) (xs : List ℕ) → Ok (fed_to p l xs)
  unfolding fed_to
  feeds phase.Idle xs = h
  feeds (phase.Offered o) xs = h
  feeds phase.Command xs = h
  feeds phase.Data xs = h
  feeds (phase.Awaiting x) xs = h

  rests : (p : Phase) → Ok (rested p l)
  unfolding rested
  rests phase.Idle = h
  rests (phase.Offered o) = h
  rests phase.Command = h
  rests phase.Data = h
  rests (phase.Awaiting x) = h

  surfaces : (p : Phase) (a : ℕ) (bs : List ℕ) (q : Bool) → Bytewise bs → Ok (answered p l t a bs q)
  unfolding answered
  surfaces phase.Idle a bs q y = h
  surfaces (phase.Offered o) a bs q y = h
  surfaces phase.Command a bs q y = h
  surfaces phase.Data a bs q y = h
  surfaces (phase.Awaiting x) a bs q y =
      fitting_cases Ok (asks_read x) l a (length bs) _
      (record { answer = λ e. h; bytes = λ e z. h; fits = λ e z. follows_shape Ok l shapes t x a bs q (λ w. image_small bs y) })

  guards : (ok : Bool) (n : ℕ) (x : Turn) → Ok x → Ok (guarded ok n l x)
  guards ok n x k = guarded_cases Ok ok n l x (record { damaged = λ e. h; length = λ e q. h; passes = λ e q. k })

pub step_run : (c : Call) (d : Drive) (u : List ℕ) → TypedCall c → Small d.state.run → Small (step_of c d u).step.drive.state.run
unfolding step_of raise_of lower_of feed_of surface_of reset_of
step_run raise d u y h = guards d.state d.table h (record_ok d) (length u) _ (raises d.state d.table h d.state.phase)
step_run (lower b) d u y h = guards d.state d.table h (record_ok d) (length u) _ (lowers d.state d.table h d.state.phase b)
step_run (feed xs) d u y h = guards d.state d.table h (record_ok d) (length u) _ (feeds d.state d.table h d.state.phase xs)
step_run (surface a bs) d u y h = guards d.state d.table h (record_ok d) (length u) _ (surfaces d.state d.table h d.state.phase a bs _ y.1)
step_run reset d u y h = guards d.state d.table h (record_ok d) (length u) _ (rests d.state d.table h d.state.phase)

-- A REFUSED CALL CHANGES NOTHING: record and buffer come back as they were.
use mathlib.Core.Path.{◌≡◌, refl}
use mathlib.Core.Bool.{Bool, true, false}
use mathlib.Core.List.{List, []}
use Prim.Native.Nat.{ℕ}
use lib.Dec.{eqb}
use lib.ListN.{length}
use borrow.Author.Tests.{eq-eqb}
use Rattle.logic.proofs.Bools.{branch, clash}
use Rattle.table.specs.declared.Table.{Table}
use Rattle.drive.specs.declared.Answer.{Answer}
use Rattle.drive.specs.declared.Answer.TheVariants as answer
use Rattle.drive.specs.declared.Drive.{Drive}
use Rattle.drive.specs.declared.State.{State}
use Rattle.drive.specs.declared.Offer.{Offer}
use Rattle.drive.specs.declared.Offer.TheVariants as offer
use Rattle.drive.specs.declared.Phase.{Phase}
use Rattle.drive.specs.declared.Phase.TheVariants as phase
use Rattle.drive.specs.declared.Refusal.{Refusal}
use Rattle.drive.specs.declared.Refusal.TheVariants as refusal
use Rattle.drive.specs.declared.Turn.{Turn}
use Rattle.drive.specs.Words.{code_of, order_of}
use Rattle.drive.specs.Records.{record_ok}
use Rattle.drive.specs.Results.{stored_image, Out, part_left, status_left, out_of, refuse, guarded}
use Rattle.drive.specs.Handshake.{raised, goes_on, lowered, fed_to, rested}
use Rattle.drive.specs.Access.{asks_read, answered}
use Rattle.drive.specs.Calls.{Call, raise, lower, feed, surface, reset, raise_of, lower_of, feed_of, surface_of, reset_of, step_of, start_of, image_out_of}
use Rattle.drive.specs.Values.{Code1If, Code1Exactly}
use Rattle.drive.specs.Views.{of_answer}
use Rattle.records.proofs.Ladders.{guarded_cases, fitting_cases, lowered_cases, image_cases}
use Rattle.records.proofs.Shapes.{Shapes, follows_shape, acted_shape}

-- Says whether an answer is code 1.
abbrev pub is_code1 : Answer → Bool
is_code1 a = eqb (of_answer a).code 1

-- A TURN IS A REFUSAL that leaves all, or none.
pub data Verdict (l : State) : Turn → Type 0 where
  refuses : (r : Refusal) → eqb (code_of r) 1 ≡ false → Verdict l (refuse r l)
  accepts : {x : Turn} → (of_answer x.answer).refused ≡ false → Verdict l x

module _ (l : State) where
  abbrev Is : Turn → Type 0
  Is = Verdict l

  no : Is (refuse refusal.Place l)
  no = refuses refusal.Place refl

  raises : (p : Phase) → Is (raised p l)
  unfolding raised
  raises phase.Idle = accepts refl
  raises (phase.Offered o) = no
  raises phase.Command = accepts refl
  raises phase.Data = accepts refl
  raises (phase.Awaiting x) = no

  shapes : Shapes Is l
  shapes = record { reports = λ m c e s v w p k. accepts refl; asks = λ m c e s p k. accepts refl; tries = λ c r p k. accepts refl; says = λ k a p n r. accepts n }

  going : (o : Offer) (t : Table) → Is (goes_on o l t)
  unfolding goes_on
  going offer.Command t = accepts refl
  going offer.Read t = acted_shape Is l shapes t (order_of l.command)
  going offer.Write t = accepts refl
  going offer.Verify t = accepts refl
  going offer.Act t = acted_shape Is l shapes t (order_of l.command)

  lowers : (p : Phase) (t : Table) (b : ℕ) → Is (lowered p l t b)
  unfolding lowered
  lowers phase.Idle t b = no
  lowers (phase.Offered o) t b = lowered_cases Is o l t b (record { goes = λ e. going o t; breaks = λ e. accepts refl })
  lowers phase.Command t b = no
  lowers phase.Data t b = no
  lowers (phase.Awaiting x) t b = no

  feeds : (p : Phase) (bs : List ℕ) → Is (fed_to p l bs)
  unfolding fed_to
  feeds phase.Idle bs = no
  feeds (phase.Offered o) bs = no
  feeds phase.Command bs = accepts refl
  feeds phase.Data bs = accepts refl
  feeds (phase.Awaiting x) bs = no

  resets : (p : Phase) → Is (rested p l)
  unfolding rested
  resets phase.Idle = accepts refl
  resets (phase.Offered o) = accepts refl
  resets phase.Command = accepts refl
  resets phase.Data = accepts refl
  resets (phase.Awaiting x) = no

  surfaces : (p : Phase) (t : Table) (a : ℕ) (bs : List ℕ) (q : Bool) → Is (answered p l t a bs q)
  unfolding answered
  surfaces phase.Idle t a bs q = no
  surfaces (phase.Offered o) t a bs q = no
  surfaces phase.Command t a bs q = no
  surfaces phase.Data t a bs q = no
  surfaces (phase.Awaiting x) t a bs q =
      fitting_cases Is (asks_read x) l a (length bs) _ (record { answer = λ e. refuses refusal.Answer refl; bytes = λ e f. refuses refusal.Bytes refl; fits = λ e f. follows_shape Is l shapes t x a bs q (λ z. accepts refl) })

module _ (d : Drive) (u : List ℕ) where
  -- Says what a whole call owes: if it refuses, all stays; it is code 1 exactly with a record that is not valid.
  abbrev Same : Out → Type 0
  Same x = (of_answer x.step.answer).refused ≡ true → (x.step.drive ≡ d) × (x.bytes ≡ u)

  pub record Owes (x : Out) : Type 0 where
    pub same : Same x
    pub code : Code1If d u x

  not_code : (a : Answer) → (of_answer a).refused ≡ false → is_code1 a ≡ false
  not_code answer.Wait e = refl
  not_code (answer.Offer o) e = refl
  not_code (answer.Read s) e = refl
  not_code (answer.Write s) e = refl
  not_code answer.Store e = refl
  not_code answer.Finished e = refl
  not_code (answer.Refused r) e = clash refl e

  judged : (bs : List ℕ) {x : Turn} → record_ok d ≡ true → Verdict d.state x → Owes (out_of d.table d.causes bs u x)
  unfolding part_left status_left
  judged bs o (refuses r e) = record { same = λ z. (refl, refl); code = record { damaged = λ z. clash o z; valid = λ z. e } }
  judged bs o (accepts {x} e) = record { same = λ z. clash z e; code = record { damaged = λ z. clash o z; valid = λ z. not_code x.answer e } }

  whole : (bs : List ℕ) (x : Turn) → Verdict d.state x → Owes (out_of d.table d.causes bs u (guarded (record_ok d) (length u) d.state x))
  unfolding part_left status_left
  whole bs x h =
      guarded_cases (λ (y : Turn). Owes (out_of d.table d.causes bs u y)) (record_ok d) (length u) d.state x
      (record {
        damaged = λ e. record { same = λ z. (refl, refl); code = record { damaged = λ z. refl; valid = λ z. clash z e } };
        length = λ o q. judged bs o (refuses refusal.Buffer refl);
        passes = λ o q. judged bs o h;
      })

  owes : (c : Call) → Owes (step_of c d u)
  unfolding step_of raise_of lower_of feed_of surface_of reset_of
  owes raise = whole [] _ (raises d.state d.state.phase)
  owes (lower b) = whole [] _ (lowers d.state d.state.phase d.table b)
  owes (feed bs) = whole bs _ (feeds d.state d.state.phase bs)
  owes (surface a bs) = whole bs _ (surfaces d.state d.state.phase d.table a bs _)
  owes reset = whole [] _ (resets d.state d.state.phase)

  -- Refused, each of raise, lower, feed, surface and reset leaves record and buffer,
  pub refused_unchanged : (x : Call) → Same (step_of x d u)
  refused_unchanged x = (owes x).same

  -- so does start,
  pub refused_start_lem : Same (start_of d u)
  unfolding start_of
  refused_start_lem = branch Same (eqb (length u) 536) (λ q. λ e. clash e refl) (λ q. λ e. (refl, refl))

  -- and so does image.
  pub refused_image : Same (image_out_of d u)
  refused_image = image_cases Same d u (record { damaged = λ o. λ e. (refl, refl); length = λ o q. λ e. (refl, refl); no_table = λ o k. λ e. (refl, refl); given = λ o k. λ e. clash e refl })

  image_code : Code1If d u (image_out_of d u)
  image_code =
      image_cases (Code1If d u) d u
      (record {
        damaged = λ o. record { damaged = λ z. refl; valid = λ z. clash z o };
        length = λ o q. record { damaged = λ z. clash o z; valid = λ z. refl };
        no_table = λ o k. record { damaged = λ z. clash o z; valid = λ z. refl };
        given = λ o k. record { damaged = λ z. clash o z; valid = λ z. refl };
      })

-- IMAGE changes no record, in every phase, refused or not,
pub image_keeps : (d : Drive) (u : List ℕ) → (image_out_of d u).step.drive ≡ d
image_keeps d u =
    image_cases (λ (x : Out). x.step.drive ≡ d) d u (record { damaged = λ o. refl; length = λ o q. refl; no_table = λ o k. refl; given = λ o k. refl })

-- and what it writes is the image of the record's table.
pub image_writes : (d : Drive) (u : List ℕ) → record_ok d ≡ true → length u ≡ 532 → d.state.marks.known ≡ true
    → ((image_out_of d u).bytes ≡ stored_image d) × ((image_out_of d u).step.answer ≡ answer.Wait)
unfolding image_out_of
image_writes d u o q k = rw (o, eq-eqb (length u) 532 q, k) (refl, refl)

-- CODE 1 IS RETURNED FOR A RECORD THAT IS NOT VALID, and for no other. Start refuses no record.
pub code_1_only : (c : Call) (d : Drive) (u : List ℕ) → record_ok d ≡ true → is_code1 (step_of c d u).step.answer ≡ false
code_1_only c d u h = (owes d u c).code.valid h

start_code_1 : (d : Drive) (u : List ℕ) → is_code1 (start_of d u).step.answer ≡ false
unfolding start_of
start_code_1 d u = branch (λ (x : Out). is_code1 x.step.answer ≡ false) (eqb (length u) 536) (λ q. refl) (λ q. refl)

pub code_1_exactly : Code1Exactly
code_1_exactly = record { step = λ c d u. (owes d u c).code; image = image_code; start = start_code_1 }

-- A TRIAL HAS EXACTLY A HUNDRED REREADS, whatever they bring; 30 failures pass it, 31 do not. By induction over the answers.
use mathlib.Core.Path.{◌≡◌, refl, sym, ap, subst, subst₂, ◌∙◌}
use mathlib.Core.Bool.{Bool, true, false, cond, ◌&&◌}
use mathlib.Core.List.{List, [], ◌∷◌}
use Prim.Native.Nat.{ℕ, zero, suc, ◌+◌, ◌≤◌, ◌<◌}
use native.Mathlib.Omega.{arith}
use borrow.Author.Tests.{eq-eqb, ne_eqb, lt-ltb, le-ltb, le-leb, leb-true, not-true, not-false}
use lib.Dec.{eqb, leb}
use lib.ListN.{length, take, replicate}
use Rattle.logic.proofs.Bools.{clash, and_left, and_right}
use Rattle.geometry.specs.declared.Block.{Block}
use Rattle.table.specs.declared.Table.{Table}
use Rattle.buffer.specs.Runs.{same}
use Rattle.drive.specs.declared.Cause.{Cause}
use Rattle.drive.specs.declared.Access.TheVariants as access
use Rattle.drive.specs.declared.Answer.{Answer}
use Rattle.drive.specs.declared.Answer.TheVariants as answer
use Rattle.drive.specs.declared.Change.{Change}
use Rattle.drive.specs.declared.Change.TheVariants as change
use Rattle.drive.specs.declared.Drive.{Drive}
use Rattle.drive.specs.declared.Ending.{Ending}
use Rattle.drive.specs.declared.Ending.TheVariants as ending
use Rattle.drive.specs.declared.Part.TheVariants as part
use Rattle.drive.specs.declared.Phase.{Phase}
use Rattle.drive.specs.declared.Phase.TheVariants as phase
use Rattle.drive.specs.declared.Seen.{Seen}
use Rattle.drive.specs.declared.State.{State}
use Rattle.drive.specs.declared.Trial.{Trial}
use Rattle.drive.specs.declared.Turn.{Turn}
use Rattle.drive.specs.Words.{data_of, fails, latches}
use Rattle.drive.specs.Records.{trial_ok, state_ok, record_ok}
use Rattle.drive.specs.Results.{Out, out_of, in_phase, finish, part_left, status_left}
use Rattle.drive.specs.Sparing.{counted, judged, checked}
use Rattle.drive.specs.Access.{bytes_fit, fitting, follows, answered}
use Rattle.drive.specs.Calls.{raise, surface_of}
use Rattle.drive.specs.History.{good}
use Rattle.drive.specs.Over.{Reply, replied}
use Rattle.drive.specs.Trials.{counts, AllCount, failing, through, listed_then, finished, storing, Decided, Rereads, Trial100}
use Rattle.records.proofs.Ladders.{finish_cases, NextSpare, judged_cases}
use Rattle.demands.proofs.Statuses.{good_is, data_ended}

-- WHAT THE LAST ANSWER DECIDES, with n spares listed if the sector failed, and f failures
module _ (t : Table) (cs : List ℕ) (l : State) (u bs : List ℕ) (n f : ℕ) where
  abbrev Decides : Turn → Type 0
  Decides x = Decided n f (data_of u) (out_of t cs bs u x)

  passed : l.marks.latch ≡ false → leb f 30 ≡ true → (c : Change) (e : Ending) (s : Seen) → fails e ≡ false → latches e ≡ false → Decides (finish l c e s part.Kept)
  unfolding good part_left status_left
  passed free h c e s q z =
      finish_cases Decides l c e s part.Kept
      (record {
        asks = λ y. record { passes = λ g. storing _ refl refl q; moves = λ g i. clash h g; ends = λ g i. clash h g; stays = refl };
        reports = λ y. record {
          passes = λ g. finished refl (not-true _ (good_is raise answer.Finished e s _ _ l.marks.fresh u ∙ rw (q, z, free)));
          moves = λ g i. clash h g;
          ends = λ g i. clash h g;
          stays = data_ended raise answer.Finished e s _ _ l.marks.fresh u;
        };
      })

  missed : leb f 30 ≡ false → (c : Change) (b : Block) (s : Seen) {x y : Cause} → NextSpare Decides n l c b s x y
  unfolding good part_left status_left
  missed h c b s =
      record {
        spare = λ q. record { passes = λ g. clash g h; moves = λ g i. refl; ends = λ g i. clash q i; stays = refl };
        no_spare = λ q. finish_cases Decides l c ending.NoSpare s part.Kept
            (record {
              asks = λ y. record { passes = λ g. clash g h; moves = λ g i. clash i q; ends = λ g i. storing _ refl refl refl; stays = refl };
              reports = λ y. record {
                passes = λ g. clash g h;
                moves = λ g i. clash i q;
                ends = λ g i. finished refl (not-false _ (good_is raise answer.Finished ending.NoSpare s _ _ l.marks.fresh u));
                stays = data_ended raise answer.Finished ending.NoSpare s _ _ l.marks.fresh u;
              };
            });
      }

decides : (t : Table) (cs : List ℕ) (l : State) (u bs : List ℕ) (r : Trial) → l.marks.latch ≡ false → 100 ≤ r.rereads → Decides t cs l u bs (listed_then t r) r.failures (judged l t r)
decides t cs l u bs r free h =
    judged_cases (Decides t cs l u bs (listed_then t r) r.failures) l t r
    (record {
      again = λ e. clash e (le-ltb r.rereads 100 h);
      passes = λ e p.
          let good_end = passed t cs l u bs (listed_then t r) r.failures free p in
          record {
            moved = λ g. good_end (change.Move r.block r.before r.present) ending.Moved r.seen refl refl;
            listed = λ g i. good_end (change.Remove r.block) ending.Good r.seen refl refl;
            stays = λ g i. good_end change.Keep ending.Good r.seen refl refl;
          };
      fails = λ e p.
          record {
            dead = λ g. rw g (missed t cs l u bs (t.nspares + 1) r.failures p (change.Kill r.last) r.block r.seen);
            left = λ g. rw g (missed t cs l u bs t.nspares r.failures p change.Keep r.block r.seen);
          };
    })

-- EACH ANSWER counts one failure more, or none.
one_more : (same : Bool) (f n : ℕ) → f + cond same 0 1 + n ≡ f + cond same n (suc n)
one_more true f n = omega arith
one_more false f n = omega arith

few : (same : Bool) {f n : ℕ} → f ≤ n → f + cond same 0 1 ≤ n + 1
few true h = omega arith
few false h = omega arith

module _ (t : Table) (cs : List ℕ) (l : State) (u : List ℕ) (long : length u ≡ 536) where
  -- Returns a record that awaits a reread of a trial, and a call's result with it.
  abbrev awaiting : Trial → Drive
  awaiting r = record { table = t; causes = cs; state = in_phase l (phase.Awaiting (access.TrialRead r)) }

  abbrev asked : Trial → Answer → Out
  asked r a = record { step = record { drive = awaiting r; answer = a }; bytes = u }

  -- Says whether an answer brings the data part, and returns the trial after it.
  abbrev is_same : Reply → Bool
  is_same y = eqb y.number 0 && same y.bytes (data_of u)

  abbrev after : Trial → Reply → Trial
  after r y = counted r y.number (is_same y)

  judges : (r : Trial) (y : Reply) → record_ok (awaiting r) ≡ true → counts y ≡ true → replied (awaiting r) u y ≡ out_of t cs y.bytes u (judged (awaiting r).state t (after r y))
  unfolding surface_of answered fitting follows checked
  judges r y k c =
      let a = y.number in
      let low = leb-true a 2 (and_left (leb a 2) (bytes_fit true a (length y.bytes)) c) in
      let fits = and_right (leb a 2) (bytes_fit true a (length y.bytes)) c in
      rw (k, eq-eqb (length u) 536 long, le-leb a 3 (omega arith), fits, ne_eqb a 3 (λ e. omega arith))

  -- One before the hundredth asks for another, and the record is valid again.
  asks_again : (r : Trial) (y : Reply) → record_ok (awaiting r) ≡ true → counts y ≡ true → r.rereads < 99 → replied (awaiting r) u y ≡ asked (after r y) (answer.Read r.sector)
  unfolding judged part_left status_left
  asks_again r y k c h = judges r y k c ∙ rw (lt-ltb (r.rereads + 1) 100 (omega arith))

  valid_again : (r : Trial) (y : Reply) → record_ok (awaiting r) ≡ true → r.failures ≤ r.rereads → r.rereads < 100 → record_ok (awaiting (after r y)) ≡ true
  unfolding record_ok state_ok trial_ok
  valid_again r y k f h =
      let before = rw (le-leb r.rereads 100 (omega arith), le-leb r.failures r.rereads f) at k in
      rw (le-leb (r.rereads + 1) 100 (omega arith), le-leb (r.failures + cond (is_same y) 0 1) (r.rereads + 1) (few (is_same y) f)) before

  -- Each but the last is followed by another.
  rereads : (k : ℕ) (ys : List Reply) (r : Trial) (a : Answer) → record_ok (awaiting r) ≡ true → r.failures ≤ r.rereads → AllCount ys
      → 1 ≤ k → k ≤ length ys → r.rereads + k < 100 → Rereads r u (through (asked r a) (take k ys))
  rereads zero ys r a v f c p q h = absurd (omega arith)
  rereads (suc j) [] r a v f c p q h = absurd (omega arith)
  rereads (suc zero) (y ∷ ys) r a v f c p q h = subst (Rereads r u) (sym (asks_again r y v c.0 (omega arith))) (record { asks = refl; stays = refl })
  rereads (suc (suc j)) (y ∷ ys) r a v f c p q h =
      let rest = rereads (suc j) ys (after r y) (answer.Read r.sector) (valid_again r y v f (omega arith)) (few (is_same y) f) c.1 (omega arith) (omega arith) (omega arith) in
      subst (λ (x : Out). Rereads r u (through x (take (suc j) ys))) (sym (asks_again r y v c.0 (omega arith))) (record { asks = rest.asks; stays = rest.stays })

  -- The last one decides, by the failures of all.
  last : l.marks.latch ≡ false → (ys : List Reply) (r : Trial) (a : Answer) → record_ok (awaiting r) ≡ true → r.failures ≤ r.rereads → AllCount ys
      → r.rereads < 100 → r.rereads + length ys ≡ 100 → Decided (listed_then t r) (r.failures + failing (data_of u) ys) (data_of u) (through (asked r a) ys)
  last free [] r a v f c h n = absurd (omega arith)
  last free (y ∷ []) r a v f c h n =
      subst (Decided (listed_then t r) (r.failures + cond (is_same y) 0 1) (data_of u)) (sym (judges r y v c.0)) (decides t cs (awaiting r).state u y.bytes (after r y) free (omega arith))
  last free (y ∷ z ∷ zs) r a v f c h n =
      subst₂ (λ (m : ℕ) (x : Out). Decided (listed_then t r) m (data_of u) (through x (z ∷ zs))) (one_more (is_same y) r.failures (failing (data_of u) (z ∷ zs))) (sym (asks_again r y v c.0 (omega arith)))
      (last free (z ∷ zs) (after r y) (answer.Read r.sector) (valid_again r y v f (omega arith)) (few (is_same y) f) c.1 (omega arith) (omega arith))

-- THE WHOLE TRIAL, from any valid record that awaits its first reread
pub trial_100 : Trial100
trial_100 x r ys v h w c n =
    let d = x.step.drive in
    let there : x ≡ asked d.table d.causes d.state x.bytes h r x.step.answer =
    ap (λ (p : Phase). record { step = record { drive = record { table = d.table; causes = d.causes; state = in_phase d.state p }; answer = x.step.answer }; bytes = x.bytes }) w.phase in
    let valid = subst (λ (z : Out). record_ok z.step.drive ≡ true) there v in
    let none : r.failures ≤ r.rereads = omega (arith, w.none, w.clean) in
    let all : r.failures + failing (data_of x.bytes) ys ≡ failing (data_of x.bytes) ys = omega (arith, w.clean) in (
      λ k p q.
          subst (λ (z : Out). Rereads r x.bytes (through z (take k ys))) (sym there)
          (rereads d.table d.causes d.state x.bytes h k ys r x.step.answer valid none c p (omega arith) (omega (arith, w.none))),
      subst₂ (λ (m : ℕ) (z : Out). Decided (listed_then d.table r) m (data_of x.bytes) (through z ys)) all (sym there)
          (last d.table d.causes d.state x.bytes h w.free ys r x.step.answer valid none c (omega (arith, w.none)) (omega (arith, w.none))),
    )

-- Its premise on the answers can be met, by timeouts alone.
pub timeouts_count : (n : ℕ) → AllCount (replicate n (record { number = 2; bytes = [] }))
timeouts_count zero = tt
timeouts_count (suc n) = (refl, timeouts_count n)

-- THE SHAPES OF A TURN: a rule reports, asks for the store, begins a trial, or says something; only the start also loads a table.
-- What holds of each shape holds of each rule.
use Rattle.std.specs.Prelude.{None}
use mathlib.Core.Path.{◌≡◌, refl}
use mathlib.Core.Bool.{Bool, true, false}
use mathlib.Core.List.{List}
use Prim.Native.Nat.{ℕ, ◌+◌}
use Rattle.logic.proofs.Bools.{clash}
use Rattle.geometry.specs.declared.Block.{Block}
use Rattle.table.specs.declared.Table.{Table}
use Rattle.drive.specs.declared.Access.{Access}
use Rattle.drive.specs.declared.Access.TheVariants as access
use Rattle.drive.specs.declared.Answer.{Answer}
use Rattle.image.specs.Images.{run_of}
use Rattle.drive.specs.declared.Cause.{Cause}
use Rattle.drive.specs.declared.Change.{Change}
use Rattle.drive.specs.declared.Change.TheVariants as change
use Rattle.drive.specs.declared.Ending.{Ending}
use Rattle.drive.specs.declared.Marks.{Marks}
use Rattle.drive.specs.declared.State.{State}
use Rattle.drive.specs.declared.Order.{Order}
use Rattle.drive.specs.declared.Outcome.{Outcome}
use Rattle.drive.specs.declared.Outcome.TheVariants as outcome
use Rattle.drive.specs.declared.Part.{Part}
use Rattle.drive.specs.declared.Seen.{Seen}
use Rattle.drive.specs.declared.Trial.{Trial}
use Rattle.drive.specs.declared.Turn.{Turn}
use Rattle.drive.specs.Results.{report, asks_store, finish}
use Rattle.drive.specs.Handshake.{acted}
use Rattle.drive.specs.Retries.{after_read}
use Rattle.drive.specs.Sparing.{begin, counted}
use Rattle.drive.specs.Access.{with_table, store_answered, kept_part, reads, follows}
use Rattle.drive.specs.Views.{of_answer}
use Rattle.drive.specs.Over.{of_start}
use Rattle.records.specs.Turns.{is_load}
use Rattle.records.proofs.Ladders.{finish_cases, acted_cases, NextSpare, Missed, Stopped, Verified, Judged, tried_cases, checked_cases, lost_cases, settled_cases, start_cases, write_cases, verify_cases}

pub record Shapes (P : Turn → Type 0) (l : State) : Type 0 where
  pub reports : (m : Marks) (c : Change) (e : Ending) (s : Seen) (unstored unsettled : Bool) (p : Part) → is_load c ≡ false → P (report l m c e s unstored unsettled p)
  pub asks : (m : Marks) (c : Change) (e : Ending) (s : Seen) (p : Part) → is_load c ≡ false → P (asks_store l m c e s p)
  pub tries : (c : Change) (r : Trial) (p : Part) → is_load c ≡ false → P (begin l c r p)
  pub says : (k : State) (a : Answer) (p : Part) → (of_answer a).refused ≡ false → k.run ≡ l.run → P (record { state = k; answer = a; change = change.Keep; leaves = record { status = None; part = p } })

module _ (P : Turn → Type 0) (l : State) (z : Shapes P l) (t : Table) where
  pub finish_shape : (c : Change) (e : Ending) (s : Seen) (p : Part) → is_load c ≡ false → P (finish l c e s p)
  finish_shape c e s p k = finish_cases P l c e s p (record { asks = λ q. z.asks _ c e s p k; reports = λ q. z.reports _ c e s _ _ p k })

  next_spare_lem : (n : ℕ) (c : Change) (b : Block) (s : Seen) (x y : Cause) → is_load c ≡ false → NextSpare P n l c b s x y
  next_spare_lem n c b s x y k = record { spare = λ e. z.tries c _ _ k; no_spare = λ e. finish_shape c _ _ _ k }

  misses : (r : Trial) (s : Seen) (x : Cause) → Missed P l t r s x
  misses r s x =
      record { dead = λ e. next_spare_lem (t.nspares + 1) (change.Kill x) r.block s x r.present refl; left = λ e. next_spare_lem t.nspares change.Keep r.block s x x refl }

  stops : (r : Trial) → Stopped P l r
  stops r = record { dead = λ e. finish_shape (change.Kill _) _ _ _ refl; present = λ e. finish_shape change.Keep _ _ _ refl }

  verifies : (r : Trial) → Verified P l t r
  verifies r =
      record {
        moved = λ e. finish_shape (change.Move r.block _ _) _ _ _ refl;
        listed = λ e f. finish_shape (change.Remove r.block) _ _ _ refl;
        stays = λ e f. finish_shape change.Keep _ _ _ refl;
      }

  judges : (r : Trial) → Judged P l t r
  judges r = record { again = λ e. z.says _ _ _ refl refl; passes = λ e f. verifies r; fails = λ e f. misses r _ _ }

  pub reads_shape : (o : Outcome) (p : Part) → P (reads o l t p)
  unfolding reads
  reads_shape (outcome.Done r) p = finish_shape change.Keep _ _ p refl
  reads_shape (outcome.Again r) p = z.says _ _ p refl refl
  reads_shape (outcome.Settle r) p =
      settled_cases P l r p (record { below = λ e. finish_shape change.Keep _ _ p refl; latched = λ e f. finish_shape change.Keep _ _ p refl; tries = λ e f. z.tries change.Keep _ p refl })
  reads_shape (outcome.Lost r) p =
      lost_cases P l t r p
      (record { listed = λ e. finish_shape change.Keep _ _ p refl; entered = λ e f. finish_shape (change.Enter r.block) _ _ p refl; full = λ e f. finish_shape change.Keep _ _ p refl })
  reads_shape (outcome.Stop r) p = finish_shape change.Keep _ _ p refl

  pub follows_shape : (x : Access) (a : ℕ) (bs : List ℕ) (q : Bool) → (of_start x ≡ true → P (with_table l (run_of bs))) → P (follows x l t a bs q)
  unfolding follows store_answered
  follows_shape (access.Start k) a bs q n =
      start_cases P k l a bs (record { table = λ e. n refl; stops = λ e f. z.says _ _ _ refl refl; again = λ e f. z.says _ _ _ refl refl; gives_up = λ e f. z.says _ _ _ refl refl })
  follows_shape (access.Store k) a bs q n = z.reports _ change.Keep _ _ _ _ _ refl
  follows_shape (access.Read r) a bs q n = reads_shape (after_read r a) (kept_part r a)
  follows_shape (access.Write w) a bs q n =
      write_cases P l t w a
      (record {
        verifies = λ e f. z.says _ _ _ refl refl;
        done = λ e f. finish_shape change.Keep _ _ _ refl;
        stops = λ e f. finish_shape change.Keep _ _ _ refl;
        moves = λ e f. next_spare_lem t.nspares change.Keep w.block _ _ _ refl;
      })
  follows_shape (access.Verify w) a bs q n =
      verify_cases P l w a q (record { stops = λ e. finish_shape change.Keep _ _ _ refl; done = λ e f. finish_shape change.Keep _ _ _ refl; fails = λ e f. z.tries change.Keep _ _ refl })
  follows_shape (access.TrialWrite r) a bs q n = tried_cases P l t r a (record { done = λ e. z.says _ _ _ refl refl; stops = λ e. stops r; fails = λ e f. misses r _ _ })
  follows_shape (access.TrialRead r) a bs q n = checked_cases P l t r a q (record { stops = λ e. stops r; counts = λ e. judges (counted r a q) })

  pub acted_shape : (o : Order) → P (acted o l t)
  acted_shape o =
      acted_cases P o l t
      (record {
        overrun = λ e. record { block = λ f. finish_shape change.Keep _ _ _ refl; no_block = λ f. z.reports _ change.Keep _ _ _ _ _ refl };
        no_block = λ e f. z.reports _ change.Keep _ _ _ _ _ refl;
        buffer = λ e f. z.reports _ change.Keep _ _ _ _ _ refl;
        no_table = λ e f. z.reports _ change.Keep _ _ _ _ _ refl;
        table = λ e f. z.reports _ change.Keep _ _ _ _ _ refl;
        health = λ e f. z.reports _ change.Keep _ _ _ _ _ refl;
        read = λ b e. z.says _ _ _ refl refl;
        latched = λ b e f. finish_shape change.Keep _ _ _ refl;
        listed = λ b e f g. z.tries change.Keep _ _ refl;
        write = λ b e f g. z.says _ _ _ refl refl;
      })

-- A command's end changes the table as it is told, whether it stores or not.
pub finish_change : (l : State) (c : Change) (e : Ending) (s : Seen) (p : Part) → (finish l c e s p).change ≡ c
finish_change l c e s p = finish_cases (λ (x : Turn). x.change ≡ c) l c e s p (record { asks = λ q. refl; reports = λ q. refl })

-- Only the start loads a table.
pub no_load : (x : Access) (l : State) (t : Table) (a : ℕ) (bs : List ℕ) (q : Bool) → of_start x ≡ false → is_load (follows x l t a bs q).change ≡ false
no_load x l t a bs q n = follows_shape (λ (y : Turn). is_load y.change ≡ false) l (record { reports = λ m c e s v w p k. k; asks = λ m c e s p k. k; tries = λ c r p k. k; says = λ k a p n r. refl }) t x a bs q (λ e. clash e n)

-- The lower with 55 after offer 02 or 06: the command is acted on.
use mathlib.Core.Path.{◌≡◌, refl, ap, ◌∙◌}
use mathlib.Core.Bool.{Bool, true, false, not, ◌&&◌, ◌||◌}
use mathlib.Core.Logic.{inr}
use mathlib.Core.List.{List, []}
use Prim.Native.Nat.{ℕ}
use lib.Dec.{eqb}
use lib.ListN.{length}
use borrow.Author.Tests.{eqb-true, not-false}
use Rattle.geometry.specs.Geometry.{is_block}
use Rattle.geometry.specs.declared.Block.{Block}
use Rattle.logic.proofs.Bools.{clash, and_left}
use Rattle.table.specs.declared.Table.{Table}
use Rattle.table.specs.Tables.{spare_list, table_ok}
use Rattle.drive.specs.declared.State.{State}
use Rattle.drive.specs.declared.Marks.{Marks}
use Rattle.drive.specs.declared.Offer.{Offer}
use Rattle.drive.specs.declared.Turn.{Turn}
use Rattle.drive.specs.declared.Part.{Part}
use Rattle.drive.specs.declared.Part.TheVariants as part
use Rattle.drive.specs.declared.Phase.TheVariants as phase
use Rattle.drive.specs.declared.Answer.TheVariants as answer
use Rattle.drive.specs.declared.Ending.{Ending}
use Rattle.drive.specs.declared.Ending.TheVariants as ending
use Rattle.drive.specs.declared.Change.TheVariants as change
use Rattle.drive.specs.Words.{response, data_of, number_of, kind_of, block_of, is_read, order_of, fails}
use Rattle.drive.specs.Results.{part_left, status_left, out_of, ended, clean, report, ends, asks_store, wants_store, finish}
use Rattle.drive.specs.Handshake.{first_read, first_write, first_trial, acted}
use Rattle.drive.specs.Calls.{lower}
use Rattle.drive.specs.History.{Sectors, Entry, History, padded, next, heard, learns, acts, underway, touches, touches_first, reports, moves, good, has_written}
use Rattle.drive.specs.Views.{Bytes, Where, at}
use Rattle.demands.proofs.Parts.{Cmd}
use Rattle.records.proofs.Ladders.{finish_cases, OnBlock, acted_cases}
use Rattle.demands.proofs.Numbers.{on_block}
use Rattle.demands.proofs.Endings.{latched_reports}
use Rattle.demands.proofs.Statuses.{is_move, good_is, moves_is}
use Rattle.demands.proofs.Sim.{state_of, world_of, history_of, Blocky, place_of, Books, Quiet, Ground, Sound, resting, rereads, writing, trying, nothing, at_rest, at_work, at_store, books_apart, entry_of, Good, ev}
use Rattle.demands.proofs.Books.{books_weaken}
use Rattle.demands.proofs.Entries.{fits_silent, fits_failed, fits_first, entry_none, ground_failed, ground_none}

module _ (start σ : Sectors) (t : Table) (cs : Bytes) (mk : Marks) (pl : Block → Where) (ca : Block → List Bytes) (u c : Bytes) (n f rn : ℕ) (q : Offer) (h fd : Bytes) (to' wr : Bool) (lr : Where) (ln fn : Bool)
    (lc : length c ≡ 6) (so : Sound mk) (gr : Ground start mk.known mk.moved t σ pl ca ln fn) (tk : table_ok t ≡ true) (go : (eqb (response q) 0x02 || eqb (response q) 0x06) ≡ true) (cm : Cmd c h)
    (dw : is_read (kind_of c) ≡ false → data_of u ≡ padded fd) (sp : Bool) where
  abbrev H₀ : History
  H₀ = history_of pl ca (answer.Offer q) h fd false to' wr lr ln fn

  abbrev l₀ : State
  l₀ = state_of (phase.Offered q) mk c n f rn

  abbrev G₀ : Turn → Type 0
  G₀ x = Good start (world_of t cs l₀ u σ (answer.Offer q)) H₀ (ev (lower 0x55) sp) (out_of t cs [] u x)

  abbrev o₀ : Turn → Entry
  o₀ x = entry_of (ev (lower 0x55) sp) (out_of t cs [] u x)

  -- Returns the turn that reports an ending at once.
  abbrev told : Ending → Bool → Turn
  told e unstored = report l₀ (ended mk change.Keep e) change.Keep e clean unstored false part.Kept

  -- It may end at once, failed,
  end_failed : (e : Ending) (unstored : Bool) → fails e ≡ true → is_move e ≡ false → G₀ (told e unstored)
  unfolding part_left status_left next heard learns acts underway touches touches_first has_written
  end_failed e unstored ef em =
      let g : good (o₀ (told e unstored)) ≡ false = good_is (lower 0x55) answer.Finished e clean unstored false mk.fresh u ∙ rw ef in
      let m : moves (o₀ (told e unstored)) ≡ false = moves_is (lower 0x55) answer.Finished e clean unstored false mk.fresh u ∙ em in
      λ ok. (fits_failed _ _ g (rw go), rw go (at_rest lc so (ground_failed H₀ (o₀ (told e unstored)) start refl m g (inr (rw go)) gr) (resting refl refl)))

  -- or for a number of no block,
  end_no_block : is_block (number_of c) ≡ false → (e : Ending) (v : Part) → G₀ (ends l₀ e v)
  unfolding part_left status_left next heard learns acts underway touches touches_first reports
  end_no_block nb e v =
      let z : is_block (number_of h) ≡ false = rw cm.number nb in
      λ ok. (fits_silent _ _ (rw (go, z)) (rw go), rw go (at_rest lc so (ground_none H₀ (o₀ (ends l₀ e v)) start refl (rw (go, z)) gr) (resting refl refl)))

  -- or go on to the block's sector.
  module _ (kn : mk.known ≡ true) (i : Blocky (block_of (order_of c))) where
    kb : Books t σ pl ca Quiet mk.moved
    kb = gr.tabled kn

    block_h : is_block (number_of h) ≡ true
    block_h = rw cm.number i

    first_at : pl (block_of (order_of h)) ≡ at (place_of t (block_of (order_of c)))
    first_at = rw cm.number (kb.where_is (block_of (order_of c)) i)

    abbrev read₁ : Turn
    read₁ = first_read (order_of c) l₀ (spare_list t)

    go_read : is_read (kind_of c) ≡ true → G₀ read₁
    unfolding part_left status_left next heard learns acts underway touches reports
    go_read op =
        λ ok. (
          fits_first _ _ (rw go) block_h first_at,
          rw go (at_work lc kn so (gr.learnt kn) (gr.found kn) i cm.number (ap is_read cm.kind ∙ op) (rereads refl refl refl refl (λ g. clash g refl) (entry_none H₀ (o₀ read₁) start refl (rw go) kb))),
        )

    abbrev write₁ : Turn
    write₁ = first_write (order_of c) l₀ (spare_list t)

    go_write : is_read (kind_of c) ≡ false → G₀ write₁
    unfolding part_left status_left next heard learns acts underway touches reports
    go_write op =
        λ ok. (
          fits_first _ _ (rw go) block_h first_at,
          rw go (at_work lc kn so (gr.learnt kn) (gr.found kn) i cm.number (ap is_read cm.kind ∙ op) (writing refl refl refl refl refl (dw op) (entry_none H₀ (o₀ write₁) start refl (rw go) kb))),
        )

    abbrev try₁ : Turn
    try₁ = first_trial (order_of c) l₀ (spare_list t)

    go_try : is_read (kind_of c) ≡ false → G₀ try₁
    unfolding part_left status_left next heard learns acts underway touches reports
    go_try op =
        λ ok. (
          fits_first _ _ (rw go) block_h first_at,
          rw go
              (at_work lc kn so (gr.learnt kn) (gr.found kn) i cm.number (ap is_read cm.kind ∙ op)
              (trying refl refl refl (record { present = λ e. refl; aside = λ e. clash e refl }) (record { as_read = λ e. clash e refl; as_write = λ e. dw op })
              (books_weaken (block_of (order_of c)) (data_of u) (entry_none H₀ (o₀ try₁) start refl (rw go) kb)))),
        )

    -- Too much data: the table may be stored first.
    abbrev store₁ : Turn
    store₁ = asks_store l₀ (ended mk change.Keep ending.Overrun) change.Keep ending.Overrun clean part.Kept

    go_store : G₀ store₁
    unfolding part_left status_left next heard learns acts underway touches touches_first reports
    go_store =
        λ ok. (
          fits_silent _ _ (rw go) (rw go),
          rw go
              (at_store lc kn so (gr.learnt kn) (gr.found kn) i cm.number refl tk (books_apart (entry_none H₀ (o₀ store₁) start refl (rw go) kb))
              (record { owes = nothing (inr refl) (entry_none H₀ (o₀ store₁) start refl (rw go) kb); as_read = λ e. clash refl e; as_write = λ e. clash refl e; sole = λ e. clash refl e })),
        )

  end_overrun : is_block (number_of c) ≡ true → G₀ (finish l₀ change.Keep ending.Overrun clean part.Kept)
  end_overrun i =
      finish_cases G₀ l₀ change.Keep ending.Overrun clean part.Kept
      (record {
        asks = λ e. go_store (and_left mk.known mk.changed (and_left (mk.known && mk.changed) (not mk.latch) e)) i;
        reports = λ e. end_failed ending.Overrun (wants_store (ended mk change.Keep ending.Overrun)) refl refl;
      })

  -- Under the latch nothing is stored.
  end_latched : G₀ (finish l₀ change.Keep ending.Latched clean part.Kept)
  end_latched = latched_reports G₀ l₀ change.Keep clean part.Kept (λ unstored. end_failed ending.Latched unstored refl refl)

  not_block : (m : ℕ) → is_block m ≡ false → eqb (number_of c) m ≡ true → is_block (number_of c) ≡ false
  not_block m e p = rw (eqb-true (number_of c) m p) e

  known : OnBlock (order_of c) l₀ → mk.known ≡ true
  known b = not-false mk.known b.known

  pub acts_well : G₀ (acted (order_of c) l₀ t)
  acts_well =
      acted_cases G₀ (order_of c) l₀ t
      (record {
        overrun = λ e. record { block = λ f. end_overrun f; no_block = λ f. end_failed ending.Overrun false refl refl };
        no_block = λ e f. end_failed ending.NoNumber false refl refl;
        buffer = λ e f. end_no_block (not_block 0xFFFFFE refl f) ending.Good part.Kept;
        no_table = λ e f. end_failed (ending.NoTable (not (is_read (kind_of c)))) false refl refl;
        table = λ e f. end_no_block (not_block 0xFFFFFF refl f) ending.Good _;
        health = λ e f. end_no_block (not_block 0xFFFFFD refl f) ending.Good _;
        read = λ b e. go_read (known b) (on_block b) e;
        latched = λ b e f. end_latched;
        listed = λ b e f g. go_try (known b) (on_block b) e;
        write = λ b e f g. go_write (known b) (on_block b) e;
      })

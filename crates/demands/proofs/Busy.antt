-- A command under way, what it asked for, and the surface's answer to it: how it ends, and how it goes on.
use Rattle.std.specs.Prelude.{None}
use mathlib.Core.Path.{◌≡◌, refl, sym, subst, ap, ◌∙◌}
use mathlib.Core.Bool.{Bool, true, false, cond, not, ◌&&◌, ◌||◌}
use mathlib.Core.Logic.{◌⊎◌, inl, inr}
use mathlib.Core.List.{List}
use Prim.Native.Nat.{ℕ, ◌+◌, ◌<◌}
use lib.Dec.{eqb}
use lib.ListN.{length}
use borrow.Author.Tests.{ltb-true, lt-ltb}
use Rattle.geometry.specs.Geometry.{is_block, spare_of}
use Rattle.geometry.specs.declared.Block.{Block}
use Rattle.logic.proofs.Bools.{clash, and_true}
use Rattle.table.specs.declared.Table.{Table}
use Rattle.table.specs.Tables.{table_ok, killed_next, listed, with_bad, without_bad}
use Rattle.table.proofs.Lists.{listed_shaped, entered_spares, entered_shaped, removed_spares, removed_shaped}
use Rattle.table.proofs.Keeps.{listed_ok, killed_ok, entered_ok, removed_ok}
use Rattle.image.specs.FormB.{image_b}
use Rattle.drive.specs.declared.Cause.{Cause}
use Rattle.drive.specs.declared.Cause.TheVariants as cause
use Rattle.drive.specs.declared.State.{State}
use Rattle.drive.specs.declared.Marks.{Marks}
use Rattle.drive.specs.declared.Seen.{Seen}
use Rattle.drive.specs.declared.Retry.{Retry}
use Rattle.drive.specs.declared.Target.{Target}
use Rattle.drive.specs.declared.Trial.{Trial}
use Rattle.drive.specs.declared.Access.TheVariants as access
use Rattle.drive.specs.declared.Part.{Part}
use Rattle.drive.specs.declared.Part.TheVariants as part
use Rattle.drive.specs.declared.Turn.{Turn}
use Rattle.drive.specs.declared.Phase.{Phase}
use Rattle.drive.specs.declared.Phase.TheVariants as phase
use Rattle.drive.specs.declared.Answer.{Answer}
use Rattle.drive.specs.declared.Answer.TheVariants as answer
use Rattle.drive.specs.declared.Ending.{Ending}
use Rattle.drive.specs.declared.Ending.TheVariants as ending
use Rattle.drive.specs.declared.Change.{Change}
use Rattle.drive.specs.declared.Change.TheVariants as change
use Rattle.drive.specs.declared.Outcome.{Outcome}
use Rattle.drive.specs.Words.{data_of, number_of, kind_of, block_of, is_read, order_of, fails}
use Rattle.drive.specs.Results.{part_left, status_left, changed, out_of, in_phase, altered, ended, report, asks_store, stores, wants_store, finish, on_present}
use Rattle.drive.specs.Sparing.{begin, on_spare}
use Rattle.drive.specs.Access.{reads}
use Rattle.drive.specs.Calls.{surface}
use Rattle.drive.specs.History.{held, Sectors, Entry, History, In, put, padded, is_table_sector, next, heard, learns, acts, underway, touches, touches_first, reports, has_written, bytes_of, Apart}
use Rattle.drive.specs.Surface.{target, sent, landed, Brings}
use Rattle.drive.specs.Run.{Event}
use Rattle.drive.specs.Views.{Bytes, Where, at, of_answer}
use Rattle.records.proofs.Ladders.{finish_cases, NextSpare, Missed, Stopped, Verified, Settled, settled_cases, Lost, lost_cases, GoesOnReading}
use Rattle.demands.proofs.Statuses.{is_move, good_is, moves_is, data_ended}
use Rattle.demands.proofs.Sim.{state_of, world_of, history_of, Blocky, place_of, Books, Quiet, Own, Ground, Sound, resting, Bound, Spot, Sole, rereads, verifying, trying, checking, placed, Owes, nothing, bytes as own_bytes, Closing, at_rest, at_work, at_store, at_inj, entry_of, Good, ev}
use Rattle.demands.proofs.Books.{same_block, held_inj, put_same, books_table, books_weaken, books_in, books_dead, books_moved}
use Rattle.demands.proofs.Entries.{fits_silent, entry_none, candidates_kept, places_kept, no_learn, reported, reported_fits}

bound_as : {ca ca' : Block → List Bytes} {b : Block} {rd : Bool} {u mine : Bytes} → ca' ≡ ca → Bound ca b rd u mine → Bound ca' b rd u mine
bound_as {b = b} {u = u} e k = record { as_read = λ o. rw e (k.as_read o); as_write = k.as_write }

-- A table that is known with its books is all that is needed between commands.
grounded : {start : Sectors} {known mv : Bool} {t : Table} {σ : Sectors} {pl : Block → Where} {ca : Block → List Bytes} {ln fn : Bool} → known ≡ true → ln ≡ true → fn ≡ true → Books t σ pl ca Quiet mv
    → Ground start known mv t σ pl ca ln fn
grounded k el ef b = record { tabled = λ q. b; tableless = λ q. clash k q; learnt = λ q. el; found = λ q. ef }

or_yes : (a b : Bool) → b ≡ true → (a || b) ≡ true
or_yes true b e = refl
or_yes false b e = e

-- A command's end keeps the marks sound.
sound_ended : (m : Marks) (ch : Change) (e : Ending) → Sound m → Sound (ended m ch e)
sound_ended m change.Keep e so = so
sound_ended m change.Load e so = so
sound_ended m (change.Enter b) e so = λ q. refl
sound_ended m (change.Remove b) e so = λ q. refl
sound_ended m (change.Move b x y) e so = λ q. refl
sound_ended m (change.Kill x) e so = λ q. refl

-- A command that neither stores nor wants a store leaves no place unstored.
all_placed : (m : Marks) → m.known ≡ true → Sound m → stores m ≡ false → wants_store m ≡ false → m.moved ≡ false
all_placed m km so ns nw = go m.moved refl m.latch refl
  where
    go : (q : Bool) → m.moved ≡ q → (z : Bool) → m.latch ≡ z → m.moved ≡ false
    go true q true z = clash (and_true m.latch m.moved z q) nw
    go true q false z = clash (and_true (m.known && m.changed) (not m.latch) (and_true m.known m.changed km (so q)) (rw z)) ns
    go false q z' z = q

closing_as : {t : Table} {σ : Sectors} {pl pl' : Block → Where} {ca ca' : Block → List Bytes} {mv : Bool} {b : Block} {rd : Bool} {u mine : Bytes} {e : Ending} {wr : Bool} {lr : Where} → pl' ≡ pl → ca' ≡ ca
    → Closing t σ pl ca mv b rd u mine e wr lr → Closing t σ pl' ca' mv b rd u mine e wr lr
closing_as {t} {σ} {pl} {pl'} {ca} {ca'} {mv} {b} {rd} {u} {mine} {e} {wr} {lr} p q k =
    subst (λ (f : Block → Where). Closing t σ f ca' mv b rd u mine e wr lr) (sym p) (subst (λ (g : Block → List Bytes). Closing t σ pl g mv b rd u mine e wr lr) (sym q) k)

-- A command that may have written owes its bytes, unless it is a read.
pub owes_own : {t : Table} {σ : Sectors} {pl : Block → Where} {ca : Block → List Bytes} {mv : Bool} {b : Block} {rd : Bool} {u mine : Bytes} {wr : Bool} → wr ≡ true → Bound ca b rd u mine
    → Books t σ pl ca (Own b (data_of u)) mv → Owes t σ pl ca mv b rd u mine wr
owes_own {t} {σ} {pl} {ca} {mv} {b} {rd} {u} {mine} {wr} wt bd k = go rd refl
  where
    go : (q : Bool) → rd ≡ q → Owes t σ pl ca mv b rd u mine wr
    go true q = nothing (inl q) (books_in b (data_of u) (bd.as_read q) k)
    go false q = own_bytes wt q (bd.as_write q) k

-- A COMMAND AT ITS END that may have written, and a read that has not.
module _ {t : Table} {σ : Sectors} {pl : Block → Where} {ca : Block → List Bytes} {mv : Bool} {b : Block} {rd : Bool} {u mine : Bytes} {e : Ending} {wr : Bool} {lr : Where} where
  pub closing_own : wr ≡ true → Bound ca b rd u mine → Books t σ (placed (is_move e) b lr pl) ca (Own b (data_of u)) mv → (fails e ≡ false → Sole σ (place_of t b) u) → Closing t σ pl ca mv b rd u mine e wr lr
  closing_own wt bd k sole = record { owes = owes_own wt bd k; as_read = λ f. bd.as_read; as_write = λ f. bd.as_write; sole = sole }

  closing_read : rd ≡ true → Books t σ (placed (is_move e) b lr pl) ca Quiet mv → (fails e ≡ false → In (data_of u) (ca b)) → (fails e ≡ false → Sole σ (place_of t b) u) → Closing t σ pl ca mv b rd u mine e wr lr
  closing_read op k mem sole = record { owes = nothing (inl op) k; as_read = λ f q. mem f; as_write = λ f q. clash op q; sole = sole }

-- A spare that dies is one more listed.
pub killed_count : (t : Table) → t.nspares < 32 → (killed_next t).nspares ≡ t.nspares + 1
unfolding killed_next
killed_count t h = rw (lt-ltb t.nspares 32 h)

-- A COMMAND UNDER WAY AND THE ANSWER TO WHAT IT ASKED FOR: holds record, buffer, sectors, history, the command's block, what the
-- surface answers; and says what is true of them.
pub record Job (asked : Answer) : Type 0 where
  pub start : Sectors
  pub sectors : Sectors
  pub table : Table
  pub marks : Marks
  pub command : Bytes
  pub count : ℕ
  pub fed : ℕ
  pub run : ℕ
  pub causes : Bytes
  pub phase : Phase
  pub buffer : Bytes
  pub place : Block → Where
  pub candidates : Block → List Bytes
  pub heard : Bytes  -- the command's bytes as the history has them
  pub given : Bytes  -- the data bytes as the history has them
  pub touched : Bool
  pub wrote : Bool
  pub last_read : Where
  pub learned : Bool
  pub found : Bool
  pub block : Block
  pub reads : Bool
  pub number : ℕ
  pub bytes : Bytes
  pub spoils : Bool
  pub full : length command ≡ 6
  pub known : marks.known ≡ true
  pub sound : Sound marks
  pub learnt : learned ≡ true
  pub tabled : found ≡ true
  pub apart : Apart place
  pub blocky : Blocky block
  pub numbered : number_of heard ≡ block.0
  pub kind : is_read (kind_of heard) ≡ reads
  pub elsewhere : is_table_sector (of_answer asked).read ≡ false
  pub valid : table_ok table ≡ true
  pub sized : length buffer ≡ 536

module _ {A : Answer} (j : Job A) where
  open j use {start, sectors as σ, table as t, marks as mk, command as c, count as n, fed as f, run as rn, causes as cs, phase as p, buffer as u, place as pl, candidates as ca, heard as h, given as fd, touched as to, wrote as wr, last_read as lr, learned as ln, found as fn, block as b, reads as rd, number as a, bytes as bs, spoils as sp, full as lc, known as kn, sound as so, learnt as el, tabled as ef, apart as pa, blocky as i, numbered as num, kind as isr, elsewhere as nl, valid as tk}

  abbrev pub H₂ : History
  H₂ = history_of pl ca A h fd true to wr lr ln fn

  abbrev pub l₂ : State
  l₂ = state_of p mk c n f rn

  abbrev pub e₂ : Event
  e₂ = ev (surface a bs) sp

  abbrev pub G₂ : Turn → Type 0
  G₂ x = Good start (world_of t cs l₂ u σ A) H₂ e₂ (out_of t cs bs u x)

  abbrev pub o₂ : Turn → Entry
  o₂ x = entry_of e₂ (out_of t cs bs u x)

  -- Returns the buffer before its status is written, and its data part.
  abbrev pub B : Part → Bytes
  B v = part_left v t bs u

  abbrev pub D : Part → Bytes
  D v = data_of (B v)

  -- Returns the sectors after the call; says that the surface's rule holds for it.
  abbrev pub σ₂ : Sectors
  σ₂ = landed (target A) a sp (sent A u (image_b rn t cs)) σ

  abbrev pub R₂ : Type 0
  R₂ = Brings (of_answer A).read (eqb a 0) bs σ

  block_h : is_block (number_of h) ≡ true
  block_h = rw num i

  block_is : block_of (order_of h) ≡ b
  block_is = same_block (block_of (order_of h)) b num

  bytes_are : (o : Entry) (x : Bytes) → data_of o.buffer ≡ x → bytes_of H₂ o ≡ cond rd x (padded fd)
  unfolding bytes_of
  bytes_are o x e = rw (isr, e)

  -- Asks for more, with the data part as v says.
  abbrev pub asks : Phase → Answer → Part → Turn
  asks q x v = record { state = in_phase l₂ q; answer = x; change = change.Keep; leaves = record { status = None; part = v } }

  -- IT REPORTS: good only with the places stored.
  pub reports_end : (m : Marks) (ch : Change) (e : Ending) (s : Seen) (unstored unsettled : Bool) (v : Part) → m.known ≡ true → Sound m → (unstored ≡ false → m.moved ≡ false)
      → (R₂ → Closing (changed ch t bs) σ₂ pl ca m.moved b rd (B v) (padded fd) e wr lr) → G₂ (report l₂ m ch e s unstored unsettled v)
  unfolding status_left next heard acts underway touches touches_first reports has_written
  reports_end m ch e s unstored unsettled v km sm st cl =
      let o : Entry = o₂ (report l₂ m ch e s unstored unsettled v) in
      let g = good_is (surface a bs) answer.Finished e s unstored unsettled m.fresh (B v) in
      let mo = moves_is (surface a bs) answer.Finished e s unstored unsettled m.fresh (B v) in
      let d = data_ended (surface a bs) answer.Finished e s unstored unsettled m.fresh (B v) in
      let no = no_learn H₂ o nl in
      λ ok. (
        reported_fits H₂ o start b rd (B v) e unstored no block_h mo g block_is i isr refl d (bytes_are o (D v) d) st (cl ok) refl ef,
        at_rest lc sm (grounded km (or_yes (learns H₂ o) ln el) (or_yes (learns H₂ o) fn ef) (reported H₂ o start b rd (B v) e unstored no block_h mo g block_is i isr refl d (bytes_are o (D v) d) st (cl ok))) (resting refl refl),
      )

  -- IT STORES FIRST.
  asks_store_lem : (m : Marks) (ch : Change) (e : Ending) (s : Seen) (v : Part) → m.known ≡ true → Sound m → (R₂ → table_ok (changed ch t bs) ≡ true)
      → (R₂ → Closing (changed ch t bs) σ₂ pl ca m.moved b rd (B v) (padded fd) e wr lr) → G₂ (asks_store l₂ m ch e s v)
  unfolding status_left next heard acts underway touches touches_first reports
  asks_store_lem m ch e s v km sm tok cl =
      let o : Entry = o₂ (asks_store l₂ m ch e s v) in
      let no = no_learn H₂ o nl in
      λ ok. (
        fits_silent _ _ refl refl,
        at_store lc km sm (or_yes (learns H₂ o) ln el) (or_yes (learns H₂ o) fn ef) i num isr (tok ok) (subst Apart (sym (places_kept H₂ o no refl)) pa)
            (closing_as (places_kept H₂ o no refl) (candidates_kept H₂ o start no refl) (cl ok)),
      )

  -- IT ENDS.
  pub closes : (ch : Change) (e : Ending) (s : Seen) (v : Part) → (R₂ → table_ok (changed ch t bs) ≡ true)
      → (R₂ → Closing (changed ch t bs) σ₂ pl ca (ended mk ch e).moved b rd (B v) (padded fd) e wr lr) → G₂ (finish l₂ ch e s v)
  closes ch e s v tok cl =
      let m = ended mk ch e in
      let sm = sound_ended mk ch e so in
      finish_cases G₂ l₂ ch e s v
      (record {
        asks = λ q. asks_store_lem m ch e s v kn sm tok cl;
        reports = λ q. reports_end m ch e s (wants_store m) false v kn sm (λ z. all_placed m kn sm q z) cl;
      })

  -- A read that wrote nothing may fail,
  ends_read_failed : (ch : Change) (e : Ending) (s : Seen) (v : Part) → fails e ≡ true → is_move e ≡ false → table_ok (changed ch t bs) ≡ true → rd ≡ true → Books (changed ch t bs) σ₂ pl ca Quiet (ended mk ch e).moved
      → G₂ (finish l₂ ch e s v)
  ends_read_failed ch e s v ef em tok op k = closes ch e s v (λ ok. tok) (λ ok. closing_read op (rw em k) (λ x. clash ef x) (λ x. clash ef x))

  -- and so may a command that may have written.
  pub ends_failed : wr ≡ true → (ch : Change) (e : Ending) (s : Seen) (v : Part) → fails e ≡ true → is_move e ≡ false → (R₂ → table_ok (changed ch t bs) ≡ true) → Bound ca b rd (B v) (padded fd)
      → (R₂ → Books (changed ch t bs) σ₂ pl ca (Own b (D v)) (ended mk ch e).moved) → G₂ (finish l₂ ch e s v)
  ends_failed wt ch e s v ef em tok bd k = closes ch e s v tok (λ ok. closing_own wt bd (rw em (k ok)) (λ x. clash ef x))

  module _ (et : to ≡ true) where
    -- IT GOES ON, and the invariant holds.
    goes_reading : (r : Retry) (v : Part) → r.block ≡ b → r.sector ≡ place_of t b → rd ≡ true → (R₂ → r.good ≡ true → σ₂ r.sector ≡ held (D v)) → Books t σ₂ pl ca Quiet mk.moved
        → G₂ (asks (phase.Awaiting (access.Read r)) (answer.Read r.sector) v)
    unfolding status_left next heard acts underway touches touches_first reports
    goes_reading r v eb es op g k =
        let o : Entry = o₂ (asks (phase.Awaiting (access.Read r)) (answer.Read r.sector) v) in
        λ ok. (fits_silent _ _ refl (rw et), at_work lc kn so (or_yes (learns H₂ o) ln el) (or_yes (learns H₂ o) fn ef) i num isr (rereads eb refl es op (g ok) (entry_none H₂ o start (no_learn H₂ o nl) refl k)))

    pub goes_trying : (ch : Change) (r : Trial) (v : Part) → r.block ≡ b → Spot (changed ch t bs) b r → (R₂ → Bound ca b rd (B v) (padded fd))
        → (R₂ → Books (changed ch t bs) σ₂ pl ca (Own b (D v)) (altered mk ch).moved) → G₂ (begin l₂ ch r v)
    unfolding status_left next heard acts underway touches touches_first reports
    goes_trying ch r v eb st bd k =
        let o : Entry = o₂ (begin l₂ ch r v) in
        let no = no_learn H₂ o nl in
        λ ok. (
          fits_silent _ _ refl (rw et),
          at_work lc kn (sound_ended mk ch ending.Good so) (or_yes (learns H₂ o) ln el) (or_yes (learns H₂ o) fn ef) i num isr
              (trying refl eb refl st (bound_as (candidates_kept H₂ o start no refl) (bd ok)) (entry_none H₂ o start no refl (k ok))),
        )

    pub goes_verifying : wr ≡ true → (w : Target) (v : Part) → w.block ≡ b → w.sector ≡ place_of t b → rd ≡ false → D v ≡ padded fd → Sole σ₂ w.sector (B v) → Books t σ₂ pl ca (Own b (D v)) mk.moved
        → G₂ (asks (phase.Awaiting (access.Verify w)) (answer.Read w.sector) v)
    unfolding status_left next heard acts underway touches touches_first reports
    goes_verifying wt w v eb es op ed only k =
        let o : Entry = o₂ (asks (phase.Awaiting (access.Verify w)) (answer.Read w.sector) v) in
        λ ok. (fits_silent _ _ refl (rw et), at_work lc kn so (or_yes (learns H₂ o) ln el) (or_yes (learns H₂ o) fn ef) i num isr (verifying wt refl eb refl es op ed only (entry_none H₂ o start (no_learn H₂ o nl) refl k)))

    pub goes_checking : wr ≡ true → (r : Trial) (v : Part) → r.block ≡ b → Spot t b r → Bound ca b rd (B v) (padded fd) → Sole σ₂ r.sector (B v) → Books t σ₂ pl ca (Own b (D v)) mk.moved
        → G₂ (asks (phase.Awaiting (access.TrialRead r)) (answer.Read r.sector) v)
    unfolding status_left next heard acts underway touches touches_first reports
    goes_checking wt r v eb st bd only k =
        let o : Entry = o₂ (asks (phase.Awaiting (access.TrialRead r)) (answer.Read r.sector) v) in
        λ ok. (
          fits_silent _ _ refl (rw et),
          at_work lc kn so (or_yes (learns H₂ o) ln el) (or_yes (learns H₂ o) fn ef) i num isr (checking wt refl eb refl st (bound_as (candidates_kept H₂ o start (no_learn H₂ o nl) refl) bd) only (entry_none H₂ o start (no_learn H₂ o nl) refl k)),
        )

    -- SPARING: a sector that failed gives way to the next spare,
    pub next_spare_lem : wr ≡ true → (ch : Change) (m : ℕ) (x : Block) (s : Seen) {y z : Cause} → x ≡ b → (R₂ → table_ok (changed ch t bs) ≡ true) → Bound ca b rd (B part.Kept) (padded fd) → (changed ch t bs).nspares ≡ m
        → (R₂ → Books (changed ch t bs) σ₂ pl ca (Own b (D part.Kept)) (altered mk ch).moved) → NextSpare G₂ m l₂ ch x s y z
    next_spare_lem wt ch m x s {y} {z} eb tok bd em k =
        record {
          spare = λ e. goes_trying ch (on_spare m x s y z) part.Kept eb (record { present = λ z. clash (sym z) refl; aside = λ z. (rw em (ltb-true m 32 e), ap spare_of (sym em)) }) (λ ok. bd) k;
          no_spare = λ e. ends_failed wt ch ending.NoSpare s part.Kept refl refl tok bd k;
        }

    -- and a trial ends.
    module _ (wt : wr ≡ true) (r : Trial) (eb : r.block ≡ b) (st : Spot t b r) (bd : Bound ca b rd (B part.Kept) (padded fd)) (k : R₂ → Books t σ₂ pl ca (Own b (D part.Kept)) mk.moved) where
      dead_ok : R₂ → table_ok (killed_next t) ≡ true
      dead_ok ok = killed_ok t (k ok).shaped tk

      pub misses : (s : Seen) {x : Cause} → Missed G₂ l₂ t r s x
      misses s {x} =
          record {
            dead = λ z. next_spare_lem wt (change.Kill x) (t.nspares + 1) r.block s eb dead_ok bd (killed_count t (st.aside z).0) (λ ok. books_dead (st.aside z).0 (k ok));
            left = λ z. next_spare_lem wt change.Keep t.nspares r.block s eb (λ ok. tk) bd refl k;
          }

      -- At answer 3 a spare under trial becomes dead.
      pub stops : Stopped G₂ l₂ r
      stops =
          record {
            dead = λ z. ends_failed wt (change.Kill cause.NoSettle) ending.Latched r.seen part.Kept refl refl dead_ok bd (λ ok. books_dead (st.aside z).0 (k ok));
            present = λ z. ends_failed wt change.Keep ending.Latched r.seen part.Kept refl refl (λ ok. tk) bd k;
          }

      -- If it passed, the sector holds what was written, or is unreadable.
      pub passes : lr ≡ at r.sector → Sole σ₂ r.sector (B part.Kept) → Verified G₂ l₂ t r
      passes elr only =
          record {
            moved = λ z. closes (change.Move r.block r.before r.present) ending.Moved r.seen part.Kept moved_ok (λ ok. closing_own wt bd (there z ok) (λ x. there_sole z ok));
            listed = λ z y. closes (change.Remove r.block) ending.Good r.seen part.Kept (λ ok. removed_ok t r.block (k ok).shaped tk)
                (λ ok. closing_own wt bd (books_table (without_bad t r.block) (removed_shaped t r.block (k ok).shaped) (removed_spares t r.block) (k ok)) (λ x w e. sole z w (rw (removed_spares t r.block) at e)));
            stays = λ z y. closes change.Keep ending.Good r.seen part.Kept (λ ok. tk) (λ ok. closing_own wt bd (k ok) (λ x. sole z));
          }
        where
          sole : r.spare ≡ false → Sole σ₂ (place_of t b) (B part.Kept)
          sole z y e = only y (rw (st.present z) e)

          moved_ok : R₂ → table_ok (without_bad (listed t r.block) r.block) ≡ true
          moved_ok ok = rw eb (removed_ok (listed t b) b (listed_shaped t b (k ok).shaped) (listed_ok t b (k ok).shaped i tk))

          moved_books : r.spare ≡ true → R₂ → Books (listed t b) σ₂ (put pl b (at r.sector)) ca (Own b (D part.Kept)) true
          moved_books z ok =
              let es = (st.aside z).1 in
              rw es (books_moved b (D part.Kept) i tk (st.aside z).0 (λ y e. only y (rw es e)) (k ok))

          there : r.spare ≡ true → R₂ → Books (without_bad (listed t r.block) r.block) σ₂ (put pl b lr) ca (Own b (D part.Kept)) true
          there z ok =
              let m = moved_books z ok in
              rw (eb, elr) (books_table (without_bad (listed t b) b) (removed_shaped (listed t b) b m.shaped) (removed_spares (listed t b) b) m)

          there_sole : r.spare ≡ true → R₂ → Sole σ₂ (place_of (without_bad (listed t r.block) r.block) b) (B part.Kept)
          there_sole z ok y e =
              let w : lr ≡ at (place_of (without_bad (listed t r.block) r.block) b) = sym (put_same pl b lr) ∙ (there z ok).where_is b i in
              only y (ap σ₂ (at_inj (sym elr ∙ w)) ∙ e)

    -- RETRIES: what a read's answer leads to
    module _ (op : rd ≡ true) (k : Books t σ₂ pl ca Quiet mk.moved) (v : Part) where
      abbrev Held : Type 0
      Held = σ₂ (place_of t b) ≡ held (D v)

      quiet : In (D v) (ca b) ⊎ ⊥ → In (D v) (ca b)
      quiet (inl m) = m
      quiet (inr m) = absurd m

      member : Held → In (D v) (ca b)
      member e = quiet (k.kept b (D v) i e)

      pub reads_fine : (s : Seen) → (R₂ → Held) → G₂ (finish l₂ change.Keep ending.Good s v)
      reads_fine s g = closes change.Keep ending.Good s v (λ ok. tk) (λ ok. closing_read op k (λ x. member (g ok)) (λ x y e. held_inj (sym e ∙ g ok)))

      settles : (r : Retry) → r.block ≡ b → r.sector ≡ place_of t b → (R₂ → Held) → Settled G₂ l₂ r v
      settles r eb es g =
          record {
            below = λ z. reads_fine r.seen g;
            latched = λ z y. ends_read_failed change.Keep ending.Latched r.seen v refl refl tk op k;
            tries = λ z y. goes_trying change.Keep (on_present r.block r.sector r.seen) v eb (record { present = λ x. es; aside = λ x. clash x refl })
                (λ ok. record { as_read = λ x. member (g ok); as_write = λ x. clash op x }) (λ ok. books_weaken b (D v) k);
          }

      loses : (r : Retry) → r.block ≡ b → Lost G₂ l₂ t r v
      loses r eb =
          record {
            listed = λ e. ends_read_failed change.Keep ending.Failed r.seen v refl refl tk op k;
            entered = λ e z. ends_read_failed (change.Enter r.block) ending.Failed r.seen v refl refl (entered_ok t r.block k.shaped (rw eb i) e tk) op
                (books_table (with_bad t r.block) (entered_shaped t r.block k.shaped) (entered_spares t r.block) k);
            full = λ e z. ends_read_failed change.Keep ending.BadFull r.seen v refl refl tk op k;
          }

      -- Says that what an outcome of the read leads to keeps the invariant.
      abbrev pub Gr : Outcome → Type 0
      Gr x = G₂ (reads x l₂ t v)

      pub goes_on : (r : Retry) → r.block ≡ b → r.sector ≡ place_of t b → (R₂ → r.good ≡ true → Held) → GoesOnReading Gr r
      unfolding reads
      goes_on r eb es g =
          record {
            reread = λ e. again;
            settles = λ e z. settled_cases G₂ l₂ r v (settles r eb es (λ ok. g ok z));
            further = λ e z y. again;
            loses = λ e z y. lost_cases G₂ l₂ t r v (loses r eb);
          }
        where
          again : G₂ (asks (phase.Awaiting (access.Read r)) (answer.Read r.sector) v)
          again = goes_reading r v eb es op (λ ok q. rw es (g ok q)) k

      pub reads_stopped : (s : Seen) → G₂ (finish l₂ change.Keep ending.Latched s v)
      reads_stopped s = ends_read_failed change.Keep ending.Latched s v refl refl tk op k

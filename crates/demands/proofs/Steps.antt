-- Every call while a command is under way, while its store is awaited, and at the start.
use mathlib.Core.Path.{◌≡◌, refl, sym, ap, ◌∙◌}
use mathlib.Core.Bool.{Bool, true, false, cond, not, ◌&&◌}
use mathlib.Core.Logic.{inl}
use mathlib.Core.List.{List}
use Prim.Native.Nat.{ℕ, ◌≤◌}
use native.Mathlib.Omega.{arith}
use lib.Dec.{eqb, leb}
use lib.ListN.{length, length-take}
use lib.Seq.{take_all}
use borrow.Author.Tests.{eqb-true, ne_eqb, not-false}
use Rattle.geometry.specs.Geometry.{table_sector}
use Rattle.geometry.specs.declared.Block.{Block}
use Rattle.geometry.specs.declared.Sector.{Sector}
use Rattle.geometry.proofs.Laws.{spare_not_table}
use Rattle.logic.proofs.Bools.{branch, clash, and_left, and_right, and_true, and_false}
use Rattle.table.specs.declared.Table.{Table}
use Rattle.table.specs.Tables.{spare_list, table_ok}
use Rattle.table.proofs.Placing.{not_table}
use Rattle.image.specs.Images.{well_formed, table_of}
use Rattle.image.specs.FormB.{image_b}
use Rattle.drive.specs.declared.Marks.{Marks}
use Rattle.drive.specs.declared.Retry.{Retry}
use Rattle.drive.specs.declared.Target.{Target}
use Rattle.drive.specs.declared.Trial.{Trial}
use Rattle.drive.specs.declared.Close.{Close}
use Rattle.drive.specs.declared.Access.{Access}
use Rattle.drive.specs.declared.Access.TheVariants as access
use Rattle.drive.specs.declared.Part.{Part}
use Rattle.drive.specs.declared.Part.TheVariants as part
use Rattle.drive.specs.declared.Turn.{Turn}
use Rattle.drive.specs.declared.Phase.TheVariants as phase
use Rattle.drive.specs.declared.Answer.{Answer}
use Rattle.drive.specs.declared.Answer.TheVariants as answer
use Rattle.drive.specs.declared.Refusal.TheVariants as refusal
use Rattle.drive.specs.declared.Ending.TheVariants as ending
use Rattle.drive.specs.declared.Change.TheVariants as change
use Rattle.drive.specs.Words.{data_of, number_of, kind_of, is_read}
use Rattle.drive.specs.Records.{record_ok}
use Rattle.drive.specs.Results.{part_left, status_left, out_of, guarded, clean, on_present}
use Rattle.drive.specs.Retries.{met, passed, failed, after_read}
use Rattle.drive.specs.Sparing.{tried, counted, checked}
use Rattle.drive.specs.Access.{kept_part, follows, start_answered, is_undone, store_marks, store_answered, reads, write_answered, verify_answered}
use Rattle.drive.specs.Calls.{Call, raise, lower, feed, surface, reset, raise_of, lower_of, feed_of, surface_of, reset_of, step_of}
use Rattle.drive.specs.History.{Content, held, unreadable, Sectors, History, In, contents, padded, is_table_sector, next, heard, learns, acts, underway, touches, touches_first, reports, place_next, candidates_next, Apart}
use Rattle.drive.specs.Surface.{put_sector}
use Rattle.drive.specs.Run.{call, World, made}
use Rattle.drive.specs.Views.{Bytes, Where, at, of_answer}
use Rattle.records.proofs.Ladders.{guarded_cases, after_read_cases, write_cases, verify_cases, tried_cases, checked_cases, start_cases}
use Rattle.demands.proofs.Parts.{data_with, data_put}
use Rattle.demands.proofs.Statuses.{is_move}
use Rattle.demands.proofs.Sim.{state_of, world_of, history_of, Blocky, place_of, Books, Quiet, Own, Unread, Ground, Sound, resting, Bound, Spot, Sole, Work, rereads, writing, verifying, trying, checking, placed, Owes, nothing, bytes, Closing, Sim, at_start, at_rest, at_work, at_store, work_apart, Good, ev, declined}
use Rattle.demands.proofs.Books.{same_sector_lem, held_inj, put_sector_same, put_other, books_write, books_spare, books_stored, books_weaken, books_read}
use Rattle.demands.proofs.Entries.{fits_silent}
use Rattle.records.proofs.Passed.{passed as parts}
use Rattle.demands.proofs.Rest.{ruled, loads, Keeps, awaiting, rests}
use Rattle.demands.proofs.Busy.{Job, l₂, G₂, D, σ₂, R₂, closing_own, reports_end, closes, ends_failed, goes_trying, goes_verifying, goes_checking, next_spare_lem, misses, stops, passes, Gr, goes_on, reads_stopped, reads_fine}

-- A write done leaves its bytes, or nothing that can be read.
not_unreadable : {y x : Bytes} → unreadable ≡ held y → y ≡ x
not_unreadable e = let z : ◌≡◌ {A = ℕ} 0 1 = cc in absurd (not_zero z)
  where
    not_zero : ◌≡◌ {A = ℕ} 0 1 → ⊥
    not_zero z = omega arith

pub left_is : (sp : Bool) (x y : Bytes) → cond sp unreadable (held x) ≡ held y → y ≡ x
left_is true x y e = not_unreadable e
left_is false x y e = sym (held_inj e)

and_yes : (x : Bool) → (x && true) ≡ x
and_yes true = refl
and_yes false = refl

-- No access of a command is at the table.
pub off_table : (s : Sector) → (s ≡ table_sector → ⊥) → eqb s.0 table_sector.0 ≡ false
off_table s n = ne_eqb s.0 table_sector.0 (λ z. n (same_sector_lem s table_sector z))

pub not_at_table : (t : Table) (b : Block) (r : Trial) → length (spare_list t) ≤ 32 → Spot t b r → eqb r.sector.0 table_sector.0 ≡ false
not_at_table t b r l st = go r.spare refl
  where
    go : (q : Bool) → r.spare ≡ q → eqb r.sector.0 table_sector.0 ≡ false
    go true q = off_table r.sector (λ z. spare_not_table t.nspares (st.aside q).0 (sym (st.aside q).1 ∙ z))
    go false q = off_table r.sector (λ z. not_table (spare_list t) b l (sym (st.present q) ∙ z))

-- A trial's write done leaves the books of a command under way.
pub after_try : (t : Table) (σ : Sectors) (pl : Block → Where) (ca : Block → List Bytes) (mv : Bool) (b : Block) (x : Bytes) (sp : Bool) (r : Trial) → Blocky b → Spot t b r
    → Books t σ pl ca (Own b x) mv → Books t (put_sector σ r.sector (cond sp unreadable (held x))) pl ca (Own b x) mv
after_try t σ pl ca mv b x sp r i st k = go r.spare refl
  where
    go : (q : Bool) → r.spare ≡ q → Books t (put_sector σ r.sector (cond sp unreadable (held x))) pl ca (Own b x) mv
    go false q = rw (st.present q) (books_write b x (cond sp unreadable (held x)) i (λ z y e. e) (left_is sp x) k)
    go true q =
        rw (st.aside q).1
        (books_spare t.nspares (cond sp unreadable (held x)) (omega (arith, length-take t.nspares t.spares)) (st.aside q).0 k)

-- A READ ANSWERED.
module _ {s : Sector} (j : Job (answer.Read s)) (r : Retry) (eb : r.block ≡ j.block) (er : r.sector ≡ s) (es : s ≡ place_of j.table j.block) (op : j.reads ≡ true)
    (g : r.good ≡ true → j.sectors s ≡ held (data_of j.buffer)) (k : Books j.table j.sectors j.place j.candidates Quiet j.marks.moved) (et : j.touched ≡ true) (lb : length j.bytes ≡ cond (leb j.number 1) 532 0) where
  open j use {sectors as σ, table as t, buffer as u, block as b, number as a, bytes as bs, sized as lu}

  abbrev v : Part
  v = kept_part r a

  -- The first good bytes are in the data part.
  filled : leb a 1 ≡ true → D j (part.Filled 0) ≡ bs
  unfolding part_left
  filled q =
      let n : length bs ≡ 532 = rw q at lb in
      rw (take_all 532 bs (omega (arith, n)), data_put u bs lu n) (data_with u bs lu)

  after_good : eqb a 0 ≡ true → R₂ j → σ (place_of t b) ≡ held (D j v)
  unfolding kept_part part_left
  after_good q ok =
      let e = eqb-true a 0 q in
      let one : leb a 1 ≡ true = rw e in
      branch (λ (x : Part). σ (place_of t b) ≡ held (D j x)) (leb a 1 && not r.good) (λ y. rw (← es, filled one) (rw q at ok)) (λ y. rw (← es) (g (not-false r.good (rw one at y))))

  after_bad : R₂ j → r.good ≡ true → σ (place_of t b) ≡ held (D j v)
  unfolding kept_part part_left
  after_bad ok w = rw (w, and_false (leb a 1) false refl) (rw (← es) (g w))

  read_answered : G₂ j (reads (after_read r a) (l₂ j) t v)
  unfolding reads failed
  read_answered =
      after_read_cases (Gr j et op k v) r a
      (record {
        done = λ q z. reads_fine j et op k v r.seen (after_good q);
        passes = λ q z. goes_on j et op k v (passed r) eb (er ∙ es) (λ ok y. after_good q ok);
        stops = λ q z. reads_stopped j et op k v r.seen;
        fails = λ q z. goes_on j et op k v (failed r a) eb (er ∙ es) after_bad;
      })

-- What was written to a sector is all that it can hold.
landed_sole : (σ : Sectors) (s : Sector) (sp : Bool) (u : Bytes) → Sole (put_sector σ s (cond sp unreadable (held (data_of u)))) s u
landed_sole σ s sp u y e = left_is sp (data_of u) y (rw put_sector_same at e)

-- A WRITE ANSWERED: the one to the block's sector,
module _ {s : Sector} (j : Job (answer.Write s)) (et : j.touched ≡ true) where
  open j use {sectors as σ, table as t, marks as mk, buffer as u, place as pl, candidates as ca, given as fd, wrote as wr, block as b, reads as rd, number as a, spoils as sp, blocky as i, valid as tk}

  write_answered_lem : (w : Target) → w.block ≡ b → w.sector ≡ s → s ≡ place_of t b → wr ≡ true → rd ≡ false → data_of u ≡ padded fd → Books t σ pl ca Quiet mk.moved → G₂ j (write_answered (l₂ j) t w a)
  unfolding part_left
  write_answered_lem w eb er es wt op ed k =
      write_cases (G₂ j) (l₂ j) t w a
      (record {
        verifies = λ q z. goes_verifying j et wt w part.Kept eb (er ∙ es) op ed (rw (q, er) (landed_sole σ s sp u)) (rw (q, es) own);
        done = λ q z. closes j change.Keep ending.Good clean part.Kept (λ ok. tk) (λ ok. rw (q, es) (closing_own wt bd own (λ x. landed_sole σ (place_of t b) sp u)));
        stops = λ q z. ends_failed j wt change.Keep ending.Latched clean part.Kept refl refl (λ ok. tk) bd (λ ok. rw q (books_weaken b (data_of u) k));
        moves = λ q z. next_spare_lem j et wt change.Keep t.nspares w.block (met a clean) eb (λ ok. tk) bd refl (λ ok. rw q (books_weaken b (data_of u) k));
      })
    where
      own : Books t (put_sector σ (place_of t b) (cond sp unreadable (held (data_of u)))) pl ca (Own b (data_of u)) mk.moved
      own = books_write b (data_of u) (cond sp unreadable (held (data_of u))) i (λ x y e. absurd e) (left_is sp (data_of u)) k

      bd : Bound ca b rd u (padded fd)
      bd = record { as_read = λ z. clash z op; as_write = λ z. ed }

  -- and a trial's.
  try_answered : (r : Trial) → r.block ≡ b → r.sector ≡ s → wr ≡ true → Spot t b r → Bound ca b rd u (padded fd) → Books t σ pl ca (Own b (data_of u)) mk.moved → G₂ j (tried (l₂ j) t r a)
  unfolding part_left
  try_answered r eb er wt st bd k =
      tried_cases (G₂ j) (l₂ j) t r a
      (record {
        done = λ q. goes_checking j et wt r part.Kept eb st bd (rw (q, er) (landed_sole σ s sp u)) (rw (q, ← er) (after_try t σ pl ca mk.moved b (data_of u) sp r i st k));
        stops = λ z. let q : eqb a 0 ≡ false = rw (eqb-true a 3 z) in stops j et wt r eb st bd (λ ok. rw q k);
        fails = λ q z. misses j et wt r eb st bd (λ ok. rw q k) (met a r.seen);
      })

-- A VERIFY ANSWERED, and a trial's reread. They leave the sector as the write left it.
module _ {s : Sector} (j : Job (answer.Read s)) (et : j.touched ≡ true) where
  open j use {sectors as σ, table as t, marks as mk, buffer as u, place as pl, candidates as ca, given as fd, wrote as wr, last_read as lr, block as b, reads as rd, number as a, blocky as i, valid as tk}

  verify_answered_lem : (w : Target) → w.block ≡ b → w.sector ≡ s → s ≡ place_of t b → wr ≡ true → rd ≡ false → data_of u ≡ padded fd → Sole σ s u → Books t σ pl ca (Own b (data_of u)) mk.moved
      → (equal : Bool) → G₂ j (verify_answered (l₂ j) w a equal)
  unfolding part_left
  verify_answered_lem w eb er es wt op ed so k equal =
      verify_cases (G₂ j) (l₂ j) w a equal
      (record {
        stops = λ q. ends_failed j wt change.Keep ending.Latched clean part.Kept refl refl (λ ok. tk) bd (λ ok. k);
        done = λ q z. closes j change.Keep ending.Good clean part.Kept (λ ok. tk) (λ ok. closing_own wt bd k (λ x y e. so y (rw es e)));
        fails = λ q z. goes_trying j et change.Keep (on_present w.block w.sector _) part.Kept eb (record { present = λ x. er ∙ es; aside = λ x. clash x refl }) (λ ok. bd) (λ ok. k);
      })
    where
      bd : Bound ca b rd u (padded fd)
      bd = record { as_read = λ z. clash z op; as_write = λ z. ed }

  check_answered : (r : Trial) → r.block ≡ b → r.sector ≡ s → wr ≡ true → lr ≡ at s → Spot t b r → Bound ca b rd u (padded fd) → Sole σ s u → Books t σ pl ca (Own b (data_of u)) mk.moved
      → (equal : Bool) → G₂ j (checked (l₂ j) t r a equal)
  unfolding part_left
  check_answered r eb er wt el st bd so k equal =
      let r' : Trial = counted r a equal in
      let st' : Spot t b r' = record { present = st.present; aside = st.aside } in
      let so' : Sole σ r.sector u = rw er so in
      checked_cases (G₂ j) (l₂ j) t r a equal
      (record {
        stops = λ q. stops j et wt r eb st bd (λ ok. k);
        counts = λ q. record {
          again = λ z. goes_checking j et wt r' part.Kept eb st' bd so' k;
          passes = λ z y. passes j et wt r' eb st' bd (λ ok. k) (el ∙ ap at (sym er)) so';
          fails = λ z y. misses j et wt r' eb st' bd (λ ok. k) _;
        };
      })

-- EVERY CALL WHILE A COMMAND IS UNDER WAY, and at its end.
module _ (start σ : Sectors) (t : Table) (cs : Bytes) (mk : Marks) (pl : Block → Where) (ca : Block → List Bytes) (u c : Bytes) (n f rn : ℕ) (h fd : Bytes) (to wr : Bool) (lr : Where) (ln fn : Bool) (b : Block) (rd : Bool)
    (lu : length u ≡ 536) (tk : table_ok t ≡ true) (lc : length c ≡ 6) (kn : mk.known ≡ true) (so : Sound mk) (el : ln ≡ true) (ef : fn ≡ true) (i : Blocky b) (num : number_of h ≡ b.0) (isr : is_read (kind_of h) ≡ rd) (pa : Apart pl) where
  abbrev job : Access → (A : Answer) → is_table_sector (of_answer A).read ≡ false → ℕ → Bytes → Bool → Job A
  job x A nl a bs sp =
      record {
        start = start;
        sectors = σ;
        table = t;
        marks = mk;
        command = c;
        count = n;
        fed = f;
        run = rn;
        causes = cs;
        phase = phase.Awaiting x;
        buffer = u;
        place = pl;
        candidates = ca;
        heard = h;
        given = fd;
        touched = to;
        wrote = wr;
        last_read = lr;
        learned = ln;
        found = fn;
        block = b;
        reads = rd;
        number = a;
        bytes = bs;
        spoils = sp;
        full = lc;
        known = kn;
        sound = so;
        learnt = el;
        tabled = ef;
        apart = pa;
        blocky = i;
        numbered = num;
        kind = isr;
        elsewhere = nl;
        valid = tk;
        sized = lu;
      }

  abbrev Wx : Access → Answer → World
  Wx x A = world_of t cs (state_of (phase.Awaiting x) mk c n f rn) u σ A

  abbrev Hx : Answer → History
  Hx A = history_of pl ca A h fd true to wr lr ln fn

  works : (et : to ≡ true) {x : Access} {A : Answer} → Work t σ pl ca mk.moved b rd u (padded fd) x A wr lr → Sim start (Wx x A) (Hx A) → (k : Call) (sp : Bool) → Keeps start (Wx x A) (Hx A) k sp
  unfolding follows
  works et (rereads {r = r} {s = s} eb er es op g k) m =
      let nl = off_table s (λ y. not_table (spare_list t) b k.short (sym es ∙ y)) in
      awaiting m (λ a bs sp z. read_answered (job (access.Read r) (answer.Read s) nl a bs sp) r eb er es op g k et (eqb-true (length bs) (cond (leb a 1) 532 0) z))
  works et (writing {w = w} {s = s} wt eb er es op ed k) m = awaiting m (λ a bs sp z. write_answered_lem (job (access.Write w) (answer.Write s) refl a bs sp) et w eb er es wt op ed k)
  works et (verifying {w = w} {s = s} wt elr eb er es op ed only k) m =
      let nl = off_table s (λ y. not_table (spare_list t) b k.short (sym es ∙ y)) in
      awaiting m (λ a bs sp z. verify_answered_lem (job (access.Verify w) (answer.Read s) nl a bs sp) et w eb er es wt op ed only k _)
  works et (trying {r = r} {s = s} wt eb er st bd k) m = awaiting m (λ a bs sp z. try_answered (job (access.TrialWrite r) (answer.Write s) refl a bs sp) et r eb er wt st bd k)
  works et (checking {r = r} {s = s} wt elr eb er st bd only k) m =
      let nl = rw er at (not_at_table t b r k.short st) in
      awaiting m (λ a bs sp z. check_answered (job (access.TrialRead r) (answer.Read s) nl a bs sp) et r eb er wt elr st bd only k _)

  -- THE STORE ANSWERED.
  module _ (cl : Close) (k : Closing t σ pl ca mk.moved b rd u (padded fd) cl.ending wr lr) where
    -- Done, the stored table is the record's.
    done : (sp : Bool) → Closing t (put_sector σ table_sector (cond sp unreadable (held (image_b rn t cs)))) pl ca false b rd u (padded fd) cl.ending wr lr
    done sp = record { owes = go k.owes; as_read = k.as_read; as_write = k.as_write; sole = λ x y e. k.sole x y (sym (elsewhere k.owes) ∙ e) }
      where
        v : Content
        v = cond sp unreadable (held (image_b rn t cs))

        go : Owes t σ (placed (is_move cl.ending) b lr pl) ca mk.moved b rd u (padded fd) wr → Owes t (put_sector σ table_sector v) (placed (is_move cl.ending) b lr pl) ca false b rd u (padded fd) wr
        go (nothing x q) = nothing x (books_stored rn cs v tk (left_is sp (image_b rn t cs)) q)
        go (bytes w y d q) = bytes w y d (books_stored rn cs v tk (left_is sp (image_b rn t cs)) q)

        elsewhere : Owes t σ (placed (is_move cl.ending) b lr pl) ca mk.moved b rd u (padded fd) wr → put_sector σ table_sector v (place_of t b) ≡ σ (place_of t b)
        elsewhere (nothing x q) = put_other σ table_sector (place_of t b) v (λ z. not_table (spare_list t) b q.short z)
        elsewhere (bytes w y d q) = put_other σ table_sector (place_of t b) v (λ z. not_table (spare_list t) b q.short z)

    abbrev jobs : ℕ → Bytes → Bool → Job answer.Store
    jobs a bs sp = job (access.Store cl) answer.Store refl a bs sp

    store_answered_lem : (a : ℕ) (bs : Bytes) (sp : Bool) → G₂ (jobs a bs sp) (store_answered cl (l₂ (jobs a bs sp)) a)
    unfolding store_answered part_left
    store_answered_lem a bs sp = reports_end (jobs a bs sp) (store_marks mk a) change.Keep cl.ending (met a cl.seen) (is_undone a) (eqb a 3) part.Kept kn sound (λ z. and_false mk.moved (is_undone a) z) (λ ok. go (eqb a 0) refl)
      where
        sound : Sound (store_marks mk a)
        sound x = and_true mk.changed (is_undone a) (so (and_left mk.moved (is_undone a) x)) (and_right mk.moved (is_undone a) x)

        go : (q : Bool) → eqb a 0 ≡ q → Closing t (σ₂ (jobs a bs sp)) pl ca (mk.moved && is_undone a) b rd u (padded fd) cl.ending wr lr
        go true q = rw (q, and_false mk.moved false refl) (done sp)
        go false q = rw (q, and_yes mk.moved) k

    stored : Sim start (Wx (access.Store cl) answer.Store) (Hx answer.Store) → (x : Call) (sp : Bool) → Keeps start (Wx (access.Store cl) answer.Store) (Hx answer.Store) x sp
    unfolding follows
    stored m = awaiting m (λ a bs sp z. store_answered_lem a bs sp)

-- THE START'S READS.
module _ (start σ : Sectors) (t : Table) (cs : Bytes) (mk : Marks) (c : Bytes) (n f j rn : ℕ) (u : Bytes) (pl : Block → Where) (ca : Block → List Bytes) (h fd : Bytes) (to' wr : Bool) (lr : Where) (ln fn : Bool)
    (lc : length c ≡ 6) (kn : mk.known ≡ false) (em : mk.moved ≡ false) (un : Unread start σ pl ca ln) where
  abbrev Ws : World
  Ws = world_of t cs (state_of (phase.Awaiting (access.Start j)) mk c n f rn) u σ (answer.Read table_sector)

  abbrev Hb : History
  Hb = history_of pl ca (answer.Read table_sector) h fd false to' wr lr ln fn

  abbrev Gs : ℕ → Bytes → Bool → Turn → Type 0
  Gs a bs sp x = Good start Ws Hb (ev (surface a bs) sp) (out_of t cs bs u x)

  bare : Ground start mk.known mk.moved t σ pl ca ln fn
  bare = record { tabled = λ q. clash q kn; tableless = λ q. un; learnt = λ q. clash q kn; found = λ q. clash q kn }

  sound : Sound mk
  sound x = clash x em

  -- Returns the candidates once an image is read: the first of all gives them, a later one leaves them.
  abbrev ca₁ : Bytes → Block → List Bytes
  ca₁ bs = cond ln ca (λ b. contents (start (place_of (table_of bs) b)))

  learns_well : (bs : Bytes) → well_formed bs ≡ true → σ table_sector ≡ held bs → (b : Block) (y : Bytes) → Blocky b → σ (place_of (table_of bs) b) ≡ held y → In y (ca₁ bs b)
  learns_well bs wf here b y ib e = go ln refl
    where
      go : (q : Bool) → ln ≡ q → In y (cond q ca (λ z. contents (start (place_of (table_of bs) z))) b)
      go true q = un.safe q bs here wf b y ib e
      go false q = rw (ap (λ (z : Sectors). z (place_of (table_of bs) b)) (sym (un.untouched q)) ∙ e) (inl refl)

  books_now : (bs : Bytes) → well_formed bs ≡ true → σ table_sector ≡ held bs → Books (table_of bs) σ (λ b. at (place_of (table_of bs) b)) (ca₁ bs) Quiet mk.moved
  books_now bs wf here = rw em (books_read bs wf here (learns_well bs wf here))

  start_read : (a : ℕ) (bs : Bytes) (sp : Bool) → Gs a bs sp (start_answered j (state_of (phase.Awaiting (access.Start j)) mk c n f rn) a bs)
  unfolding part_left status_left next heard learns acts underway touches touches_first reports place_next candidates_next
  start_read a bs sp =
      start_cases (Gs a bs sp) j (state_of (phase.Awaiting (access.Start j)) mk c n f rn) a bs
      (record {
        table = λ q. λ ok. (
          fits_silent _ _ refl refl,
          rw q (at_rest lc sound (record {
            tabled = λ z. books_now bs (and_right (eqb a 0) (well_formed bs) q) (rw (and_left (eqb a 0) (well_formed bs) q) at ok);
            tableless = λ z. clash refl z;
            learnt = λ z. refl;
            found = λ z. refl;
          }) (resting refl refl)),
        );
        stops = λ q z. λ ok. (fits_silent _ _ refl refl, rw q (at_rest lc sound bare (resting refl refl)));
        again = λ q y. λ ok. (fits_silent _ _ refl refl, rw q (at_start lc kn em un));
        gives_up = λ q y. λ ok. (fits_silent _ _ refl refl, rw q (at_rest lc sound bare (resting refl refl)));
      })

  starts : Sim start Ws Hb → (x : Call) (sp : Bool) → Keeps start Ws Hb x sp
  unfolding follows
  starts m = awaiting m (λ a bs sp z. start_read a bs sp)

-- ONE CALL, past the codes 1 and 2.
kept_by_rule : {start : Sectors} {w : World} {H : History} → Sim start w H → length w.buffer ≡ 536 → table_ok w.drive.table ≡ true → (x : Call) (sp : Bool)
    → Keeps start w H x sp
kept_by_rule {start} (at_start {t = t} {cs = cs} {mk = mk} {c = c} {n = n} {f = f} {k = k} {rn = rn} {u = u} {σ = σ} {pl = pl} {ca = ca} {h = h} {fd = fd} {to = to} {wr = wr} {lr = lr} {ln = ln} {fn = fn} lc kn em un) lu tk x sp =
    starts start σ t cs mk c n f k rn u pl ca h fd to wr lr ln fn lc kn em un (at_start lc kn em un) x sp
kept_by_rule {start} (at_rest {t = t} {cs = cs} {σ = σ} {pl = pl} {ca = ca} {ln = ln} {fn = fn} lc so gr sh) lu tk x sp = rests start σ t cs pl ca ln fn lu tk lc so gr sh (at_rest lc so gr sh) x sp
kept_by_rule {start} (at_work {t = t} {cs = cs} {mk = mk} {c = c} {n = n} {f = f} {rn = rn} {u = u} {σ = σ} {pl = pl} {ca = ca} {h = h} {fd = fd} {wr = wr} {lr = lr} {ln = ln} {fn = fn} {b = b} {rd = rd} lc kn so el ef i num isr wk) lu tk x sp =
    works start σ t cs mk pl ca u c n f rn h fd true wr lr ln fn b rd lu tk lc kn so el ef i num isr (work_apart wk) refl wk (at_work lc kn so el ef i num isr wk) x sp
kept_by_rule {start} (at_store {t = t} {cs = cs} {mk = mk} {c = c} {n = n} {f = f} {rn = rn} {k = k} {u = u} {σ = σ} {pl = pl} {ca = ca} {h = h} {fd = fd} {to = to} {wr = wr} {lr = lr} {ln = ln} {fn = fn} {b = b} {rd = rd} lc kn so el ef i num isr ok pa cl) lu tk x sp =
    stored start σ t cs mk pl ca u c n f rn h fd to wr lr ln fn b rd lu ok lc kn so el ef i num isr pa k cl (at_store lc kn so el ef i num isr ok pa cl) x sp

module _ {start : Sectors} {w : World} {H : History} (m : Sim start w H) where
  abbrev Gg : Call → Bool → Turn → Type 0
  Gg x sp y = Good start w H (ev x sp) (out_of w.drive.table w.drive.causes (loads x) w.buffer y)

  guards : (x : Call) (sp : Bool) → Gg x sp (guarded (record_ok w.drive) (length w.buffer) w.drive.state (ruled x w.drive.table w.drive.state w.buffer))
  unfolding record_ok
  guards x sp =
      guarded_cases (Gg x sp) (record_ok w.drive) (length w.buffer) w.drive.state _
      (record {
        damaged = λ o. declined x sp refusal.Record (loads x) m;
        length = λ o q. declined x sp refusal.Buffer (loads x) m;
        passes = λ o q. kept_by_rule m (eqb-true (length w.buffer) 536 q) (parts w.drive o).table x sp;
      })

  pub step : (x : Call) (sp : Bool) → Good start w H (ev x sp) (made w (call (ev x sp)))
  unfolding step_of raise_of lower_of feed_of surface_of reset_of
  step raise sp = guards raise sp
  step (lower b) sp = guards (lower b) sp
  step (feed bs) sp = guards (feed bs) sp
  step (surface a bs) sp = guards (surface a bs) sp
  step reset sp = guards reset sp

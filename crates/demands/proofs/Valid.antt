-- CODE 1 IS NEVER RETURNED FOR A RECORD THAT A CALL RETURNED.
use mathlib.Core.Path.{◌≡◌, refl, ◌∙◌}
use mathlib.Core.Bool.{Bool, true, false, cond, not, ◌&&◌, ◌||◌}
use mathlib.Core.List.{List, [], ◌∷◌, ◌++◌}
use Prim.Native.Nat.{ℕ, zero, suc, ◌+◌, ◌-◌, ◌≤◌, ◌<◌, min}
use native.Mathlib.Omega.{arith}
use lib.Dec.{eqb, ltb, leb}
use lib.ListN.{length, take, drop, length-append, length-take, length-drop, replicate}
use lib.Seq.{length-take-le}
use borrow.Author.Tests.{eq-eqb, lt-ltb, ltb-true, ltb-false, le-leb, leb-true, not-false}
use Rattle.geometry.specs.Geometry.{is_block, is_sector, spare_of}
use Rattle.geometry.specs.declared.Block.{Block}
use Rattle.geometry.specs.declared.Sector.{Sector}
use Rattle.geometry.proofs.Laws.{spare_sector}
use Rattle.logic.proofs.Bools.{branch, and_left, and_right, and_true}
use Rattle.table.specs.declared.Table.{Table}
use Rattle.table.specs.Tables.{spare_list, bad_list, sector_of, Shaped, table_ok, killed_next, listed, with_bad, without_bad, causes_ok, causes_listed, causes_killed}
use Rattle.lists.specs.Lists.{member_of}
use Rattle.table.proofs.Keeps.{passes, empty_ok, listed_ok, killed_ok, entered_ok, removed_ok}
use Rattle.table.proofs.Lists.{listed_shaped, killed_shaped, entered_shaped, removed_shaped}
use Rattle.table.proofs.Placing.{sector_in_range}
use Rattle.table.proofs.Causes.{listed_causes_ok, killed_causes_ok, listed_causes_length, killed_causes_length}
use Rattle.image.specs.Images.{well_formed}
use Rattle.image.proofs.Layouts.{bytes_drop}
use Rattle.image.proofs.RoundTrip.{read_ok, read_shaped, causes_ok_lem, causes_shaped, zeros_ok}
use Rattle.buffer.specs.Runs.{over}
use Rattle.drive.specs.declared.Drive.{Drive}
use Rattle.drive.specs.declared.State.{State}
use Rattle.drive.specs.declared.Marks.{Marks}
use Rattle.drive.specs.declared.Seen.{Seen}
use Rattle.drive.specs.declared.Close.{Close}
use Rattle.drive.specs.declared.Ending.{Ending}
use Rattle.drive.specs.declared.Retry.{Retry}
use Rattle.drive.specs.declared.Trial.{Trial}
use Rattle.drive.specs.declared.Offer.{Offer}
use Rattle.drive.specs.declared.Order.{Order}
use Rattle.drive.specs.declared.Offer.TheVariants as offer
use Rattle.drive.specs.declared.Access.{Access}
use Rattle.drive.specs.declared.Access.TheVariants as access
use Rattle.drive.specs.declared.Answer.TheVariants as answer
use Rattle.drive.specs.declared.Part.{Part}
use Rattle.drive.specs.declared.Turn.{Turn}
use Rattle.drive.specs.declared.Phase.{Phase}
use Rattle.drive.specs.declared.Phase.TheVariants as phase
use Rattle.drive.specs.declared.Cause.{Cause}
use Rattle.drive.specs.declared.Cause.TheVariants as cause
use Rattle.drive.specs.declared.Change.{Change}
use Rattle.drive.specs.declared.Change.TheVariants as change
use Rattle.drive.specs.declared.Outcome.{Outcome}
use Rattle.drive.specs.Records.{retry_ok, target_ok, trial_ok, access_ok, phase_ok, state_ok, record_ok}
use Rattle.drive.specs.Results.{changed, noted, in_phase, with_marks, say, ended, numbered, finish, on_present, guarded}
use Rattle.drive.specs.Words.{cause_number, kind_of, order_of, block_of}
use Rattle.drive.specs.Handshake.{offer_for, offers, raised, acted, goes_on, lowered, fed_to, rested}
use Rattle.drive.specs.Retries.{met, passed, failed, is_reread, after_read}
use Rattle.drive.specs.Sparing.{on_spare, tried, counted, checked}
use Rattle.drive.specs.Access.{asks_read, start_answered, store_answered, reads, follows, answered}
use Rattle.drive.specs.Calls.{Call, raise, lower, feed, surface, reset, raise_of, lower_of, feed_of, surface_of, reset_of, step_of, started, start_of}
use Rattle.drive.specs.Values.{Bytewise, Typed, TypedCall, TypedCalls, NoCode1, Code1Never}
use Rattle.records.proofs.Ladders.{finish_cases, OnBlock, acted_cases, guarded_cases, fitting_cases, lowered_cases, NextSpare, Missed, Stopped, Verified, tried_cases, checked_cases, start_cases, Lost, lost_cases, settled_cases, GoesOnReading, after_read_cases, write_cases, verify_cases}
use Rattle.records.proofs.Passed.{passed as parts}
use Rattle.demands.proofs.Numbers.{on_block}
use Rattle.demands.proofs.RunNumber.{step_run}
use Rattle.demands.proofs.Busy.{killed_count}
use Rattle.demands.proofs.Refusals.{code_1_only}

-- Parts of a list of bytes are lists of bytes.
bytes_none : Bytewise []
bytes_none k = omega arith

bytes_take : (n : ℕ) (s : List ℕ) → Bytewise s → Bytewise (take n s)
bytes_take zero s h k = omega arith
bytes_take (suc n) [] h k = omega arith
bytes_take (suc n) (x ∷ s) h zero = h zero
bytes_take (suc n) (x ∷ s) h (suc k) = bytes_take n s (λ j. h (suc j)) k

bytes_append : (r s : List ℕ) → Bytewise r → Bytewise s → Bytewise (r ++ s)
bytes_append [] s p q k = q k
bytes_append (x ∷ r) s p q zero = p zero
bytes_append (x ∷ r) s p q (suc k) = bytes_append r s (λ j. p (suc j)) q k

-- Says that a table and its causes are valid and of the right shape.
record Beside (t : Table) (cs : List ℕ) : Type 0 where
  pub table : table_ok t ≡ true
  pub shaped : Shaped t
  pub noted : causes_ok (take t.nspares cs) ≡ true
  pub causes : length cs ≡ 32

-- Says that a state beside a table is valid and of the right shape, part by part.
pub record Fine (t : Table) (cs : List ℕ) (l : State) : Type 0 where
  pub table : table_ok t ≡ true
  pub shaped : Shaped t
  pub noted : causes_ok (take t.nspares cs) ≡ true
  pub causes : length cs ≡ 32
  pub count : l.count ≤ 6
  pub fed : l.fed ≤ 533
  pub phase : phase_ok t.nspares l.marks.known l.phase ≡ true
  pub full : length l.command ≡ 6
  pub bytes : Bytewise l.command

pub fine_of : (d : Drive) → record_ok d ≡ true → Typed d → Fine d.table d.causes d.state
unfolding state_ok
fine_of d h y =
    let k = parts d h in
    let lk = k.state in
    let cf = and_left (leb d.state.count 6 && leb d.state.fed 533) (phase_ok d.table.nspares d.state.marks.known d.state.phase) lk in
    record {
      table = k.table;
      shaped = y.table;
      noted = k.causes;
      causes = y.causes;
      count = leb-true d.state.count 6 (and_left (leb d.state.count 6) (leb d.state.fed 533) cf);
      fed = leb-true d.state.fed 533 (and_right (leb d.state.count 6) (leb d.state.fed 533) cf);
      phase = and_right (leb d.state.count 6 && leb d.state.fed 533) (phase_ok d.table.nspares d.state.marks.known d.state.phase) lk;
      full = y.full;
      bytes = y.bytes;
    }

pub fine_ok : (d : Drive) → Fine d.table d.causes d.state → record_ok d ≡ true
unfolding record_ok state_ok
fine_ok d f = rw (f.table, f.noted, le-leb d.state.count 6 f.count, le-leb d.state.fed 533 f.fed) f.phase

pub fine_typed : (d : Drive) → Fine d.table d.causes d.state → d.state.run < 4294967296 → Typed d
fine_typed d f r = record { table = f.shaped; causes = f.causes; run = r; full = f.full; bytes = f.bytes }

-- Says, part by part, that a retry, a target and a trial pass code 1's tests.
pub record RetryFacts (r : Retry) : Type 0 where
  pub block : is_block r.block.0 ≡ true
  pub sector : is_sector r.sector.0 ≡ true
  pub sum : r.seen.errors + r.left ≤ 255
  pub spent : r.spent ≤ 89

pub retry_facts : (r : Retry) → retry_ok r ≡ true → RetryFacts r
unfolding retry_ok
retry_facts r h =
    let a = is_block r.block.0 in
    let b = is_sector r.sector.0 in
    let c = leb (r.seen.errors + r.left) 255 in
    let d = leb r.spent 89 in
    let abc = and_left (a && b && c) d h in
    let ab = and_left (a && b) c abc in
    record { block = and_left a b ab; sector = and_right a b ab; sum = leb-true (r.seen.errors + r.left) 255 (and_right (a && b) c abc); spent = leb-true r.spent 89 (and_right (a && b && c) d h) }

retry_ok_lem : (r : Retry) → RetryFacts r → retry_ok r ≡ true
unfolding retry_ok
retry_ok_lem r f = rw (f.block, f.sector, le-leb (r.seen.errors + r.left) 255 f.sum) (le-leb r.spent 89 f.spent)

pub record TrialFacts (n : ℕ) (r : Trial) : Type 0 where
  pub block : is_block r.block.0 ≡ true
  pub sector : is_sector r.sector.0 ≡ true
  pub few : r.rereads ≤ 100
  pub fewer : r.failures ≤ r.rereads
  pub spot : (not r.spare || (ltb n 32 && eqb r.sector.0 (spare_of n).0)) ≡ true

pub trial_facts : (n : ℕ) (r : Trial) → trial_ok n r ≡ true → TrialFacts n r
unfolding trial_ok
trial_facts n r h =
    let a = is_block r.block.0 in
    let b = is_sector r.sector.0 in
    let c = leb r.rereads 100 in
    let d = leb r.failures r.rereads in
    let e = not r.spare || (ltb n 32 && eqb r.sector.0 (spare_of n).0) in
    let abcd = and_left (a && b && c && d) e h in
    let abc = and_left (a && b && c) d abcd in
    let ab = and_left (a && b) c abc in
    record {
      block = and_left a b ab;
      sector = and_right a b ab;
      few = leb-true r.rereads 100 (and_right (a && b) c abc);
      fewer = leb-true r.failures r.rereads (and_right (a && b && c) d abcd);
      spot = and_right (a && b && c && d) e h;
    }

pub trial_ok_lem : (n : ℕ) (r : Trial) → TrialFacts n r → trial_ok n r ≡ true
unfolding trial_ok
trial_ok_lem n r f = rw (f.block, f.sector, le-leb r.rereads 100 f.few, le-leb r.failures r.rereads f.fewer) f.spot

pub on_spare_lem : (n : ℕ) (r : Trial) → TrialFacts n r → r.spare ≡ true → n < 32
on_spare_lem n r f e = let s = rw e at f.spot in ltb-true n 32 (and_left (ltb n 32) (eqb r.sector.0 (spare_of n).0) s)

-- A reread that is counted is one more, and at most one more failure.
pub one_more : (q : Bool) {x y : ℕ} → x ≤ y → x + cond q 0 1 ≤ y + 1
one_more true h = omega arith
one_more false h = omega arith

spares_few : (t : Table) → table_ok t ≡ true → length (spare_list t) ≤ 32
spares_few t k = omega (arith, length-take t.nspares t.spares, (passes t k).few_spares)

-- A cause is at most 3,
cause_few : (x : Cause) → cause_number x ≤ 3
cause_few cause.Unknown = omega arith
cause_few cause.Crc = omega arith
cause_few cause.Timeout = omega arith
cause_few cause.NoSettle = omega arith

-- and the bad list has nothing to do with how many spares are listed.
removed_count : (t : Table) (b : Block) → (without_bad t b).nspares ≡ t.nspares
unfolding without_bad
removed_count t b = branch (λ (x : Table). x.nspares ≡ t.nspares) (member_of b.0 (bad_list t)) (λ e. refl) (λ e. refl)

entered_count : (t : Table) (b : Block) → (with_bad t b).nspares ≡ t.nspares
unfolding with_bad
entered_count t b = branch (λ (x : Table). x.nspares ≡ t.nspares) (ltb t.nbads 100) (λ e. refl) (λ e. refl)

listed_count : (t : Table) (b : Block) → t.nspares < 32 → (listed t b).nspares ≡ t.nspares + 1
unfolding listed
listed_count t b h = rw (lt-ltb t.nspares 32 h)

module _ (t : Table) (cs : List ℕ) (l : State) (f : Fine t cs l) where
  -- A state stays valid in another phase and with other marks,
  to : (m : Marks) (p : Phase) → phase_ok t.nspares m.known p ≡ true → Fine t cs (with_marks l m p)
  to m p h = record { table = f.table; shaped = f.shaped; noted = f.noted; causes = f.causes; count = f.count; fed = f.fed; phase = h; full = f.full; bytes = f.bytes }

  -- and beside another table, with other causes.
  onto : {t' : Table} {cs' : List ℕ} → Beside t' cs' → (m : Marks) (p : Phase) → phase_ok t'.nspares m.known p ≡ true → Fine t' cs' (with_marks l m p)
  onto z m p h = record { table = z.table; shaped = z.shaped; noted = z.noted; causes = z.causes; count = f.count; fed = f.fed; phase = h; full = f.full; bytes = f.bytes }

  -- Each change leaves a valid table with valid causes.
  as_it_is : Beside t cs
  as_it_is = record { table = f.table; shaped = f.shaped; noted = f.noted; causes = f.causes }

  killed : (x : Cause) → t.nspares < 32 → Beside (killed_next t) (causes_killed t (cause_number x) cs)
  killed x n =
      record {
        table = killed_ok t f.shaped f.table;
        shaped = killed_shaped t f.shaped;
        noted = rw (killed_count t n) (killed_causes_ok t (cause_number x) cs n f.causes (cause_few x) f.noted);
        causes = killed_causes_length t (cause_number x) cs ∙ f.causes;
      }

  moved_on : (b : Block) (x y : Cause) → is_block b.0 ≡ true → t.nspares < 32 → Beside (without_bad (listed t b) b) (causes_listed t b (cause_number x) (cause_number y) cs)
  moved_on b x y i n =
      record {
        table = removed_ok (listed t b) b (listed_shaped t b f.shaped) (listed_ok t b f.shaped i f.table);
        shaped = removed_shaped (listed t b) b (listed_shaped t b f.shaped);
        noted = rw (removed_count (listed t b) b, listed_count t b n) (listed_causes_ok t b (cause_number x) (cause_number y) cs n f.causes (cause_few x) (cause_few y) f.noted);
        causes = listed_causes_length t b (cause_number x) (cause_number y) cs ∙ f.causes;
      }

  removed_from : (b : Block) → Beside (without_bad t b) cs
  removed_from b = record { table = removed_ok t b f.shaped f.table; shaped = removed_shaped t b f.shaped; noted = rw (removed_count t b) f.noted; causes = f.causes }

  entered_in : (b : Block) → is_block b.0 ≡ true → member_of b.0 (bad_list t) ≡ false → Beside (with_bad t b) cs
  entered_in b i q = record { table = entered_ok t b f.shaped i q f.table; shaped = entered_shaped t b f.shaped; noted = rw (entered_count t b) f.noted; causes = f.causes }

  module _ (bs : List ℕ) where
    abbrev Ok : Turn → Type 0
    Ok x = Fine (changed x.change t bs) (noted x.change t cs bs) x.state

    -- THE END OF A COMMAND: the store is asked for with a table known, or it is idle.
    stored : {t' : Table} {cs' : List ℕ} → Beside t' cs' → (m : Marks) (k : Close) → m.known ≡ true → Fine t' cs' (with_marks (numbered l) m (phase.Awaiting (access.Store k)))
    stored z m k h = record { table = z.table; shaped = z.shaped; noted = z.noted; causes = z.causes; count = f.count; fed = f.fed; phase = h; full = f.full; bytes = f.bytes }

    closes : (ch : Change) (e : Ending) (s : Seen) (v : Part) → Beside (changed ch t bs) (noted ch t cs bs) → Ok (finish l ch e s v)
    closes ch e s v k =
        let m = ended l.marks ch e in
        finish_cases Ok l ch e s v
        (record { asks = λ q. stored k m _ (and_left m.known m.changed (and_left (m.known && m.changed) (not m.latch) q)); reports = λ q. onto k _ phase.Idle refl })

    -- RAISE
    opens : (o : Offer) (n : ℕ) → n ≤ 6 → Fine t cs (record { phase = phase.Offered o; marks = l.marks; command = l.command; count = n; fed = 0; run = l.run })
    opens o n h = record { table = f.table; shaped = f.shaped; noted = f.noted; causes = f.causes; count = h; fed = omega arith; phase = refl; full = f.full; bytes = f.bytes }

    kept_few : (o : Offer) → Ok (offers l o)
    kept_few offer.Command = opens offer.Command 0 (omega arith)
    kept_few offer.Read = opens offer.Read l.count f.count
    kept_few offer.Write = opens offer.Write l.count f.count
    kept_few offer.Verify = opens offer.Verify l.count f.count
    kept_few offer.Act = opens offer.Act l.count f.count

    raises : (p : Phase) → Ok (raised p l)
    unfolding raised
    raises phase.Idle = opens offer.Command 0 (omega arith)
    raises (phase.Offered o) = f
    raises phase.Command = kept_few (offer_for (kind_of l.command) l.count)
    raises phase.Data = to l.marks (phase.Offered offer.Act) refl
    raises (phase.Awaiting x) = f

    -- LOWER
    idle_again : (m : Marks) → Fine t cs (with_marks l m phase.Idle)
    idle_again m = to m phase.Idle refl

    -- Returns the command that the record holds.
    abbrev o : Order
    o = order_of l.command

    known : OnBlock o l → l.marks.known ≡ true
    known b = not-false l.marks.known b.known

    at_sector : OnBlock o l → is_sector (sector_of (spare_list t) (block_of o)).0 ≡ true
    at_sector b = sector_in_range (spare_list t) (block_of o) (spares_few t f.table) (on_block b)

    -- The trial of a present sector passes.
    on_present_lem : (b : Block) (s : Sector) (x : Seen) → is_block b.0 ≡ true → is_sector s.0 ≡ true → trial_ok t.nspares (on_present b s x) ≡ true
    on_present_lem b s x i j = trial_ok_lem t.nspares (on_present b s x) (record { block = i; sector = j; few = omega arith; fewer = omega arith; spot = refl })

    acts : Ok (acted o l t)
    acts =
        acted_cases Ok o l t
        (record {
          overrun = λ e. record { block = λ i. closes change.Keep _ _ _ as_it_is; no_block = λ i. idle_again _ };
          no_block = λ e f. idle_again _;
          buffer = λ e f. idle_again _;
          no_table = λ e f. idle_again _;
          table = λ e f. idle_again _;
          health = λ e f. idle_again _;
          read = λ b e. to l.marks _ (and_true l.marks.known _ (known b) (retry_ok_lem _ (record { block = on_block b; sector = at_sector b; sum = omega (arith, f.bytes 4); spent = omega arith })));
          latched = λ b e f. closes change.Keep _ _ _ as_it_is;
          listed = λ b e f g. to _ _ (and_true l.marks.known _ (known b) (on_present_lem _ _ _ (on_block b) (at_sector b)));
          write = λ b e f g. to l.marks _ (and_true l.marks.known _ (known b) (and_true (is_block (block_of o).0) _ (on_block b) (at_sector b)));
        })

    goes : (o : Offer) → Ok (goes_on o l t)
    unfolding goes_on
    goes offer.Command = to l.marks phase.Command refl
    goes offer.Read = acts
    goes offer.Write = to l.marks phase.Data refl
    goes offer.Verify = to l.marks phase.Data refl
    goes offer.Act = acts

    lowers : (p : Phase) (b : ℕ) → Ok (lowered p l t b)
    unfolding lowered
    lowers phase.Idle b = f
    lowers (phase.Offered o) b = lowered_cases Ok o l t b (record { goes = λ e. goes o; breaks = λ e. idle_again _ })
    lowers phase.Command b = f
    lowers phase.Data b = f
    lowers (phase.Awaiting x) b = f

    -- FEED
    feeds_command : (xs : List ℕ) → Bytewise xs
        → Fine t cs (record { phase = phase.Command; marks = l.marks; command = over l.count (take (6 - l.count) xs) l.command; count = min 6 (l.count + length xs); fed = l.fed; run = l.run })
    unfolding over
    feeds_command xs h =
        let c = l.command in
        let n = l.count in
        let run = take (6 - n) xs in
        record {
          table = f.table;
          shaped = f.shaped;
          noted = f.noted;
          causes = f.causes;
          count = omega arith;
          fed = f.fed;
          phase = refl;
          full = omega (arith, length-append (take n c ++ run) (drop (n + length run) c), length-append (take n c) run, length-take-le n c (omega (arith, f.count, f.full)), length-take (6 - n) xs, length-drop (n + length run) c, f.full, f.count);
          bytes = bytes_append (take n c ++ run) (drop (n + length run) c) (bytes_append (take n c) run (bytes_take n c f.bytes) (bytes_take (6 - n) xs h)) (bytes_drop (n + length run) c f.bytes);
        }

    feeds : (p : Phase) (xs : List ℕ) → Bytewise xs → Ok (fed_to p l xs)
    unfolding fed_to
    feeds phase.Idle xs h = f
    feeds (phase.Offered o) xs h = f
    feeds phase.Command xs h = feeds_command xs h
    feeds phase.Data xs h = record { table = f.table; shaped = f.shaped; noted = f.noted; causes = f.causes; count = f.count; fed = omega arith; phase = refl; full = f.full; bytes = f.bytes }
    feeds (phase.Awaiting x) xs h = f

    -- RESET
    rests : (p : Phase) → Ok (rested p l)
    unfolding rested
    rests phase.Idle = idle_again _
    rests (phase.Offered o) = idle_again _
    rests phase.Command = idle_again _
    rests phase.Data = idle_again _
    rests (phase.Awaiting x) = f

    -- SURFACE
    starts : (k a : ℕ) → Ok (start_answered k l a bs)
    starts k a =
        start_cases Ok k l a bs
        (record {
          table = λ e. let w = and_right (eqb a 0) (well_formed bs) e in record { table = read_ok bs w; shaped = read_shaped bs w; noted = causes_ok_lem bs w; causes = causes_shaped bs w; count = f.count; fed = f.fed; phase = refl; full = f.full; bytes = f.bytes };
          stops = λ e f. idle_again _;
          again = λ e y. to l.marks _ (le-leb (k + 1) 10 (omega (arith, ltb-true k 10 y)));
          gives_up = λ e y. idle_again _;
        })

    store_told : (k : Close) (a : ℕ) → Ok (store_answered k l a)
    unfolding store_answered
    store_told k a = idle_again _

    -- SPARING: a turn may try spare m of the table as it is by then.
    next_spare_lem : (ch : Change) (m : ℕ) (b : Block) (s : Seen) {x y : Cause} → l.marks.known ≡ true → is_block b.0 ≡ true → Beside (changed ch t bs) (noted ch t cs bs) → (changed ch t bs).nspares ≡ m
        → NextSpare Ok m l ch b s x y
    next_spare_lem ch m b s {x} {y} kn i k em =
        record {
          spare = λ e. onto k _ _ (and_true l.marks.known _ kn
              (trial_ok_lem (changed ch t bs).nspares (on_spare m b s x y)
              (record { block = i; sector = spare_sector m (ltb-true m 32 e); few = omega arith; fewer = omega arith; spot = rw (em, e) (eq-eqb (spare_of m).0 (spare_of m).0 refl) })));
          no_spare = λ e. closes ch _ _ _ k;
        }

    module _ (kn : l.marks.known ≡ true) (r : Trial) (i : is_block r.block.0 ≡ true) (room : r.spare ≡ true → t.nspares < 32) where
      misses : (s : Seen) {x : Cause} → Missed Ok l t r s x
      misses s {x} =
          record {
            dead = λ z. next_spare_lem (change.Kill x) (t.nspares + 1) r.block s kn i (killed x (room z)) (killed_count t (room z));
            left = λ z. next_spare_lem change.Keep t.nspares r.block s kn i as_it_is refl;
          }

      stops : Stopped Ok l r
      stops = record { dead = λ z. closes (change.Kill cause.NoSettle) _ _ _ (killed cause.NoSettle (room z)); present = λ z. closes change.Keep _ _ _ as_it_is }

      verifies : Verified Ok l t r
      verifies =
          record {
            moved = λ z. closes (change.Move r.block r.before r.present) _ _ _ (moved_on r.block r.before r.present i (room z));
            listed = λ z y. closes (change.Remove r.block) _ _ _ (removed_from r.block);
            stays = λ z y. closes change.Keep _ _ _ as_it_is;
          }

    module _ (kn : l.marks.known ≡ true) (r : Trial) (w : TrialFacts t.nspares r) where
      room : r.spare ≡ true → t.nspares < 32
      room = on_spare_lem t.nspares r w

      rereads : (x : Trial) → TrialFacts t.nspares x → Ok (say (in_phase l (phase.Awaiting (access.TrialRead x))) (answer.Read x.sector))
      rereads x y = to l.marks (phase.Awaiting (access.TrialRead x)) (and_true l.marks.known _ kn (trial_ok_lem t.nspares x y))

      tries : (a : ℕ) → Ok (tried l t r a)
      tries a = tried_cases Ok l t r a (record { done = λ e. rereads r w; stops = λ e. stops kn r w.block room; fails = λ e z. misses kn r w.block room (met a r.seen) })

      checks : (a : ℕ) (q : Bool) → Ok (checked l t r a q)
      checks a q =
          let x : Trial = counted r a q in
          checked_cases Ok l t r a q
          (record {
            stops = λ e. stops kn r w.block room;
            counts = λ e. record {
              again = λ z. rereads x (record { block = w.block; sector = w.sector; few = omega (arith, ltb-true x.rereads 100 z); fewer = one_more q w.fewer; spot = w.spot });
              passes = λ z y. verifies kn x w.block room;
              fails = λ z y. misses kn x w.block room x.seen;
            };
          })

    -- RETRIES
    module _ (kn : l.marks.known ≡ true) (v : Part) where
      abbrev OkRead : Outcome → Type 0
      OkRead x = Ok (reads x l t v)

      loses : (r : Retry) → is_block r.block.0 ≡ true → Lost Ok l t r v
      loses r i =
          record {
            listed = λ q. closes change.Keep _ _ _ as_it_is;
            entered = λ q z. closes (change.Enter r.block) _ _ _ (entered_in r.block i q);
            full = λ q z. closes change.Keep _ _ _ as_it_is;
          }

      -- Of a retry that goes on, its sum is left to show, and its cost where a reread is left.
      goes_on_lem : (r : Retry) → is_block r.block.0 ≡ true → is_sector r.sector.0 ≡ true → r.seen.errors + r.left ≤ 255 → (0 < r.left → r.spent ≤ 89) → GoesOnReading OkRead r
      unfolding reads
      goes_on_lem r i s h c =
          record {
            reread = λ e. again (c (ltb-true 0 r.left e));
            settles = λ e z. settled_cases Ok l r v
                (record {
                  below = λ e. closes change.Keep _ _ _ as_it_is;
                  latched = λ e z. closes change.Keep _ _ _ as_it_is;
                  tries = λ e z. to _ _ (and_true l.marks.known _ kn (on_present_lem _ _ _ i s));
                });
            further = λ e z y. again (omega (arith, ltb-true r.spent 90 y));
            loses = λ e z y. lost_cases Ok l t r v (loses r i);
          }
        where
          again : r.spent ≤ 89 → Fine t cs (with_marks l l.marks (phase.Awaiting (access.Read r)))
          again q = to l.marks (phase.Awaiting (access.Read r)) (and_true l.marks.known _ kn (retry_ok_lem r (record { block = i; sector = s; sum = h; spent = q })))

    -- A failure leaves the sum as it was or lower, and costs only where no reread is left.
    fails_sum : (r : Retry) (a : ℕ) → RetryFacts r → (failed r a).seen.errors + (failed r a).left ≤ 255
    unfolding failed
    fails_sum r a w = go (is_reread r) refl
      where
        go : (q : Bool) → (not r.first && ltb 0 r.left) ≡ q → cond q (r.seen.errors + 1) r.seen.errors + cond q (r.left - 1) r.left ≤ 255
        go true q = let p = ltb-true 0 r.left (and_right (not r.first) (ltb 0 r.left) q) in omega (arith, w.sum, p)
        go false q = w.sum

    fails_cost : (r : Retry) (a : ℕ) → RetryFacts r → 0 < (failed r a).left → (failed r a).spent ≤ 89
    unfolding failed
    fails_cost r a w = go r.first (ltb 0 r.left) refl
      where
        go : (x y : Bool) → ltb 0 r.left ≡ y → 0 < cond (not x && y) (r.left - 1) r.left → cond (x || y) r.spent (r.spent + cond (eqb a 1) 1 9) ≤ 89
        go true y q h = w.spent
        go false true q h = w.spent
        go false false q h = absurd (let z = ltb-false 0 r.left q in omega arith)

    reads_on : (kn : l.marks.known ≡ true) (r : Retry) → RetryFacts r → (a : ℕ) (v : Part) → Ok (reads (after_read r a) l t v)
    unfolding reads failed
    reads_on kn r w a v =
        after_read_cases (OkRead kn v) r a
        (record {
          done = λ e z. closes change.Keep _ _ _ as_it_is;
          passes = λ e z. goes_on_lem kn v (passed r) w.block w.sector (omega (arith, w.sum)) (λ y. w.spent);
          stops = λ e z. closes change.Keep _ _ _ as_it_is;
          fails = λ e z. goes_on_lem kn v (failed r a) w.block w.sector (fails_sum r a w) (fails_cost r a w);
        })

    follow : (x : Access) → access_ok t.nspares l.marks.known x ≡ true → (a : ℕ) (q : Bool) → Ok (follows x l t a bs q)
    unfolding follows
    follow (access.Start k) h a q = starts k a
    follow (access.Store k) h a q = store_told k a
    follow (access.Read r) h a q = reads_on (and_left l.marks.known (retry_ok r) h) r (retry_facts r (and_right l.marks.known (retry_ok r) h)) a _
    follow (access.Write w) h a q =
        let k = and_left l.marks.known (target_ok w) h in
        let x = and_right l.marks.known (target_ok w) h in
        write_cases Ok l t w a
        (record {
          verifies = λ e z. to l.marks (phase.Awaiting (access.Verify w)) h;
          done = λ e z. closes change.Keep _ _ _ as_it_is;
          stops = λ e z. closes change.Keep _ _ _ as_it_is;
          moves = λ e z. next_spare_lem change.Keep t.nspares w.block _ k (and_left (is_block w.block.0) (is_sector w.sector.0) x) as_it_is refl;
        })
    follow (access.Verify w) h a q =
        let k = and_left l.marks.known (target_ok w) h in
        let x = and_right l.marks.known (target_ok w) h in
        let i = is_block w.block.0 in
        let j = is_sector w.sector.0 in
        verify_cases Ok l w a q (record { stops = λ e. closes change.Keep _ _ _ as_it_is; done = λ e z. closes change.Keep _ _ _ as_it_is; fails = λ e z. to _ _ (and_true l.marks.known _ k (on_present_lem _ _ _ (and_left i j x) (and_right i j x))) })
    follow (access.TrialWrite r) h a q = tries (and_left l.marks.known (trial_ok t.nspares r) h) r (trial_facts t.nspares r (and_right l.marks.known (trial_ok t.nspares r) h)) a
    follow (access.TrialRead r) h a q = checks (and_left l.marks.known (trial_ok t.nspares r) h) r (trial_facts t.nspares r (and_right l.marks.known (trial_ok t.nspares r) h)) a q

    surfaces : (p : Phase) → phase_ok t.nspares l.marks.known p ≡ true → (a : ℕ) (q : Bool) → Ok (answered p l t a bs q)
    unfolding answered
    surfaces phase.Idle h a q = f
    surfaces (phase.Offered o) h a q = f
    surfaces phase.Command h a q = f
    surfaces phase.Data h a q = f
    surfaces (phase.Awaiting x) h a q = fitting_cases Ok (asks_read x) l a (length bs) _ (record { answer = λ e. f; bytes = λ e z. f; fits = λ e z. follow x h a q })

    guards : (ok : Bool) (n : ℕ) (x : Turn) → Ok x → Ok (guarded ok n l x)
    guards ok n x h = guarded_cases Ok ok n l x (record { damaged = λ e. f; length = λ e q. f; passes = λ e q. h })

-- EACH CALL RETURNS A VALID RECORD FROM A VALID ONE. A surface call does so whatever its bytes are.
pub surface_fine : (d : Drive) (u : List ℕ) (a : ℕ) (bs : List ℕ) → Fine d.table d.causes d.state → Fine (surface_of d u a bs).step.drive.table (surface_of d u a bs).step.drive.causes (surface_of d u a bs).step.drive.state
unfolding surface_of
surface_fine d u a bs f = guards d.table d.causes d.state f bs (record_ok d) (length u) _ (surfaces d.table d.causes d.state f bs d.state.phase f.phase a _)

pub step_fine : (c : Call) (d : Drive) (u : List ℕ) → TypedCall c → Fine d.table d.causes d.state → Fine (step_of c d u).step.drive.table (step_of c d u).step.drive.causes (step_of c d u).step.drive.state
unfolding step_of raise_of lower_of feed_of reset_of
step_fine raise d u y f = guards d.table d.causes d.state f [] (record_ok d) (length u) _ (raises d.table d.causes d.state f [] d.state.phase)
step_fine (lower b) d u y f = guards d.table d.causes d.state f [] (record_ok d) (length u) _ (lowers d.table d.causes d.state f [] d.state.phase b)
step_fine (feed xs) d u y f = guards d.table d.causes d.state f xs (record_ok d) (length u) _ (feeds d.table d.causes d.state f xs d.state.phase xs y)
step_fine (surface a bs) d u y f = surface_fine d u a bs f
step_fine reset d u y f = guards d.table d.causes d.state f [] (record_ok d) (length u) _ (rests d.table d.causes d.state f [] d.state.phase)

pub step_valid : (c : Call) (d : Drive) (u : List ℕ) → TypedCall c → Typed d → record_ok d ≡ true → record_ok (step_of c d u).step.drive ≡ true
step_valid c d u y h k = fine_ok (step_of c d u).step.drive (step_fine c d u y (fine_of d k h))

pub step_typed : (c : Call) (d : Drive) (u : List ℕ) → TypedCall c → Typed d → record_ok d ≡ true → Typed (step_of c d u).step.drive
step_typed c d u y h k = fine_typed (step_of c d u).step.drive (step_fine c d u y (fine_of d k h)) (step_run c d u y h.run)

-- AND A START RETURNS ONE FROM ANY RECORD.
pub started_fine : Fine started.table started.causes started.state
started_fine =
    record { table = empty_ok; shaped = (refl, refl); noted = zeros_ok 0 32; causes = refl; count = omega arith; fed = omega arith; phase = refl; full = refl; bytes = zeros }
  where
    zeros : Bytewise (0 ∷ 0 ∷ 0 ∷ 0 ∷ 0 ∷ 0 ∷ [])
    zeros zero = omega arith
    zeros (suc zero) = omega arith
    zeros (suc (suc zero)) = omega arith
    zeros (suc (suc (suc zero))) = omega arith
    zeros (suc (suc (suc (suc zero)))) = omega arith
    zeros (suc (suc (suc (suc (suc zero))))) = omega arith
    zeros (suc (suc (suc (suc (suc (suc k)))))) = omega arith

pub started_valid : record_ok started ≡ true
started_valid = fine_ok started started_fine

-- NO CALL AFTER A START ANSWERS CODE 1, nor after any record that code 1 does not refuse.
none_refused : (cs : List Call) (d : Drive) (u : List ℕ) → Fine d.table d.causes d.state → TypedCalls cs → NoCode1 d u cs
none_refused [] d u f y = tt
none_refused (c ∷ cs) d u f y = (code_1_only c d u (fine_ok d f), none_refused cs (step_of c d u).step.drive (step_of c d u).bytes (step_fine c d u y.0 f) y.1)

pub code_1_never : Code1Never
unfolding start_of
code_1_never = (λ old lent cs h y. rw (eq-eqb (length lent) 536 h) (none_refused cs started (replicate 536 0) started_fine y), λ d u cs h k y. none_refused cs d u (fine_of d k h) y)

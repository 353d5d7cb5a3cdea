-- Packing loses nothing of a record that passes code 1, and what a record's words do not mean is refused.
use mathlib.Core.Path.{◌≡◌, refl, sym, ap, ◌∙◌}
use mathlib.Core.Bool.{Bool, true, false, not, ◌&&◌, ◌||◌}
use mathlib.Core.List.{List, [], ◌∷◌, ◌++◌, append_assoc}
use Prim.Native.Nat.{ℕ, ◌+◌, ◌/◌, ◌%◌, ◌≤◌, ◌<◌}
use native.Mathlib.Omega.{arith}
use borrow.Author.Tests.{leb-true, ltb-true, le-leb}
use lib.Dec.{eqb, leb, ltb}
use lib.ListN.{length, take, drop, get_or, length-append, length-drop, take-append-drop, drop_of_length-le}
use lib.Seq.{take_at, drop_at, drop-drop, take_all}
use Rattle.logic.proofs.Bools.{and_left, and_right, and_false}
use Rattle.logic.proofs.Walks.{step}
use Rattle.geometry.specs.Geometry.{is_block, is_sector, spare_of}
use Rattle.table.specs.declared.Table.{Table}
use Rattle.table.specs.Tables.{Shaped, table_ok, causes_ok}
use Rattle.table.proofs.Keeps.{passes}
use Rattle.drive.specs.declared.Drive.{Drive}
use Rattle.drive.specs.declared.State.{State}
use Rattle.drive.specs.declared.Cause.{Cause}
use Rattle.drive.specs.declared.Cause.TheVariants as cause
use Rattle.drive.specs.declared.Offer.TheVariants as offer
use Rattle.drive.specs.declared.Ending.{Ending}
use Rattle.drive.specs.declared.Ending.TheVariants as ending
use Rattle.drive.specs.declared.Access.TheVariants as access
use Rattle.drive.specs.declared.Phase.{Phase}
use Rattle.drive.specs.declared.Phase.TheVariants as phase
use Rattle.drive.specs.declared.Seen.{Seen}
use Rattle.drive.specs.declared.Retry.{Retry}
use Rattle.drive.specs.declared.Target.{Target}
use Rattle.drive.specs.declared.Trial.{Trial}
use Rattle.drive.specs.Records.{retry_ok, target_ok, trial_ok, phase_ok, state_ok, record_ok}
use Rattle.drive.specs.Words.{response, cause_number}
use Rattle.drive.specs.Values.{Bytewise, Typed}
use Rattle.packed.specs.declared.Stage.{Stage}
use Rattle.packed.specs.Packing.{bit, flag, pair, low, high, word, long, remembered, cause_of, bare, store_stage, read_stage, target_stage, trial_stage, stage_of, damaged, trial_of, phase_of, pack_state, pack_table, pack_of, stage_at, command_at, state_at, causes_at, table_at, unpack_of}

-- A WORD

flag_bit : (b : Bool) → flag (bit b) ≡ b
flag_bit true = refl
flag_bit false = refl

low_pair : (a b : ℕ) → a < 256 → low (pair a b) ≡ a
low_pair a b h = omega arith

high_pair : (a b : ℕ) → a < 256 → high (pair a b) ≡ b
high_pair a b h = omega arith

pub word_is : (n : ℕ) → n ≤ 65535 → word n ≡ n
word_is n h = rw (le-leb n 65535 h)

long_back : (n : ℕ) → long (n % 65536) (n / 65536) ≡ n
long_back n = omega arith

-- A CAUSE

pub cause_small : (x : Cause) → cause_number x ≤ 3
cause_small cause.Unknown = omega arith
cause_small cause.Crc = omega arith
cause_small cause.Timeout = omega arith
cause_small cause.NoSettle = omega arith

cause_back : (x : Cause) {n : ℕ} → n ≡ cause_number x → cause_of n ≡ x
cause_back cause.Unknown e = rw e
cause_back cause.Crc e = rw e
cause_back cause.Timeout e = rw e
cause_back cause.NoSettle e = rw e

-- A STAGE

-- Says that a stage's numbers are no longer than their places.
record Fits (s : Stage) : Type 0 where
  kind : s.kind < 256
  left : s.left < 256
  spent : s.spent < 256
  sector : s.sector ≤ 65535

sector_fits : (n : ℕ) → is_sector n ≡ true → n ≤ 65535
sector_fits n h = omega (arith, ltb-true n 9792 h)

retry_fits : (r : Retry) → retry_ok r ≡ true → Fits (read_stage r)
unfolding retry_ok
retry_fits r h =
    let b = is_block r.block.0 in
    let s = is_sector r.sector.0 in
    let e = leb (r.seen.errors + r.left) 255 in
    let p = leb r.spent 89 in
    let x = and_left (b && s && e) p h in
    record {
      kind = omega arith;
      left = omega (arith, leb-true (r.seen.errors + r.left) 255 (and_right (b && s) e x));
      spent = omega (arith, leb-true r.spent 89 (and_right (b && s && e) p h));
      sector = sector_fits r.sector.0 (and_right b s (and_left (b && s) e x));
    }

trial_fits : (k n : ℕ) (r : Trial) → k < 256 → trial_ok n r ≡ true → Fits (trial_stage k r)
unfolding trial_ok
trial_fits k n r l h =
    let b = is_block r.block.0 in
    let s = is_sector r.sector.0 in
    let a = leb r.rereads 100 in
    let f = leb r.failures r.rereads in
    let x = and_left (b && s && a && f) (not r.spare || (ltb n 32 && eqb r.sector.0 (spare_of n).0)) h in
    let y = and_left (b && s && a) f x in
    record {
      kind = l;
      left = omega arith;
      spent = omega (arith, leb-true r.failures r.rereads (and_right (b && s && a) f x), leb-true r.rereads 100 (and_right (b && s) a y));
      sector = sector_fits r.sector.0 (and_right b s (and_left (b && s) a y));
    }

target_fits : (k : ℕ) (w : Target) → k < 256 → target_ok w ≡ true → Fits (target_stage k w)
target_fits k w l h =
    record { kind = l; left = omega arith; spent = omega arith; sector = sector_fits w.sector.0 (and_right (is_block w.block.0) (is_sector w.sector.0) h) }

bare_fits : (k n : ℕ) → k < 256 → Fits (bare k n)
bare_fits k n h = record { kind = h; left = omega arith; spent = omega arith; sector = omega arith }

fits : (n : ℕ) (known : Bool) (p : Phase) → phase_ok n known p ≡ true → Fits (stage_of p)
fits n known phase.Idle h = bare_fits 0 0 (omega arith)
fits n known (phase.Offered o) h = bare_fits 1 (response o) (omega arith)
fits n known phase.Command h = bare_fits 2 0 (omega arith)
fits n known phase.Data h = bare_fits 3 0 (omega arith)
fits n known (phase.Awaiting (access.Start k)) h = bare_fits 4 k (omega arith)
fits n known (phase.Awaiting (access.Store k)) h = record { kind = omega arith; left = omega arith; spent = omega arith; sector = omega arith }
fits n known (phase.Awaiting (access.Read r)) h = retry_fits r (and_right known (retry_ok r) h)
fits n known (phase.Awaiting (access.Write w)) h = target_fits 7 w (omega arith) (and_right known (target_ok w) h)
fits n known (phase.Awaiting (access.Verify w)) h = target_fits 8 w (omega arith) (and_right known (target_ok w) h)
fits n known (phase.Awaiting (access.TrialWrite r)) h = trial_fits 9 n r (omega arith) (and_right known (trial_ok n r) h)
fits n known (phase.Awaiting (access.TrialRead r)) h = trial_fits 10 n r (omega arith) (and_right known (trial_ok n r) h)

trial_back : (k : ℕ) (r : Trial) → trial_of (trial_stage k r) ≡ r
trial_back k r =
    let x = cause_small r.last in
    let y = cause_small r.before in
    let z = cause_small r.present in
    λ i. record {
      block = r.block;
      sector = r.sector;
      spare = r.spare;
      rereads = r.rereads;
      failures = r.failures;
      seen = r.seen;
      last = cause_back r.last {n = remembered r % 4} (omega arith) i;
      before = cause_back r.before {n = remembered r / 4 % 4} (omega arith) i;
      present = cause_back r.present {n = remembered r / 16 % 4} (omega arith) i;
    }

store_back : (e : Ending) (s : Seen) → phase_of (store_stage (record { ending = e; seen = s })) ≡ phase.Awaiting (access.Store (record { ending = e; seen = s }))
store_back ending.Good s = refl
store_back ending.Moved s = refl
store_back ending.Failed s = refl
store_back ending.Overrun s = refl
store_back ending.NoNumber s = refl
store_back (ending.NoTable false) s = refl
store_back (ending.NoTable true) s = refl
store_back ending.Latched s = refl
store_back ending.BadFull s = refl
store_back ending.NoSpare s = refl

phase_back : (p : Phase) → phase_of (stage_of p) ≡ p
phase_back phase.Idle = refl
phase_back (phase.Offered offer.Command) = refl
phase_back (phase.Offered offer.Read) = refl
phase_back (phase.Offered offer.Write) = refl
phase_back (phase.Offered offer.Verify) = refl
phase_back (phase.Offered offer.Act) = refl
phase_back phase.Command = refl
phase_back phase.Data = refl
phase_back (phase.Awaiting (access.Start k)) = refl
phase_back (phase.Awaiting (access.Store k)) = store_back k.ending k.seen
phase_back (phase.Awaiting (access.Read r)) = refl
phase_back (phase.Awaiting (access.Write w)) = refl
phase_back (phase.Awaiting (access.Verify w)) = refl
phase_back (phase.Awaiting (access.TrialWrite r)) = ap (λ (r : Trial). phase.Awaiting (access.TrialWrite r)) (trial_back 9 r)
phase_back (phase.Awaiting (access.TrialRead r)) = ap (λ (r : Trial). phase.Awaiting (access.TrialRead r)) (trial_back 10 r)

-- A STATE

six : (c : List ℕ) → length c ≡ 6 → get_or c 0 0 ∷ get_or c 1 0 ∷ get_or c 2 0 ∷ get_or c 3 0 ∷ get_or c 4 0 ∷ get_or c 5 0 ∷ [] ≡ c
six c h =
    let k : length c ≤ 6 = omega arith in
    let z : drop 6 c ≡ [] = drop_of_length-le c k in
    sym (step c 0 (omega arith) ∙ ap (λ (l : List ℕ). get_or c 0 0 ∷ l) (step c 1 (omega arith) ∙ ap (λ (l : List ℕ). get_or c 1 0 ∷ l) (step c 2 (omega arith)
    ∙ ap (λ (l : List ℕ). get_or c 2 0 ∷ l) (step c 3 (omega arith) ∙ ap (λ (l : List ℕ). get_or c 3 0 ∷ l) (step c 4 (omega arith)
    ∙ ap (λ (l : List ℕ). get_or c 4 0 ∷ l) (step c 5 (omega arith) ∙ ap (λ (l : List ℕ). get_or c 5 0 ∷ l) z))))))

module _ (l : State) (r : List ℕ) (n : ℕ) (ok : state_ok n l ≡ true) (full : length l.command ≡ 6) (bytes : Bytewise l.command) where
  abbrev w : List ℕ
  w = pack_state l ++ r

  command_back : command_at w ≡ l.command
  unfolding pack_state
  command_back =
      let c = l.command in
      (λ i. low_pair (get_or c 0 0) (get_or c 1 0) (bytes 0) i ∷ high_pair (get_or c 0 0) (get_or c 1 0) (bytes 0) i ∷ low_pair (get_or c 2 0) (get_or c 3 0) (bytes 2) i
      ∷ high_pair (get_or c 2 0) (get_or c 3 0) (bytes 2) i ∷ low_pair (get_or c 4 0) (get_or c 5 0) (bytes 4) i ∷ high_pair (get_or c 4 0) (get_or c 5 0) (bytes 4) i ∷ [])
      ∙ six c full

  stage_back : Fits (stage_of l.phase) → stage_at w ≡ stage_of l.phase
  unfolding pack_state
  stage_back f =
      let s = stage_of l.phase in
      λ i. record {
        kind = low_pair s.kind s.detail f.kind i;
        detail = high_pair s.kind s.detail f.kind i;
        sector = word_is s.sector f.sector i;
        block = s.block;
        remembered = s.remembered;
        left = low_pair s.left s.errors f.left i;
        errors = high_pair s.left s.errors f.left i;
        spent = low_pair s.spent s.threshold f.spent i;
        threshold = high_pair s.spent s.threshold f.spent i;
        first = flag_bit s.first i;
        good = flag_bit s.good i;
        spare = flag_bit s.spare i;
        crc = flag_bit s.crc i;
        timeout = flag_bit s.timeout i;
      }

  state_back : state_at w ≡ l
  unfolding state_at pack_state state_ok
  state_back =
      let m = l.marks in
      let few = leb l.count 6 && leb l.fed 533 in
      let p = phase_ok n m.known l.phase in
      let x = and_left few p ok in
      let s = stage_back (fits n m.known l.phase (and_right few p ok)) in
      λ i. record {
        phase = (ap phase_of s ∙ phase_back l.phase) i;
        marks = record { known = flag_bit m.known i; changed = flag_bit m.changed i; moved = flag_bit m.moved i; latch = flag_bit m.latch i; fresh = flag_bit m.fresh i };
        command = command_back i;
        count = word_is l.count (omega (arith, leb-true l.count 6 (and_left (leb l.count 6) (leb l.fed 533) x))) i;
        fed = word_is l.fed (omega (arith, leb-true l.fed 533 (and_right (leb l.count 6) (leb l.fed 533) x))) i;
        run = long_back l.run i;
      }

-- A TABLE AND ITS CAUSES

module _ (l : State) (t : Table) (cs : List ℕ) (shaped : Shaped t) where
  abbrev z : List ℕ
  z = pack_state l ++ (pack_table t ++ cs)

  table_back : table_ok t ≡ true → table_at z ≡ t
  unfolding table_at pack_state pack_table
  table_back ok =
      let p = passes t ok in
      let e = append_assoc t.spares t.bads cs in
      λ i. record {
        spares = (ap (take 32) e ∙ take_at t.spares (t.bads ++ cs) 32 shaped.0) i;
        bads = (ap (λ (s : List ℕ). take 100 (drop 32 s)) e ∙ ap (take 100) (drop_at t.spares (t.bads ++ cs) 32 shaped.0) ∙ take_at t.bads cs 100 shaped.1) i;
        nspares = word_is t.nspares (omega (arith, p.few_spares)) i;
        nbads = word_is t.nbads (omega (arith, p.few_bads)) i;
      }

  causes_back : length cs ≡ 32 → causes_at z ≡ cs
  unfolding pack_state pack_table
  causes_back h =
      let k : length (t.spares ++ t.bads) ≡ 132 = omega (arith, length-append t.spares t.bads, shaped.0, shaped.1) in
      ap (take 32) (drop_at (t.spares ++ t.bads) cs 132 k) ∙ take_all 32 cs (omega arith)

-- A RECORD

pub unpacked : (d : Drive) → Typed d → record_ok d ≡ true → unpack_of (pack_of d) ≡ d
unfolding pack_of record_ok
unpacked d y ok =
    let t = table_ok d.table in
    let c = causes_ok (take d.table.nspares d.causes) in
    let s = state_ok d.table.nspares d.state in
    λ i. record {
      table = table_back d.state d.table d.causes y.table (and_left t c (and_left (t && c) s ok)) i;
      causes = causes_back d.state d.table d.causes y.table y.causes i;
      state = state_back d.state (pack_table d.table ++ d.causes) d.table.nspares (and_right (t && c) s ok) y.full y.bytes i;
    }

-- The words of a table and its causes stay where they are packed again.
pub table_words : (w : List ℕ) → length w ≡ 189 → get_or w 23 0 ≤ 65535 → get_or w 24 0 ≤ 65535 → pack_table (table_at w) ++ causes_at w ≡ drop 23 w
unfolding table_at pack_table
table_words w h a b =
    let s = take 32 (drop 25 w) in
    let x : drop 32 (drop 25 w) ≡ drop 57 w = drop-drop 32 25 w in
    let y : drop 100 (drop 57 w) ≡ drop 157 w = drop-drop 100 57 w in
    let z : take 32 (drop 157 w) ≡ drop 157 w = take_all 32 (drop 157 w) (omega (arith, length-drop 157 w)) in
    let q : take 100 (drop 57 w) ++ take 32 (drop 157 w) ≡ drop 32 (drop 25 w) = (λ i. take 100 (drop 57 w) ++ (z ∙ sym y) i) ∙ take-append-drop 100 (drop 57 w) ∙ sym x in
    (λ i. word_is (get_or w 23 0) a i ∷ word_is (get_or w 24 0) b i ∷ (append_assoc s (take 100 (drop 57 w)) (take 32 (drop 157 w)) ∙ ap (λ (l : List ℕ). s ++ l) q ∙ take-append-drop 32 (drop 25 w)) i)
    ∙ ap (λ (l : List ℕ). get_or w 23 0 ∷ l) (sym (step w 24 (omega arith)))
    ∙ sym (step w 23 (omega arith))

-- Code 1 refuses a record in the phase that stands for none.
pub damaged_refused : (d : Drive) → d.state.phase ≡ damaged → record_ok d ≡ false
unfolding record_ok state_ok
damaged_refused d e =
    let few = leb d.state.count 6 && leb d.state.fed 533 in
    let lists = table_ok d.table && causes_ok (take d.table.nspares d.causes) in
    rw e (and_false lists (few && false) (and_false few false refl))

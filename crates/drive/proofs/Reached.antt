-- DEMAND 1's BOUND IS REACHED: a read of 1 + 255 + 90 reads, then 33 sectors with a write and a hundred rereads each, then the
-- store. There is a law for each repetition, so that its calls are not computed one by one.
use mathlib.Core.Path.{◌≡◌, refl, ap, sym, subst, ◌∙◌}
use mathlib.Core.Bool.{Bool, true, false, cond, ◌&&◌}
use mathlib.Core.List.{List, [], ◌∷◌, ◌++◌}
use Prim.Native.Nat.{ℕ, zero, suc, ◌+◌, ◌-◌, ◌≤◌, ◌<◌}
use native.Mathlib.Omega.{arith}
use borrow.Author.Tests.{eq-eqb, ne_eqb, lt-ltb, le-ltb, le-leb}
use lib.Dec.{eqb, ltb}
use lib.ListN.{length, take, replicate}
use Rattle.logic.proofs.Bools.{branch, and_left, and_right}
use Rattle.geometry.specs.Geometry.{spare_of}
use Rattle.geometry.specs.declared.Sector.{Sector}
use Rattle.lists.specs.Lists.{dead}
use Rattle.table.specs.declared.Table.{Table}
use Rattle.table.specs.Tables.{Shaped, spare_list, table_ok, empty_table, killed_next, causes_ok, causes_killed}
use Rattle.table.proofs.Keeps.{empty_ok, killed_ok}
use Rattle.table.proofs.Lists.{killed_shaped}
use Rattle.table.proofs.Causes.{killed_causes_ok, killed_causes_length}
use Rattle.buffer.specs.Runs.{same, over}
use Rattle.drive.specs.declared.Cause.TheVariants as cause
use Rattle.drive.specs.declared.Retry.{Retry}
use Rattle.drive.specs.declared.Seen.{Seen}
use Rattle.drive.specs.declared.State.{State}
use Rattle.drive.specs.declared.Trial.{Trial}
use Rattle.drive.specs.declared.Outcome.{Outcome}
use Rattle.drive.specs.declared.Outcome.TheVariants as outcome
use Rattle.drive.specs.declared.Access.{Access}
use Rattle.drive.specs.declared.Access.TheVariants as access
use Rattle.drive.specs.declared.Phase.{Phase}
use Rattle.drive.specs.declared.Phase.TheVariants as phase
use Rattle.drive.specs.declared.Answer.{Answer}
use Rattle.drive.specs.declared.Answer.TheVariants as answer
use Rattle.drive.specs.declared.Ending.TheVariants as ending
use Rattle.drive.specs.Words.{data_of, status_of}
use Rattle.drive.specs.Records.{access_ok, retry_ok, trial_ok, state_ok, record_ok}
use Rattle.drive.specs.Results.{Out, out_of, with_run, part_left, status_left, finish}
use Rattle.drive.specs.Retries.{failed, goes_on_reading, after_read}
use Rattle.drive.specs.Sparing.{next_spare, missed, tried, last_after, judged, checked}
use Rattle.drive.specs.Access.{asks_read, answer_fits, bytes_fit, fitting, store_answered, kept_part, settled, reads, follows, answered, is_compared}
use Rattle.drive.specs.Calls.{Call, raise, lower, feed, surface, surface_of, step_of, started}
use Rattle.drive.specs.Views.{of_answer}
use Rattle.drive.specs.Bound.{of_command, is_command, accesses, Demand1Bound}
use Rattle.drive.proofs.Computing.{computed}
use Rattle.drive.proofs.Examples.{ready, run, crc, good, timeout, reading, Ended}

-- THE CALLS

-- Makes n trials that fail, and then the store: the write is done, and none of the hundred rereads is good.
abbrev pub trials : ℕ → List Call
trials zero = surface 0 [] ∷ []
trials (suc n) = surface 0 [] ∷ (replicate 100 crc ++ trials n)

-- Makes the longest read: the first one fails and so do 255 rereads, 89 further ones fail and one is good, 33 trials fail, and the
-- store is done.
abbrev pub longest : List Call
longest = crc ∷ (replicate 255 crc ++ (replicate 89 crc ++ (good ∷ trials 33)))

-- Begins the command, with R 255 and T 1.
abbrev pub begun : Out
begun = reading 255 1 []

-- WHERE CALLS LEAD

-- Says that each of the calls is accepted while the command is under way, and what the last one gives.
data Leads : Out → List Call → Out → Type 0 where
  none : {x : Out} → Leads x [] x
  more : {x y z : Out} {c : Call} {cs : List Call} → is_command x.step.drive.state.phase ≡ true
      → step_of c x.step.drive x.bytes ≡ y → (of_answer y.step.answer).refused ≡ false → Leads y cs z → Leads x (c ∷ cs) z

all_count_lem : {x y : Out} {cs : List Call} → Leads x cs y → accesses x.step.drive x.bytes cs ≡ length cs
unfolding accesses
all_count_lem none = refl
all_count_lem (more c e r l) = rw (c, e, r) (ap suc (all_count_lem l))

leads_there : {x y : Out} {c : Call} {cs : List Call} → Leads x (c ∷ cs) y → run x.step.drive x.bytes (c ∷ cs) ≡ y
leads_there (more c e r none) = e
leads_there (more {y = y} c e r (more c' e' r' l)) = rw e (leads_there {x = y} (more c' e' r' l))

-- ONE ANSWER

-- Holds the state in the course of the command. changed: the table has changes that are not stored.
abbrev during : Bool → Phase → State
during changed p =
    record { phase = p; marks = record { known = true; changed = changed; moved = false; latch = false; fresh = false }; command = 0 ∷ 0 ∷ 0 ∷ 0 ∷ 255 ∷ 1 ∷ []; count = 6; fed = 0; run = 0 }

-- Holds what a call gave that asked for an access.
abbrev asked : Table → List ℕ → Bool → List ℕ → Access → Answer → Out
asked t cs changed u x a = record { step = record { drive = record { table = t; causes = cs; state = during changed (phase.Awaiting x) }; answer = a }; bytes = u }

-- Says whether an access is a command's, and an answer fits it.
abbrev suits : Access → ℕ → List ℕ → Bool
suits x a bs = of_command x && (answer_fits (asks_read x) a && bytes_fit (asks_read x) a (length bs))

module _ (t : Table) (cs : List ℕ) (changed : Bool) (u : List ℕ) where
  -- Returns what the answer to an access gives.
  abbrev given : Access → ℕ → List ℕ → Out
  given x a bs = out_of t cs bs u (follows x (during changed (phase.Awaiting x)) t a bs (is_compared x && eqb a 0 && same bs (data_of u)))

  gives : table_ok t ≡ true → causes_ok (take t.nspares cs) ≡ true → length u ≡ 536 → (x : Access) (z : Answer) (a : ℕ) (bs : List ℕ) → access_ok t.nspares true x ≡ true → suits x a bs ≡ true
      → step_of (surface a bs) (asked t cs changed u x z).step.drive u ≡ given x a bs
  unfolding step_of surface_of record_ok state_ok answered fitting
  gives k kc h x z a bs o f =
      let fits = and_right (of_command x) (answer_fits (asks_read x) a && bytes_fit (asks_read x) a (length bs)) f in
      let p = and_left (answer_fits (asks_read x) a) (bytes_fit (asks_read x) a (length bs)) fits in
      let q = and_right (answer_fits (asks_read x) a) (bytes_fit (asks_read x) a (length bs)) fits in
      rw (k, kc, o, eq-eqb (length u) 536 h, p, q)

  -- An answer that suits leads there.
  answers : table_ok t ≡ true → causes_ok (take t.nspares cs) ≡ true → length u ≡ 536 → (x : Access) (z : Answer) (a : ℕ) (bs : List ℕ) {rest : List Call} {y w : Out}
      → access_ok t.nspares true x ≡ true → suits x a bs ≡ true → given x a bs ≡ y → (of_answer y.step.answer).refused ≡ false
      → Leads y rest w → Leads (asked t cs changed u x z) (surface a bs ∷ rest) w
  answers k kc h x z a bs o f e r l = more {x = asked t cs changed u x z} (and_left (of_command x) _ f) (gives k kc h x z a bs o f ∙ e) r l

-- Holds the causes of no entry.
abbrev no_causes : List ℕ
no_causes = replicate 32 0

none_noted : causes_ok (take 0 no_causes) ≡ true
unfolding causes_ok
none_noted = refl

-- THE READS

-- Returns the bytes that a read brings, and a buffer that holds them.
abbrev brought : ℕ → List ℕ
brought v = replicate 532 v

abbrev lent : ℕ → List ℕ
lent v = 0 ∷ 0 ∷ 0 ∷ 0 ∷ brought v

-- Holds the read command, with so many rereads left, so much spent and this met.
abbrev retry : Bool → ℕ → ℕ → Seen → Retry
retry first left spent seen =
    record { block = record { 0 = 0 }; sector = record { 0 = 0 }; first = first; left = left; spent = spent; threshold = 1; good = false; seen = seen }

-- Holds it after its first read.
abbrev later : ℕ → ℕ → ℕ → Retry
later left spent errors = retry false left spent (record { errors = errors; crc = true; timeout = false })

abbrev asks_again : Retry → Out
asks_again r = asked empty_table no_causes false (lent 1) (access.Read r) (answer.Read r.sector)

later_ok : (n k e : ℕ) → e + n ≤ 255 → k ≤ 89 → retry_ok (later n k e) ≡ true
unfolding retry_ok
later_ok n k e h g = rw (le-leb (e + n) 255 h, le-leb k 89 g)

-- One that fails is followed by another: one reread less is left, or one more is spent.
again : (n k e : ℕ) → k < 90 → goes_on_reading (later n k e) ≡ outcome.Again (later n k e)
unfolding goes_on_reading
again n k e h = branch (λ (x : Outcome). x ≡ outcome.Again (later n k e)) (ltb 0 n) (λ p. refl) (λ p. rw (lt-ltb k 90 h))

reread : (n e : ℕ) → after_read (later (suc n) 0 e) 1 ≡ outcome.Again (later n 0 (e + 1))
unfolding after_read failed
reread n e =
    let p : ltb 0 (suc n) ≡ true = lt-ltb 0 (suc n) (omega arith) in
    let q : suc n - 1 ≡ n = omega arith in
    rw (p, q) (again n 0 (e + 1) (omega arith))

further : (k : ℕ) → k < 89 → after_read (later 0 k 255) 1 ≡ outcome.Again (later 0 (k + 1) 255)
unfolding after_read failed
further k h = again 0 (k + 1) 255 (omega arith)

one_fails : (n k e : ℕ) (r : Retry) {cs : List Call} {w : Out} → e + n ≤ 255 → k ≤ 89 → after_read (later n k e) 1 ≡ outcome.Again r
    → Leads (asks_again r) cs w → Leads (asks_again (later n k e)) (crc ∷ cs) w
unfolding follows kept_part reads part_left over status_left
one_fails n k e r h g q l = answers empty_table no_causes false (lent 1) empty_ok none_noted refl (access.Read (later n k e)) _ 1 (brought 1) (later_ok n k e h g) refl (rw q) refl l

rereads_fail : (n e : ℕ) {cs : List Call} {w : Out} → e + n ≡ 255 → Leads (asks_again (later 0 0 255)) cs w → Leads (asks_again (later n 0 e)) (replicate n crc ++ cs) w
rereads_fail zero e h l = let q : e ≡ 255 = omega arith in rw q l
rereads_fail (suc n) e h l = one_fails (suc n) 0 e (later n 0 (e + 1)) (omega arith) (omega arith) (reread n e) (rereads_fail n (e + 1) (omega arith) l)

further_fail : (n k : ℕ) {cs : List Call} {w : Out} → k + n ≡ 89 → Leads (asks_again (later 0 89 255)) cs w → Leads (asks_again (later 0 k 255)) (replicate n crc ++ cs) w
further_fail zero k h l = let q : k ≡ 89 = omega arith in rw q l
further_fail (suc n) k h l = one_fails 0 k 255 (later 0 (k + 1) 255) (omega arith) (omega arith) (further k (omega arith)) (further_fail n (k + 1) (omega arith) l)

-- A TRIAL

-- Holds the trial of a sector, of which n rereads were made and failed by CRC errors, as all before it did.
abbrev trial : Sector → Bool → ℕ → Trial
trial s spare n =
    record { block = record { 0 = 0 }; sector = s; spare = spare; rereads = n; failures = n; seen = record { errors = 255; crc = true; timeout = false }; last = cond (eqb n 0) cause.Unknown cause.Crc; before = cond spare cause.Crc cause.Unknown; present = cond spare cause.Crc cause.Unknown }

-- Asks for its write, and for a reread.
abbrev asks_write : Table → List ℕ → Bool → List ℕ → Sector → Bool → Out
asks_write t cs changed u s spare = asked t cs changed u (access.TrialWrite (trial s spare 0)) (answer.Write s)

abbrev asks_reread : Table → List ℕ → Bool → List ℕ → Sector → Bool → ℕ → Out
asks_reread t cs changed u s spare n = asked t cs changed u (access.TrialRead (trial s spare n)) (answer.Read s)

-- Returns what the failure of that reread gives.
abbrev reread_failed : Table → List ℕ → Bool → List ℕ → Sector → Bool → ℕ → Out
reread_failed t cs changed u s spare n = given t cs changed u (access.TrialRead (trial s spare n)) 1 (brought 1)

-- A trial that fails leads to what the hundredth failure gives.
module _ (t : Table) (cs : List ℕ) (changed : Bool) (u : List ℕ) (ok : table_ok t ≡ true) (noted_ok : causes_ok (take t.nspares cs) ≡ true) (long : length u ≡ 536) (s : Sector) (spare : Bool)
    (fits : (k : ℕ) → k ≤ 100 → trial_ok t.nspares (trial s spare k) ≡ true) where
  another : (k : ℕ) → k < 99 → reread_failed t cs changed u s spare k ≡ asks_reread t cs changed u s spare (k + 1)
  unfolding follows checked last_after judged part_left status_left
  another k h = rw (lt-ltb (k + 1) 100 (omega arith), ne_eqb (k + 1) 0 (λ e. omega arith))

  hundred_fail : (n k : ℕ) {rest : List Call} {y w : Out} → k + n ≡ 99 → reread_failed t cs changed u s spare 99 ≡ y → (of_answer y.step.answer).refused ≡ false
      → Leads y rest w → Leads (asks_reread t cs changed u s spare k) (replicate (suc n) crc ++ rest) w
  hundred_fail zero k h e r l =
      let q : k ≡ 99 = omega arith in
      rw q (answers t cs changed u ok noted_ok long (access.TrialRead (trial s spare 99)) _ 1 (brought 1) (fits 99 (omega arith)) refl e r l)
  hundred_fail (suc n) k h e r l =
      answers t cs changed u ok noted_ok long (access.TrialRead (trial s spare k)) _ 1 (brought 1) (fits k (omega arith)) refl (another k (omega arith)) refl (hundred_fail n (k + 1) (omega arith) e r l)

  trial_fails : {rest : List Call} {y w : Out} → reread_failed t cs changed u s spare 99 ≡ y → (of_answer y.step.answer).refused ≡ false
      → Leads y rest w → Leads (asks_write t cs changed u s spare) (surface 0 [] ∷ (replicate 100 crc ++ rest)) w
  unfolding follows tried part_left status_left
  trial_fails e r l = answers t cs changed u ok noted_ok long (access.TrialWrite (trial s spare 0)) _ 0 [] (fits 0 (omega arith)) refl refl refl (hundred_fail 99 0 refl e r l)

-- THE SPARES

-- Returns the table with the next n unused spares dead.
abbrev killed_all : ℕ → Table → Table
killed_all zero t = t
killed_all (suc n) t = killed_all n (killed_next t)

-- Returns the causes with them.
abbrev noted_all : ℕ → Table → List ℕ → List ℕ
noted_all zero t cs = cs
noted_all (suc n) t cs = noted_all n (killed_next t) (causes_killed t 1 cs)

-- Holds the state with the run number one up, by the store.
abbrev numbered_one : Bool → Phase → State
numbered_one changed p = with_run (during changed p) 1

-- Holds what the command's last reread gives: the store is asked for, of a command that fails with CRC errors, no spare unused, E 255.
abbrev asks_store_lem : Table → List ℕ → List ℕ → Out
asks_store_lem t cs u =
    record {
      step = record { drive = record { table = t; causes = cs; state = numbered_one true (phase.Awaiting (access.Store (record { ending = ending.NoSpare; seen = record { errors = 255; crc = true; timeout = false } }))) }; answer = answer.Store };
      bytes = u;
    }

-- Holds what its end gives.
abbrev ended : Table → List ℕ → List ℕ → Out
ended t cs u =
    record { step = record { drive = record { table = t; causes = cs; state = numbered_one false phase.Idle }; answer = answer.Finished }; bytes = 0x09 ∷ 0x40 ∷ 0x00 ∷ 0xFF ∷ data_of u }

store_done : (t : Table) (cs : List ℕ) (u : List ℕ) → table_ok t ≡ true → causes_ok (take t.nspares cs) ≡ true → length u ≡ 536
    → step_of (surface 0 []) (asks_store_lem t cs u).step.drive u ≡ ended t cs u
unfolding step_of surface_of record_ok state_ok answered fitting follows store_answered part_left status_left status_of
store_done t cs u k kc h = rw (k, kc, eq-eqb (length u) 536 h)

killed_count : (t : Table) → t.nspares < 32 → (killed_next t).nspares ≡ t.nspares + 1
unfolding killed_next
killed_count t h = rw (lt-ltb t.nspares 32 h)

spare_ok : (n : ℕ) → n < 32 → (k : ℕ) → k ≤ 100 → trial_ok n (trial (spare_of n) true k) ≡ true
unfolding trial_ok
spare_ok n h k g = rw (lt-ltb (4928 + n) 9792 (omega arith), le-leb k 100 g, le-leb k k (omega arith), lt-ltb n 32 h, eq-eqb (4928 + n) (4928 + n) refl)

module _ (u : List ℕ) (long : length u ≡ 536) (t : Table) (cs : List ℕ) (changed : Bool) where
  -- The next unused spare is tried, or there is none.
  next_spare_lem : t.nspares + 1 < 32 → reread_failed t cs changed u (spare_of t.nspares) true 99 ≡ asks_write (killed_next t) (causes_killed t 1 cs) true u (spare_of (killed_next t).nspares) true
  unfolding follows checked last_after judged missed next_spare part_left status_left
  next_spare_lem h = rw (lt-ltb (t.nspares + 1) 32 h, killed_count t (omega arith))

  no_spare : t.nspares + 1 ≡ 32 → reread_failed t cs changed u (spare_of t.nspares) true 99 ≡ asks_store_lem (killed_next t) (causes_killed t 1 cs) u
  unfolding follows checked last_after judged missed next_spare finish part_left status_left
  no_spare h = rw (le-ltb (t.nspares + 1) 32 (omega arith))

  -- The trial of a spare that fails leads there.
  spare_fails : {rest : List Call} {y w : Out} → table_ok t ≡ true → causes_ok (take t.nspares cs) ≡ true → t.nspares < 32 → reread_failed t cs changed u (spare_of t.nspares) true 99 ≡ y
      → (of_answer y.step.answer).refused ≡ false → Leads y rest w → Leads (asks_write t cs changed u (spare_of t.nspares) true) (surface 0 [] ∷ (replicate 100 crc ++ rest)) w
  spare_fails ok kc h = trial_fails t cs changed u ok kc long (spare_of t.nspares) true (spare_ok t.nspares h)

killed_ok_then : (t : Table) (cs : List ℕ) → causes_ok (take t.nspares cs) ≡ true → length cs ≡ 32 → t.nspares < 32
    → causes_ok (take (killed_next t).nspares (causes_killed t 1 cs)) ≡ true
killed_ok_then t cs kc lc h =
    subst (λ (k : ℕ). causes_ok (take k (causes_killed t 1 cs)) ≡ true) (sym (killed_count t h)) (killed_causes_ok t 1 cs h lc (omega arith) kc)

spares_fail : (u : List ℕ) → length u ≡ 536 → (n : ℕ) (t : Table) (cs : List ℕ) (changed : Bool) → table_ok t ≡ true → Shaped t → causes_ok (take t.nspares cs) ≡ true → length cs ≡ 32 → t.nspares + suc n ≡ 32
    → Leads (asks_write t cs changed u (spare_of t.nspares) true) (trials (suc n)) (ended (killed_all (suc n) t) (noted_all (suc n) t cs) u)
spares_fail u long zero t cs changed ok s kc lc h =
    let kc' = killed_ok_then t cs kc lc (omega arith) in
    spare_fails u long t cs changed ok kc (omega arith) (no_spare u long t cs changed (omega arith)) refl
    (more {x = asks_store_lem (killed_next t) (causes_killed t 1 cs) u} refl (store_done (killed_next t) (causes_killed t 1 cs) u (killed_ok t s ok) kc' long) refl none)
spares_fail u long (suc n) t cs changed ok s kc lc h =
    let c = killed_count t (omega arith) in
    let kc' = killed_ok_then t cs kc lc (omega arith) in
    spare_fails u long t cs changed ok kc (omega arith) (next_spare_lem u long t cs changed (omega arith)) refl
    (spares_fail u long n (killed_next t) (causes_killed t 1 cs) true (killed_ok t s ok) (killed_shaped t s) kc' (killed_causes_length t 1 cs ∙ lc) (omega (arith, c)))

-- THE WHOLE READ

-- Holds what its end gives: every spare is dead, and the data part has what the good read brought.
abbrev final : Out
final = ended (killed_all 32 empty_table) (noted_all 32 empty_table no_causes) (lent 7)

from_the_present_sector : Leads (asks_write empty_table no_causes false (lent 7) (record { 0 = 0 }) false) (trials 33) final
unfolding follows checked last_after judged missed next_spare part_left status_left trial_ok
from_the_present_sector =
    trial_fails empty_table no_causes false (lent 7) empty_ok none_noted refl (record { 0 = 0 }) false (λ k h. rw (le-leb k 100 h, le-leb k k (omega arith))) refl refl
    (spares_fail (lent 7) refl 31 empty_table no_causes false empty_ok (refl, refl) none_noted refl refl)

from_the_good_read : Leads (asks_again (later 0 89 255)) (good ∷ trials 33) final
unfolding follows after_read goes_on_reading kept_part reads settled part_left over status_left
from_the_good_read =
    answers empty_table no_causes false (lent 1) empty_ok none_noted refl (access.Read (later 0 89 255)) _ 0 (brought 7) (later_ok 0 89 255 (omega arith) (omega arith)) refl refl refl from_the_present_sector

leads : Leads begun longest final
unfolding computed
leads =
    answers empty_table no_causes false (lent 0) empty_ok none_noted refl (access.Read (retry true 255 0 (record { errors = 0; crc = false; timeout = false }))) _ 1 (brought 1) refl refl refl refl
    (rereads_fail 255 0 refl (further_fail 89 0 refl from_the_good_read))

pub reached : accesses begun.step.drive begun.bytes longest ≡ 3680
reached = all_count_lem leads

-- There it ends: failed, no spare unused, E 255.
abbrev pub end : Out
end = run begun.step.drive begun.bytes longest

pub reached_end : Ended end (0x09 ∷ 0x40 ∷ 0x00 ∷ 0xFF ∷ [])
reached_end = subst (λ (y : Out). Ended y (0x09 ∷ 0x40 ∷ 0x00 ∷ 0xFF ∷ [])) (sym (leads_there leads)) (refl, refl)

pub every_spare_is_dead : spare_list end.step.drive.table ≡ replicate 32 dead
unfolding killed_next
every_spare_is_dead = subst (λ (y : Out). spare_list y.step.drive.table ≡ replicate 32 dead) (sym (leads_there leads)) refl

-- Applies the bound to it.
pub within_the_bound : Demand1Bound → accesses begun.step.drive begun.bytes longest ≤ 3680
unfolding computed
within_the_bound bound = bound begun.step.drive begun.bytes longest refl

-- WHAT IS COUNTED

-- Asks for the write of block 0, by a write or by a write/verify.
abbrev pub writing_by : ℕ → Out
writing_by op =
    run ready (replicate 536 0) (raise ∷ lower 0x55 ∷ feed (op ∷ 0 ∷ 0 ∷ 0 ∷ []) ∷ raise ∷ lower 0x55 ∷ feed (7 ∷ []) ∷ raise ∷ lower 0x55 ∷ [])

abbrev pub writing : Out
writing = writing_by 1

-- Asks for a store, at the end of a read that failed by eleven timeouts.
abbrev pub storing : Out
storing = reading 0 1 (replicate 11 timeout)

abbrev counts : Out → List Call → ℕ
counts x cs = accesses x.step.drive x.bytes cs

pub a_plain_write_is_one_access : counts writing (surface 0 [] ∷ raise ∷ surface 0 [] ∷ []) ≡ 1
unfolding computed accesses
a_plain_write_is_one_access = refl

pub a_write_verify_is_two_accesses : counts (writing_by 2) (surface 0 [] ∷ surface 0 (7 ∷ replicate 531 0) ∷ raise ∷ surface 0 [] ∷ []) ≡ 2
unfolding computed accesses
a_write_verify_is_two_accesses = refl

-- Three reads, the write of a trial and two of its rereads.
pub the_accesses_of_a_trial_are_counted : counts (reading 1 1 []) (crc ∷ crc ∷ good ∷ surface 0 [] ∷ timeout ∷ good ∷ []) ≡ 6
unfolding computed accesses
the_accesses_of_a_trial_are_counted = refl

-- Eleven rereads fail, then ten further reads by timeouts: only these spend anything. Then the store is awaited, which times out.
pub rereads_cost_nothing : counts (reading 11 1 []) (replicate 24 timeout) ≡ 23
unfolding computed accesses
rereads_cost_nothing = refl

-- An answer above 3, bytes of a wrong length and a call out of place come between.
pub refused_calls_are_not_counted : counts begun (crc ∷ surface 4 [] ∷ crc ∷ surface 0 [] ∷ crc ∷ raise ∷ crc ∷ []) ≡ 4
unfolding computed accesses
refused_calls_are_not_counted = refl

-- "one access more": the store is its command's, whatever it is answered; a write with nothing unstored has none. The start's reads
-- belong to no command.
pub a_store_is_one_access_of_its_command :
    (counts storing (surface 0 [] ∷ surface 0 [] ∷ []) ≡ 1) × (counts storing (surface 2 [] ∷ raise ∷ []) ≡ 1) × (counts storing (surface 3 [] ∷ []) ≡ 1) × (counts (reading 0 1 []) (replicate 12 timeout) ≡ 12)
unfolding computed accesses
a_store_is_one_access_of_its_command = (refl, refl, refl, refl)

pub the_reads_of_a_start_belong_to_no_command : accesses started (replicate 536 0) (surface 2 [] ∷ surface 2 [] ∷ []) ≡ 0
unfolding computed accesses
the_reads_of_a_start_belong_to_no_command = refl

-- Counts nothing where no access is awaited: in idle, at an offer, among command bytes and among data.
abbrev calm : List Call → Out
calm cs = run ready (replicate 536 0) cs

pub with_nothing_awaited_nothing_is_counted :
    (counts (calm []) (raise ∷ []) ≡ 0)
    × (counts (calm (raise ∷ [])) (lower 0x55 ∷ []) ≡ 0)
    × (counts (calm (raise ∷ lower 0x55 ∷ [])) (feed [] ∷ []) ≡ 0)
    × (counts (calm (raise ∷ lower 0x55 ∷ feed (1 ∷ 0 ∷ 0 ∷ 0 ∷ []) ∷ raise ∷ lower 0x55 ∷ [])) (feed [] ∷ []) ≡ 0)
unfolding computed accesses
with_nothing_awaited_nothing_is_counted = (refl, refl, refl, refl)

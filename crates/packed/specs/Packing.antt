-- The record as words, for C: 189 numbers of 16 bits, each with a meaning of its own. Two bytes share a word.
use Rattle.std.specs.Prelude.{Bool, true, false, cond, not, List, [], ◌∷◌, ◌++◌, ℕ, ◌+◌, ◌*◌, ◌/◌, ◌%◌, eqb, leb, take, drop, get_or}
use Rattle.table.specs.declared.Table.{Table}
use Rattle.drive.specs.declared.Drive.{Drive}
use Rattle.drive.specs.declared.State.{State}
use Rattle.drive.specs.declared.Marks.{Marks}
use Rattle.drive.specs.declared.Cause.{Cause}
use Rattle.drive.specs.declared.Cause.TheVariants as cause
use Rattle.drive.specs.declared.Offer.TheVariants as offer
use Rattle.drive.specs.declared.Ending.{Ending}
use Rattle.drive.specs.declared.Ending.TheVariants as ending
use Rattle.drive.specs.declared.Close.{Close}
use Rattle.drive.specs.declared.Access.{Access}
use Rattle.drive.specs.declared.Access.TheVariants as access
use Rattle.drive.specs.declared.Phase.{Phase}
use Rattle.drive.specs.declared.Phase.TheVariants as phase
use Rattle.drive.specs.declared.Seen.{Seen}
use Rattle.drive.specs.declared.Retry.{Retry}
use Rattle.drive.specs.declared.Target.{Target}
use Rattle.drive.specs.declared.Trial.{Trial}
use Rattle.drive.specs.Words.{response, cause_number}
use Rattle.packed.specs.declared.Stage.{Stage}

-- WORDS

-- Returns a flag as a word, and a word as a flag: one that is not 0 is true.
abbrev pub bit : Bool → ℕ
bit b = cond b 1 0

abbrev pub flag : ℕ → Bool
flag n = not (eqb n 0)

-- Returns two bytes as a word, and the bytes of a word.
abbrev pub pair : ℕ → ℕ → ℕ
pair a b = a + 256 * b

abbrev pub low : ℕ → ℕ
low n = n % 256

abbrev pub high : ℕ → ℕ
high n = n / 256

-- Returns a number as a word. No record that passes code 1 has a larger one.
abbrev pub word : ℕ → ℕ
word n = cond (leb n 65535) n 65535

-- Returns two words as a number of 32 bits.
abbrev pub long : ℕ → ℕ → ℕ
long a b = a + 65536 * b

-- Returns the three failures that a trial remembers as a word, and the cause of a number from 0 to 3.
abbrev pub remembered : Trial → ℕ
remembered r = cause_number r.last + 4 * cause_number r.before + 16 * cause_number r.present

abbrev pub cause_of : ℕ → Cause
cause_of n = cond (eqb n 0) cause.Unknown (cond (eqb n 1) cause.Crc (cond (eqb n 2) cause.Timeout cause.NoSettle))

-- Returns the number of an ending, in the order of the enum: no table on a read and on a write are two.
abbrev pub ending_number : Ending → ℕ
ending_number ending.Good = 0
ending_number ending.Moved = 1
ending_number ending.Failed = 2
ending_number ending.Overrun = 3
ending_number ending.NoNumber = 4
ending_number (ending.NoTable on_write) = cond on_write 6 5
ending_number ending.Latched = 7
ending_number ending.BadFull = 8
ending_number ending.NoSpare = 9

-- A PHASE AS A STAGE: its kind is 0 to 10, and what a phase does not have is 0. The detail of a store is the number of the ending that
-- waits for it. A trial's rereads are its detail, its failures are in spent, the three that it remembers in remembered; a write that
-- is read back is marked by first.

abbrev pub bare : ℕ → ℕ → Stage
bare k n =
    record { kind = k; detail = n; sector = 0; block = 0; remembered = 0; left = 0; errors = 0; spent = 0; threshold = 0; first = false; good = false; spare = false; crc = false; timeout = false }

abbrev pub store_stage : Close → Stage
store_stage k =
    record { kind = 5; detail = ending_number k.ending; sector = 0; block = 0; remembered = 0; left = 0; errors = k.seen.errors; spent = 0; threshold = 0; first = false; good = false; spare = false; crc = k.seen.crc; timeout = k.seen.timeout }

abbrev pub read_stage : Retry → Stage
read_stage r =
    record { kind = 6; detail = 0; sector = r.sector.0; block = r.block.0; remembered = 0; left = r.left; errors = r.seen.errors; spent = r.spent; threshold = r.threshold; first = r.first; good = r.good; spare = false; crc = r.seen.crc; timeout = r.seen.timeout }

abbrev pub target_stage : ℕ → Target → Stage
target_stage k w =
    record { kind = k; detail = 0; sector = w.sector.0; block = w.block.0; remembered = 0; left = 0; errors = 0; spent = 0; threshold = 0; first = w.verify; good = false; spare = false; crc = false; timeout = false }

abbrev pub trial_stage : ℕ → Trial → Stage
trial_stage k r =
    record { kind = k; detail = r.rereads; sector = r.sector.0; block = r.block.0; remembered = remembered r; left = 0; errors = r.seen.errors; spent = r.failures; threshold = 0; first = false; good = false; spare = r.spare; crc = r.seen.crc; timeout = r.seen.timeout }

abbrev pub access_stage : Access → Stage
access_stage (access.Start k) = bare 4 k
access_stage (access.Store k) = store_stage k
access_stage (access.Read r) = read_stage r
access_stage (access.Write w) = target_stage 7 w
access_stage (access.Verify w) = target_stage 8 w
access_stage (access.TrialWrite r) = trial_stage 9 r
access_stage (access.TrialRead r) = trial_stage 10 r

abbrev pub stage_of : Phase → Stage
stage_of phase.Idle = bare 0 0
stage_of (phase.Offered o) = bare 1 (response o)
stage_of phase.Command = bare 2 0
stage_of phase.Data = bare 3 0
stage_of (phase.Awaiting x) = access_stage x

-- A STAGE AS A PHASE. A kind, an offer or an ending that there is not becomes a start that asked for 255 reads, which code 1 refuses.

abbrev pub damaged : Phase
damaged = phase.Awaiting (access.Start 255)

abbrev pub offered : ℕ → Phase
offered n =
    cond (eqb n 0x01) (phase.Offered offer.Command)
    (cond (eqb n 0x02) (phase.Offered offer.Read)
    (cond (eqb n 0x03) (phase.Offered offer.Write)
    (cond (eqb n 0x04) (phase.Offered offer.Verify) (cond (eqb n 0x06) (phase.Offered offer.Act) damaged))))

abbrev pub seen_of : Stage → Seen
seen_of s = record { errors = s.errors; crc = s.crc; timeout = s.timeout }

abbrev pub closing : Ending → Stage → Phase
closing e s = phase.Awaiting (access.Store (record { ending = e; seen = seen_of s }))

abbrev pub storing : Stage → Phase
storing s =
    cond (eqb s.detail 0) (closing ending.Good s)
    (cond (eqb s.detail 1) (closing ending.Moved s)
    (cond (eqb s.detail 2) (closing ending.Failed s)
    (cond (eqb s.detail 3) (closing ending.Overrun s)
    (cond (eqb s.detail 4) (closing ending.NoNumber s)
    (cond (eqb s.detail 5) (closing (ending.NoTable false) s)
    (cond (eqb s.detail 6) (closing (ending.NoTable true) s)
    (cond (eqb s.detail 7) (closing ending.Latched s)
    (cond (eqb s.detail 8) (closing ending.BadFull s) (cond (eqb s.detail 9) (closing ending.NoSpare s) damaged)))))))))

abbrev pub retry_of : Stage → Retry
retry_of s =
    record { block = record { 0 = s.block }; sector = record { 0 = s.sector }; first = s.first; left = s.left; spent = s.spent; threshold = s.threshold; good = s.good; seen = seen_of s }

abbrev pub target_of : Stage → Target
target_of s = record { block = record { 0 = s.block }; sector = record { 0 = s.sector }; verify = s.first }

abbrev pub trial_of : Stage → Trial
trial_of s =
    record { block = record { 0 = s.block }; sector = record { 0 = s.sector }; spare = s.spare; rereads = s.detail; failures = s.spent; seen = seen_of s; last = cause_of (s.remembered % 4); before = cause_of (s.remembered / 4 % 4); present = cause_of (s.remembered / 16 % 4) }

abbrev pub phase_of : Stage → Phase
phase_of s =
    cond (eqb s.kind 0) phase.Idle
    (cond (eqb s.kind 1) (offered s.detail)
    (cond (eqb s.kind 2) phase.Command
    (cond (eqb s.kind 3) phase.Data
    (cond (eqb s.kind 4) (phase.Awaiting (access.Start s.detail))
    (cond (eqb s.kind 5) (storing s)
    (cond (eqb s.kind 6) (phase.Awaiting (access.Read (retry_of s)))
    (cond (eqb s.kind 7) (phase.Awaiting (access.Write (target_of s)))
    (cond (eqb s.kind 8) (phase.Awaiting (access.Verify (target_of s)))
    (cond (eqb s.kind 9) (phase.Awaiting (access.TrialWrite (trial_of s)))
    (cond (eqb s.kind 10) (phase.Awaiting (access.TrialRead (trial_of s))) damaged))))))))))

-- PACKING

-- Returns the 23 words of a state.
abbrev pub state_words : Marks → Stage → State → List ℕ
state_words m s l =
    bit m.known ∷ bit m.changed ∷ bit m.latch ∷ bit m.fresh
    ∷ pair s.kind s.detail ∷ word s.sector ∷ s.block ∷ pair s.left s.errors ∷ pair s.spent s.threshold
    ∷ bit s.first ∷ bit s.good ∷ bit s.spare ∷ bit s.crc ∷ bit s.timeout ∷ word l.count ∷ word l.fed
    ∷ pair (get_or l.command 0 0) (get_or l.command 1 0) ∷ pair (get_or l.command 2 0) (get_or l.command 3 0)
    ∷ pair (get_or l.command 4 0) (get_or l.command 5 0) ∷ s.remembered ∷ l.run % 65536 ∷ l.run / 65536 ∷ bit m.moved ∷ []

unfoldable pub pack_state : State → List ℕ
pack_state l = state_words l.marks (stage_of l.phase) l

-- Returns the 134 words of a table.
unfoldable pub pack_table : Table → List ℕ
pack_table t = word t.nspares ∷ word t.nbads ∷ (t.spares ++ t.bads)

unfoldable pub pack_of : Drive → List ℕ
pack_of d = pack_state d.state ++ (pack_table d.table ++ d.causes)

-- UNPACKING

abbrev pub marks_at : List ℕ → Marks
marks_at w = record { known = flag (get_or w 0 0); changed = flag (get_or w 1 0); moved = flag (get_or w 22 0); latch = flag (get_or w 2 0); fresh = flag (get_or w 3 0) }

abbrev pub stage_at : List ℕ → Stage
stage_at w =
    record {
      kind = low (get_or w 4 0);
      detail = high (get_or w 4 0);
      sector = get_or w 5 0;
      block = get_or w 6 0;
      remembered = get_or w 19 0;
      left = low (get_or w 7 0);
      errors = high (get_or w 7 0);
      spent = low (get_or w 8 0);
      threshold = high (get_or w 8 0);
      first = flag (get_or w 9 0);
      good = flag (get_or w 10 0);
      spare = flag (get_or w 11 0);
      crc = flag (get_or w 12 0);
      timeout = flag (get_or w 13 0);
    }

abbrev pub command_at : List ℕ → List ℕ
command_at w = low (get_or w 16 0) ∷ high (get_or w 16 0) ∷ low (get_or w 17 0) ∷ high (get_or w 17 0) ∷ low (get_or w 18 0) ∷ high (get_or w 18 0) ∷ []

unfoldable pub state_at : List ℕ → State
state_at w = record { phase = phase_of (stage_at w); marks = marks_at w; command = command_at w; count = get_or w 14 0; fed = get_or w 15 0; run = long (get_or w 20 0) (get_or w 21 0) }

abbrev pub spares_at : List ℕ → List ℕ
spares_at w = take 32 (drop 25 w)

abbrev pub bads_at : List ℕ → List ℕ
bads_at w = take 100 (drop 57 w)

abbrev pub causes_at : List ℕ → List ℕ
causes_at w = take 32 (drop 157 w)

unfoldable pub table_at : List ℕ → Table
table_at w = record { spares = spares_at w; bads = bads_at w; nspares = get_or w 23 0; nbads = get_or w 24 0 }

abbrev pub unpack_of : List ℕ → Drive
unpack_of w = record { table = table_at w; causes = causes_at w; state = state_at w }

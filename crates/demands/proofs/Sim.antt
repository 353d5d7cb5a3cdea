-- The invariant between the world (record, buffer, sectors) and the history, and what one call has to keep.
use mathlib.Core.Path.{◌≡◌, refl, sym, ◌∙◌}
use mathlib.Core.Bool.{Bool, true, false, cond}
use mathlib.Core.Logic.{◌⊎◌}
use mathlib.Core.List.{List, []}
use Prim.Native.Nat.{ℕ, ◌≤◌, ◌<◌}
use native.Mathlib.Omega.{arith}
use lib.ListN.{length}
use Rattle.geometry.specs.Geometry.{is_block, spare_of, table_sector}
use Rattle.geometry.specs.declared.Block.{Block}
use Rattle.geometry.specs.declared.Sector.{Sector}
use Rattle.logic.proofs.Bools.{clash}
use Rattle.table.specs.declared.Table.{Table}
use Rattle.table.specs.Tables.{spare_list, sector_of, Shaped, table_ok}
use Rattle.table.proofs.Placing.{sectors_apart}
use Rattle.image.specs.Images.{well_formed, table_of}
use Rattle.drive.specs.declared.State.{State}
use Rattle.drive.specs.declared.Marks.{Marks}
use Rattle.drive.specs.declared.Retry.{Retry}
use Rattle.drive.specs.declared.Target.{Target}
use Rattle.drive.specs.declared.Trial.{Trial}
use Rattle.drive.specs.declared.Ending.{Ending}
use Rattle.drive.specs.declared.Close.{Close}
use Rattle.drive.specs.declared.Offer.TheVariants as offer
use Rattle.drive.specs.declared.Access.{Access}
use Rattle.drive.specs.declared.Access.TheVariants as access
use Rattle.drive.specs.declared.Phase.{Phase}
use Rattle.drive.specs.declared.Phase.TheVariants as phase
use Rattle.drive.specs.declared.Answer.{Answer}
use Rattle.drive.specs.declared.Answer.TheVariants as answer
use Rattle.drive.specs.declared.Refusal.{Refusal}
use Rattle.drive.specs.Words.{data_of, number_of, kind_of, is_read, fails}
use Rattle.drive.specs.Results.{Out, part_left, status_left, out_of, refuse}
use Rattle.drive.specs.Calls.{Call}
use Rattle.drive.specs.History.{held, Sectors, Entry, History, In, put, padded, next, Fits, Apart}
use Rattle.drive.specs.Surface.{target}
use Rattle.drive.specs.Run.{Event, call, World, after, Permits}
use Rattle.drive.specs.Cuts.{good_report}
use Rattle.drive.specs.Views.{Bytes, Where, nowhere, at, of_answer}
use Rattle.demands.proofs.Parts.{Prefix, Cmd}
use Rattle.demands.proofs.Statuses.{is_move}

-- Returns a state, a world, a history, written out.
abbrev pub state_of : Phase → Marks → Bytes → ℕ → ℕ → ℕ → State
state_of p mk c n f rn = record { phase = p; marks = mk; command = c; count = n; fed = f; run = rn }

abbrev pub world_of : Table → Bytes → State → Bytes → Sectors → Answer → World
world_of t cs l u σ a = record { drive = record { table = t; causes = cs; state = l }; buffer = u; sectors = σ; asked = a }

abbrev pub history_of : (Block → Where) → (Block → List Bytes) → Answer → Bytes → Bytes → Bool → Bool → Bool → Where → Bool → Bool → History
history_of pl ca a h fd ac to wr lr ln fn =
    record { place = pl; candidates = ca; last = a; command = h; fed = fd; acting = ac; touched = to; wrote = wr; last_read = lr; learned = ln; found = fn }

abbrev pub Blocky : Block → Type 0
Blocky b = is_block b.0 ≡ true

abbrev pub place_of : Table → Block → Sector
place_of t b = sector_of (spare_list t) b

-- THE STORED TABLE, with the spare list l', beside the table in the record, with the spare list l: says that the stored one is the
-- older. It has no more entries, and a sector that is some block's by l' and some block's by l is the same block's. What the
-- sectors of l' hold are candidates too, since a start may read that table again. While no block's place is unstored (mv) the two
-- agree.
pub record Older (l' l : List ℕ) (σ : Sectors) (ca : Block → List Bytes) (also : Block → Bytes → Type 0) (mv : Bool) : Type 0 where
  pub fewer : length l' ≤ length l
  pub keeps : (b : Block) (y : Bytes) → Blocky b → σ (sector_of l' b) ≡ held y → In y (ca b) ⊎ also b y
  pub cross : (b n : Block) → Blocky b → Blocky n → sector_of l' b ≡ sector_of l n → b ≡ n
  pub same : mv ≡ false → (b : Block) → Blocky b → sector_of l' b ≡ sector_of l b

-- THE BOOKS: says that each block is where the table puts it, and that what its sector holds is a candidate, or an exception; and
-- so it is with the stored table, if it can be read. mv: some block's place is unstored.
pub record Books (t : Table) (σ : Sectors) (pl : Block → Where) (ca : Block → List Bytes) (also : Block → Bytes → Type 0) (mv : Bool) : Type 0 where
  pub shaped : Shaped t
  pub short : length (spare_list t) ≤ 32
  pub where_is : (b : Block) → Blocky b → pl b ≡ at (place_of t b)
  pub kept : (b : Block) (y : Bytes) → Blocky b → σ (place_of t b) ≡ held y → In y (ca b) ⊎ also b y
  pub older : (i : Bytes) → σ table_sector ≡ held i → well_formed i ≡ true → Older (spare_list (table_of i)) (spare_list t) σ ca also mv

abbrev pub Quiet : Block → Bytes → Type 0
Quiet b y = ⊥

-- Names the exception while a command is under way that may have written: its own bytes, at its own block.
abbrev pub Own : Block → Bytes → Block → Bytes → Type 0
Own n x b y = (b.0 ≡ n.0) × (y ≡ x)

-- WITHOUT A TABLE, before an image was read since the last start: before the first of all (ln) the sectors are those of the
-- beginning. After it, whatever image a start may read, what its sectors hold are candidates.
pub record Unread (start σ : Sectors) (pl : Block → Where) (ca : Block → List Bytes) (ln : Bool) : Type 0 where
  pub apart : Apart pl
  pub untouched : ln ≡ false → σ ≡ start
  pub safe : ln ≡ true → (i : Bytes) → σ table_sector ≡ held i → well_formed i ≡ true → (b : Block) (y : Bytes) → Blocky b → σ (place_of (table_of i) b) ≡ held y → In y (ca b)

-- Says that with a table known its books hold, and that without one there is nothing to hold. ln, fn: an image was read in the
-- list, and since the last start.
pub record Ground (start : Sectors) (known mv : Bool) (t : Table) (σ : Sectors) (pl : Block → Where) (ca : Block → List Bytes) (ln fn : Bool) : Type 0 where
  pub tabled : known ≡ true → Books t σ pl ca Quiet mv
  pub tableless : known ≡ false → Unread start σ pl ca ln
  pub learnt : known ≡ true → ln ≡ true
  pub found : known ≡ true → fn ≡ true

-- Says that a place that is unstored is an unstored change.
abbrev pub Sound : Marks → Type 0
Sound mk = mk.moved ≡ true → mk.changed ≡ true

-- Lists what may be between commands: phase, command bytes, their count, data count; last answer, bytes fed, data fed.
pub data Shake (u : Bytes) : Phase → Bytes → ℕ → ℕ → Answer → Bytes → Bytes → Type 0 where
  resting : {c : Bytes} {n f : ℕ} {a : Answer} {h fd : Bytes} → target a ≡ nowhere → (of_answer a).read ≡ nowhere → Shake u phase.Idle c n f a h fd
  offer1 : {c : Bytes} {f : ℕ} {fd : Bytes} → Shake u (phase.Offered offer.Command) c 0 f (answer.Offer offer.Command) [] fd
  heads : {c : Bytes} {n f : ℕ} {h fd : Bytes} → Prefix 6 6 c n h → Shake u phase.Command c n f answer.Wait h fd
  offer2 : {c : Bytes} {n : ℕ} {h fd : Bytes} → Cmd c h → is_read (kind_of c) ≡ true → Shake u (phase.Offered offer.Read) c n 0 (answer.Offer offer.Read) h fd
  offer3 : {c : Bytes} {n : ℕ} {h : Bytes} → Cmd c h → is_read (kind_of c) ≡ false → Shake u (phase.Offered offer.Write) c n 0 (answer.Offer offer.Write) h []
  offer4 : {c : Bytes} {n : ℕ} {h : Bytes} → Cmd c h → is_read (kind_of c) ≡ false → Shake u (phase.Offered offer.Verify) c n 0 (answer.Offer offer.Verify) h []
  takes : {c : Bytes} {n f : ℕ} {h fd : Bytes} → Cmd c h → is_read (kind_of c) ≡ false → Prefix 532 533 (data_of u) f fd → Shake u phase.Data c n f answer.Wait h fd
  offer6 : {c : Bytes} {n f : ℕ} {h fd : Bytes} → Cmd c h → is_read (kind_of c) ≡ false → data_of u ≡ padded fd
      → Shake u (phase.Offered offer.Act) c n f (answer.Offer offer.Act) h fd

-- Says that what the history will take for the command's bytes is the data part. rd: the command is a read.
pub record Bound (ca : Block → List Bytes) (b : Block) (rd : Bool) (u mine : Bytes) : Type 0 where
  pub as_read : rd ≡ true → In (data_of u) (ca b)
  pub as_write : rd ≡ false → data_of u ≡ mine

-- Says that a trial is on the block's present sector, or on the next unused spare.
pub record Spot (t : Table) (b : Block) (r : Trial) : Type 0 where
  pub present : r.spare ≡ false → r.sector ≡ place_of t b
  pub aside : r.spare ≡ true → (t.nspares < 32) × (r.sector ≡ spare_of t.nspares)

-- Says that a sector holds the data part, or is unreadable: a write of it was done there.
abbrev pub Sole : Sectors → Sector → Bytes → Type 0
Sole σ s u = (y : Bytes) → σ s ≡ held y → y ≡ data_of u

-- Lists what may be while a command is under way: the access, what is asked, wrote, last read.
pub data Work (t : Table) (σ : Sectors) (pl : Block → Where) (ca : Block → List Bytes) (mv : Bool) (b : Block) (rd : Bool) (u mine : Bytes) : Access → Answer → Bool → Where → Type 0 where
  rereads : {r : Retry} {s : Sector} {wr : Bool} {lr : Where} → r.block ≡ b → r.sector ≡ s → s ≡ place_of t b → rd ≡ true → (r.good ≡ true → σ s ≡ held (data_of u))
      → Books t σ pl ca Quiet mv → Work t σ pl ca mv b rd u mine (access.Read r) (answer.Read s) wr lr
  writing : {w : Target} {s : Sector} {wr : Bool} {lr : Where} → wr ≡ true → w.block ≡ b → w.sector ≡ s → s ≡ place_of t b → rd ≡ false → data_of u ≡ mine
      → Books t σ pl ca Quiet mv → Work t σ pl ca mv b rd u mine (access.Write w) (answer.Write s) wr lr
  verifying : {w : Target} {s : Sector} {wr : Bool} {lr : Where} → wr ≡ true → lr ≡ at s → w.block ≡ b → w.sector ≡ s → s ≡ place_of t b → rd ≡ false → data_of u ≡ mine
      → Sole σ s u → Books t σ pl ca (Own b (data_of u)) mv → Work t σ pl ca mv b rd u mine (access.Verify w) (answer.Read s) wr lr
  trying : {r : Trial} {s : Sector} {wr : Bool} {lr : Where} → wr ≡ true → r.block ≡ b → r.sector ≡ s → Spot t b r → Bound ca b rd u mine
      → Books t σ pl ca (Own b (data_of u)) mv → Work t σ pl ca mv b rd u mine (access.TrialWrite r) (answer.Write s) wr lr
  checking : {r : Trial} {s : Sector} {wr : Bool} {lr : Where} → wr ≡ true → lr ≡ at s → r.block ≡ b → r.sector ≡ s → Spot t b r → Bound ca b rd u mine
      → Sole σ s u → Books t σ pl ca (Own b (data_of u)) mv → Work t σ pl ca mv b rd u mine (access.TrialRead r) (answer.Read s) wr lr

-- A COMMAND AT ITS END, while its store is awaited, whatever will be reported of it. The places are those that the history will have
-- once the finish tells of a move.
abbrev pub placed : Bool → Block → Where → (Block → Where) → Block → Where
placed m b lr pl = cond m (put pl b lr) pl

-- Says that nothing that was written is owed to the history, or that a write's own bytes are, which it will add.
pub data Owes (t : Table) (σ : Sectors) (pl : Block → Where) (ca : Block → List Bytes) (mv : Bool) (b : Block) (rd : Bool) (u mine : Bytes) (wr : Bool) : Type 0 where
  nothing : (rd ≡ true) ⊎ (wr ≡ false) → Books t σ pl ca Quiet mv → Owes t σ pl ca mv b rd u mine wr
  bytes : wr ≡ true → rd ≡ false → data_of u ≡ mine → Books t σ pl ca (Own b (data_of u)) mv → Owes t σ pl ca mv b rd u mine wr

-- Says so, and what it will report if it is good.
pub record Closing (t : Table) (σ : Sectors) (pl : Block → Where) (ca : Block → List Bytes) (mv : Bool) (b : Block) (rd : Bool) (u mine : Bytes) (e : Ending) (wr : Bool) (lr : Where) : Type 0 where
  pub owes : Owes t σ (placed (is_move e) b lr pl) ca mv b rd u mine wr
  pub as_read : fails e ≡ false → rd ≡ true → In (data_of u) (ca b)
  pub as_write : fails e ≡ false → rd ≡ false → data_of u ≡ mine
  pub sole : fails e ≡ false → Sole σ (place_of t b) u

-- THE INVARIANT: lists what record, buffer, sectors and history may be together.
pub data Sim (start : Sectors) : World → History → Type 0 where
  at_start : {t : Table} {cs : Bytes} {mk : Marks} {c : Bytes} {n f k rn : ℕ} {u : Bytes} {σ : Sectors} {pl : Block → Where} {ca : Block → List Bytes} {h fd : Bytes} {to wr : Bool} {lr : Where} {ln fn : Bool}
      → length c ≡ 6 → mk.known ≡ false → mk.moved ≡ false → Unread start σ pl ca ln
      → Sim start (world_of t cs (state_of (phase.Awaiting (access.Start k)) mk c n f rn) u σ (answer.Read table_sector)) (history_of pl ca (answer.Read table_sector) h fd false to wr lr ln fn)
  at_rest : {t : Table} {cs : Bytes} {mk : Marks} {c : Bytes} {n f rn : ℕ} {p : Phase} {u : Bytes} {σ : Sectors} {a : Answer} {pl : Block → Where} {ca : Block → List Bytes} {h fd : Bytes} {to wr : Bool} {lr : Where} {ln fn : Bool}
      → length c ≡ 6 → Sound mk → Ground start mk.known mk.moved t σ pl ca ln fn → Shake u p c n f a h fd → Sim start (world_of t cs (state_of p mk c n f rn) u σ a) (history_of pl ca a h fd false to wr lr ln fn)
  at_work : {t : Table} {cs : Bytes} {mk : Marks} {c : Bytes} {n f rn : ℕ} {x : Access} {u : Bytes} {σ : Sectors} {a : Answer} {pl : Block → Where} {ca : Block → List Bytes} {h fd : Bytes} {wr : Bool} {lr : Where} {ln fn : Bool} {b : Block} {rd : Bool}
      → length c ≡ 6 → mk.known ≡ true → Sound mk → ln ≡ true → fn ≡ true → Blocky b → number_of h ≡ b.0 → is_read (kind_of h) ≡ rd → Work t σ pl ca mk.moved b rd u (padded fd) x a wr lr
      → Sim start (world_of t cs (state_of (phase.Awaiting x) mk c n f rn) u σ a) (history_of pl ca a h fd true true wr lr ln fn)
  at_store : {t : Table} {cs : Bytes} {mk : Marks} {c : Bytes} {n f rn : ℕ} {k : Close} {u : Bytes} {σ : Sectors} {pl : Block → Where} {ca : Block → List Bytes} {h fd : Bytes} {to wr : Bool} {lr : Where} {ln fn : Bool} {b : Block} {rd : Bool}
      → length c ≡ 6 → mk.known ≡ true → Sound mk → ln ≡ true → fn ≡ true → Blocky b → number_of h ≡ b.0 → is_read (kind_of h) ≡ rd → table_ok t ≡ true → Apart pl
      → Closing t σ pl ca mk.moved b rd u (padded fd) k.ending wr lr
      → Sim start (world_of t cs (state_of (phase.Awaiting (access.Store k)) mk c n f rn) u σ answer.Store) (history_of pl ca answer.Store h fd true to wr lr ln fn)

-- WHAT A CALL HAS TO KEEP, as a property of its result. What an entry keeps is that it fits, and that a good report comes after a
-- table was read.
pub record Kept (H : History) (o : Entry) : Type 0 where
  pub fits : Fits H o
  pub tabled : good_report H o ≡ true → H.found ≡ true

abbrev pub entry_of : Event → Out → Entry
entry_of e x = record { call = e.call; answer = x.step.answer; buffer = x.bytes }

abbrev pub Good : Sectors → World → History → Event → Out → Type 0
Good start w H e x = Permits w (call e) x → Kept H (entry_of e x) × Sim start (after w (call e) x) (next start H (entry_of e x))

abbrev pub ev : Call → Bool → Event
ev c sp = record { call = c; spoils = sp }

-- A refusal keeps all.
pub declined : {start : Sectors} {t : Table} {cs : Bytes} {l : State} {u : Bytes} {σ : Sectors} {a : Answer} {H : History} (c : Call) (sp : Bool) (r : Refusal) (bs : Bytes)
    → Sim start (world_of t cs l u σ a) H → Good start (world_of t cs l u σ a) H (ev c sp) (out_of t cs bs u (refuse r l))
unfolding next part_left status_left
declined c sp r bs m = λ ok. (record { fits = record { read_rule = λ x. clash x refl; first_rule = λ x. clash x refl }; tabled = λ x. clash x refl }, m)

-- NO TWO BLOCKS ARE AT ONE SECTOR, by the invariant.
pub at_inj : {a b : Sector} → at a ≡ at b → a ≡ b
at_inj e = cc

not_at : {s : Sector} → nowhere ≡ at s → ⊥
not_at e = let z : ◌≡◌ {A = ℕ} 0 1 = cc in omega arith

pub books_apart : {t : Table} {σ : Sectors} {pl : Block → Where} {ca : Block → List Bytes} {also : Block → Bytes → Type 0} {mv : Bool} → Books t σ pl ca also mv → Apart pl
books_apart {t} k b c s ib ic eb ec = sectors_apart (spare_list t) b c k.short (at_inj (sym (k.where_is b ib) ∙ (eb ∙ (sym ec ∙ k.where_is c ic))))

pub work_apart : {t : Table} {σ : Sectors} {pl : Block → Where} {ca : Block → List Bytes} {mv : Bool} {b : Block} {rd : Bool} {u mine : Bytes} {p : Access} {a : Answer} {wr : Bool} {lr : Where}
    → Work t σ pl ca mv b rd u mine p a wr lr → Apart pl
work_apart (rereads eb es ep o g k) = books_apart k
work_apart (writing w eb er e o g k) = books_apart k
work_apart (verifying w l eb er e o g h k) = books_apart k
work_apart (trying w eb e o g k) = books_apart k
work_apart (checking w l eb e o g h k) = books_apart k

pub none_apart : {pl : Block → Where} → ((b : Block) → pl b ≡ nowhere) → Apart pl
none_apart h b c s ib ic eb ec = absurd (not_at (sym (h b) ∙ eb))

ground_apart : {start : Sectors} {known mv : Bool} {t : Table} {σ : Sectors} {pl : Block → Where} {ca : Block → List Bytes} {ln fn : Bool} → Ground start known mv t σ pl ca ln fn → Apart pl
ground_apart {known = known} {pl = pl} g = go known refl
  where
    go : (q : Bool) → known ≡ q → Apart pl
    go true q = books_apart (g.tabled q)
    go false q = (g.tableless q).apart

pub sim_apart : {start : Sectors} {w : World} {H : History} → Sim start w H → Apart H.place
sim_apart (at_start l k v g) = g.apart
sim_apart (at_rest l v g m) = ground_apart g
sim_apart (at_work l k v el ef i n r m) = work_apart m
sim_apart (at_store l k v el ef i n r o a m) = a

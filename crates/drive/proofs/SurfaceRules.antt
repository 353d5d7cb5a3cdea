-- The surface's rules forbid something, and not too much: lists of calls and starts that are not lawful, and some that are.
use mathlib.Core.Path.{◌≡◌, refl, ap, sym}
use mathlib.Core.Bool.{Bool, true, false}
use mathlib.Core.List.{List, [], ◌∷◌, ◌++◌}
use Prim.Native.Nat.{ℕ}
use lib.ListN.{get_or, replicate}
use Rattle.logic.proofs.Bools.{clash}
use Rattle.image.specs.FormA.{form_a}
use Rattle.image.specs.FormB.{form_b}
use Rattle.drive.specs.declared.Drive.{Drive}
use Rattle.drive.specs.Calls.{raise, surface, started, start_of}
use Rattle.drive.specs.History.{Content, held, unreadable, Sectors}
use Rattle.drive.specs.Run.{Moment, power, World, after, Permits, made, Lawful, begins}
use Rattle.drive.specs.Surface.{Fate, old, new, spoiled}
use Rattle.drive.specs.Views.{Bytes}
use Rattle.drive.proofs.Computing.{computed}
use Rattle.drive.proofs.Lasts.{AtLast, at_last, differ}
use Rattle.drive.proofs.Transcripts.{Exchange, ◌⇒◌, ◌⇏◌, cuts, wait, read, write, store, finished, refused, moments, bytes, disk, go, done, gives, garbles, times_out, found, opens, asks_read, asks_write, ten_timeouts, unsettled}

-- Says what the rules ask at a call, and at the last one of a list.
abbrev goes_to : World → Moment → World
goes_to w m = after w m (made w m)

abbrev Asks : World → Moment → Type 0
Asks w m = Permits w m (made w m)

last_asks : (w : World) (ms : List Moment) → Lawful w ms → AtLast goes_to Asks w ms
last_asks w ms a = at_last goes_to Asks Lawful (λ w m ms a. a.0) (λ w m ms a. a.1) w ms a

abbrev first_byte : Content → ℕ
first_byte (held x) = get_or x 0 0
first_byte unreadable = 0

abbrev is_held : Content → Bool
is_held (held x) = true
is_held unreadable = false

not_held : (x : List ℕ) → unreadable ≡ held x → ⊥
not_held x e = clash refl (sym (ap is_held e))

abbrev from : Drive → Sectors → World
from given sectors = begins (start_of given (replicate 536 1)) sectors

abbrev LawfulRun : Drive → Sectors → List Exchange → Type 0
LawfulRun given sectors ts = Lawful (from given sectors) (moments ts)

-- Holds sevens in every sector but the table's, which has empty lists.
abbrev sevens : Sectors
sevens = disk [] []

-- Asks for a read of block 17.
abbrev read_of17 : List Exchange
read_of17 = opens ++ asks_read 17 2 2 ++ (go ⇒ read 17 ∷ [])

-- NOT LAWFUL

-- Nobody wrote the nines.
abbrev lies : List Exchange
lies = found [] [] ++ read_of17 ++ (gives 9 ⇒ finished 0x00 0x00 0x80 0 ∷ [])

pub answer_0_with_other_bytes : (given : Drive) → LawfulRun given sevens lies → ⊥
unfolding computed
answer_0_with_other_bytes given l = differ 7 9 refl (ap first_byte l.1.1.1.1.1.1.0)

-- So they do not come to the start's read of 4960 either.
abbrev sevens_alone : Sectors
sevens_alone = λ s. held (bytes 7)

pub answer_0_with_other_bytes_at_the_start : (given : Drive) → LawfulRun given sevens_alone (gives 9 ⇒ read 4960 ∷ []) → ⊥
unfolding computed
answer_0_with_other_bytes_at_the_start given l = differ 7 9 refl (ap first_byte l.0)

-- The write done left its bytes, so the old ones cannot come.
abbrev stale_answer : List Exchange
stale_answer =
    found [] [] ++ opens ++ asks_write 1 17 (bytes 1) ++ (go ⇒ write 17 ∷ done ⇒ finished 0x00 0x00 0x80 0 ∷ [])
    ++ read_of17 ++ (gives 7 ⇒ finished 0x00 0x00 0x00 0 ∷ [])

pub answer_0_with_old_bytes : (given : Drive) → LawfulRun given sevens stale_answer → ⊥
unfolding computed
answer_0_with_old_bytes given l = differ 1 7 refl (ap first_byte (last_asks (from given sevens) (moments stale_answer) l))

-- A write that timed out left the sector. The block is read there again, since the spare's write was answered 3.
abbrev late_answer : List Exchange
late_answer =
    found [] [] ++ opens ++ asks_write 1 17 (bytes 1) ++ (go ⇒ write 17 ∷ times_out ⇒ write 4928 ∷ unsettled ⇒ finished 0x15 0x00 0x80 0 ∷ [])
    ++ read_of17 ++ (gives 1 ⇒ finished 0x00 0x00 0x00 0 ∷ [])

pub answer_0_with_the_bytes_of_a_timeout : (given : Drive) → LawfulRun given sevens late_answer → ⊥
unfolding computed
answer_0_with_the_bytes_of_a_timeout given l = differ 7 1 refl (ap first_byte (last_asks (from given sevens) (moments late_answer) l))

-- The write done left an unreadable sector.
abbrev unreadable_answer : List Exchange
unreadable_answer =
    found [] [] ++ opens ++ asks_write 1 17 (bytes 1) ++ (go ⇒ write 17 ∷ done ⇏ finished 0x00 0x00 0x80 0 ∷ [])
    ++ read_of17 ++ (gives 1 ⇒ finished 0x00 0x00 0x00 0 ∷ [])

pub answer_0_from_an_unreadable_sector : (given : Drive) → LawfulRun given sevens unreadable_answer → ⊥
unfolding computed
answer_0_from_an_unreadable_sector given l = not_held (bytes 1) (last_asks (from given sevens) (moments unreadable_answer) l)

-- A CUT LEAVES A PENDING WRITE'S SECTOR OLD, NEW OR UNREADABLE, and nothing else

-- Cuts a write of ones to block 17 with its sector left so. Then a start reads the table, and this byte is read at 17.
abbrev cut_then : Fate → ℕ → List Exchange
cut_then f v =
    found [] [] ++ opens ++ asks_write 1 17 (bytes 1) ++ (go ⇒ write 17 ∷ cuts f ∷ []) ++ found [] []
    ++ read_of17 ++ (gives v ⇒ finished 0x00 0x00 0x80 0 ∷ [])

pub a_cut_write_brings_nothing_else :
    (given : Drive)
    → (LawfulRun given sevens (cut_then old 1) → ⊥)
    × (LawfulRun given sevens (cut_then new 7) → ⊥)
    × (LawfulRun given sevens (cut_then new 9) → ⊥)
    × (LawfulRun given sevens (cut_then spoiled 1) → ⊥)
    × (LawfulRun given sevens (cut_then spoiled 7) → ⊥)
unfolding computed
a_cut_write_brings_nothing_else given = (
  λ l. differ 7 1 refl (ap first_byte (last_asks (from given sevens) (moments (cut_then old 1)) l)),
  λ l. differ 1 7 refl (ap first_byte (last_asks (from given sevens) (moments (cut_then new 7)) l)),
  λ l. differ 1 9 refl (ap first_byte (last_asks (from given sevens) (moments (cut_then new 9)) l)),
  λ l. not_held (bytes 1) (last_asks (from given sevens) (moments (cut_then spoiled 1)) l),
  λ l. not_held (bytes 7) (last_asks (from given sevens) (moments (cut_then spoiled 7)) l),
)

-- Cuts a store: block 17 enters the bad list. Then a start reads this image.
abbrev store_cut_then : Fate → Bytes → List Exchange
store_cut_then f image = found [] [] ++ ten_timeouts ++ (times_out ⇒ store ∷ cuts f ∷ surface 0 image ⇒ wait ∷ [])

-- Returns the image that this store writes. It begins with F0 hex, and one of form A with 50.
abbrev stored_image : Bytes
stored_image = form_b 1 [] [] (17 ∷ [])

pub a_cut_store_brings_nothing_else :
    (given : Drive)
    → (LawfulRun given sevens (store_cut_then old stored_image) → ⊥)
    × (LawfulRun given sevens (store_cut_then new (form_a [] [])) → ⊥)
    × (LawfulRun given sevens (store_cut_then spoiled (form_a [] [])) → ⊥)
    × (LawfulRun given sevens (store_cut_then spoiled stored_image) → ⊥)
unfolding computed
a_cut_store_brings_nothing_else given = (
  λ l. differ 0x50 0xF0 refl (ap first_byte (last_asks (from given sevens) (moments (store_cut_then old stored_image)) l)),
  λ l. differ 0xF0 0x50 refl (ap first_byte (last_asks (from given sevens) (moments (store_cut_then new (form_a [] []))) l)),
  λ l. not_held (form_a [] []) (last_asks (from given sevens) (moments (store_cut_then spoiled (form_a [] []))) l),
  λ l. not_held stored_image (last_asks (from given sevens) (moments (store_cut_then spoiled stored_image)) l),
)

-- A cut at a read, or where nothing is awaited, changes no sector: not 17, and not the table's.
abbrev calm_cut : List Exchange → List Exchange
calm_cut xs = found [] [] ++ xs ++ (cuts spoiled ∷ []) ++ found [] [] ++ read_of17 ++ (gives 9 ⇒ finished 0x00 0x00 0x80 0 ∷ [])

pub a_cut_with_no_write_pending_leaves_every_sector :
    (given : Drive) → (LawfulRun given sevens (calm_cut read_of17) → ⊥) × (LawfulRun given sevens (calm_cut []) → ⊥) × (LawfulRun given sevens (calm_cut (opens ++ asks_write 1 17 (bytes 9))) → ⊥)
unfolding computed
a_cut_with_no_write_pending_leaves_every_sector given = (
  λ l. differ 7 9 refl (ap first_byte (last_asks (from given sevens) (moments (calm_cut read_of17)) l)),
  λ l. differ 7 9 refl (ap first_byte (last_asks (from given sevens) (moments (calm_cut [])) l)),
  λ l. differ 7 9 refl (ap first_byte (last_asks (from given sevens) (moments (calm_cut (opens ++ asks_write 1 17 (bytes 9)))) l)),
)

-- LAWFUL, whatever the sectors hold: starts, whatever they cut off and whatever record and buffer they are given

pub any_start_is_lawful :
    (given drive : Drive) (buffer : Bytes) (f : Fate) (sectors : Sectors) → Lawful (from given sectors) (power drive buffer f ∷ power started (replicate 535 1) f ∷ [])
any_start_is_lawful given drive buffer f sectors = (tt, (tt, tt))

-- LAWFUL, whatever the sectors hold: answer 1 with any bytes, an answer 0 that is refused, and calls that are no answer

pub answer_1_with_any_bytes : (given : Drive) (sectors : Sectors) → LawfulRun given sectors (garbles 9 ⇒ read 4960 ∷ garbles 8 ⇒ read 4960 ∷ [])
unfolding computed
answer_1_with_any_bytes given sectors = (tt, (tt, tt))

pub a_refused_answer_and_a_raise : (given : Drive) (sectors : Sectors) → LawfulRun given sectors (surface 0 (9 ∷ []) ⇒ refused 5 ∷ raise ⇒ refused 3 ∷ [])
unfolding computed
a_refused_answer_and_a_raise given sectors = (tt, (tt, tt))

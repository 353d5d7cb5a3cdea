-- A start, wherever the power failed: whatever table it may read, what that table's sectors hold are candidates.
use mathlib.Core.Path.{◌≡◌, refl, sym, subst}
use mathlib.Core.Bool.{Bool, true, false}
use mathlib.Core.Logic.{inl, inr}
use mathlib.Core.List.{List}
use Prim.Native.Nat.{ℕ}
use lib.Dec.{eqb}
use lib.ListN.{length}
use Rattle.geometry.specs.Geometry.{table_sector}
use Rattle.geometry.specs.declared.Block.{Block}
use Rattle.geometry.specs.declared.Sector.{Sector}
use Rattle.logic.proofs.Bools.{branch, clash, and_false}
use Rattle.table.specs.declared.Table.{Table}
use Rattle.table.specs.Tables.{table_ok}
use Rattle.image.specs.FormB.{image_b}
use Rattle.drive.specs.declared.Drive.{Drive}
use Rattle.drive.specs.declared.Trial.{Trial}
use Rattle.drive.specs.declared.Access.{Access}
use Rattle.drive.specs.declared.Phase.{Phase}
use Rattle.drive.specs.declared.Answer.{Answer}
use Rattle.drive.specs.declared.Answer.TheVariants as answer
use Rattle.drive.specs.Words.{data_of, number_of, kind_of, is_read}
use Rattle.drive.specs.Results.{Out}
use Rattle.drive.specs.Calls.{start_of}
use Rattle.drive.specs.History.{held, unreadable, Sectors, History, padded, interrupted, candidates_then, begun, Apart}
use Rattle.drive.specs.Surface.{target, sent, Fate, old, new, spoiled, cut_off}
use Rattle.drive.specs.Run.{World, power, after, sending}
use Rattle.drive.specs.Views.{Bytes, Where, nowhere, at}
use Rattle.demands.proofs.Statuses.{is_move}
use Rattle.demands.proofs.Sim.{history_of, Blocky, place_of, Books, Quiet, Own, Unread, Ground, Spot, Shake, resting, offer1, heads, offer2, offer3, offer4, takes, offer6, Work, rereads, writing, verifying, trying, checking, placed, Owes, nothing, bytes, Sim, at_start, at_rest, at_work, at_store, books_apart, work_apart}
use Rattle.demands.proofs.Books.{books_write, books_stored, books_weaken, books_more, books_safe}
use Rattle.demands.proofs.Busy.{owes_own}
use Rattle.demands.proofs.Steps.{left_is, after_try}

-- Between commands nothing is pending.
pub still : {u : Bytes} {p : Phase} {c : Bytes} {n f : ℕ} {a : Answer} {h fd : Bytes} → Shake u p c n f a h fd → target a ≡ nowhere
still (resting e g) = e
still offer1 = refl
still (heads p) = refl
still (offer2 c o) = refl
still (offer3 c o) = refl
still (offer4 c o) = refl
still (takes c o p) = refl
still (offer6 c o e) = refl

-- WHAT A CUT LEAVES OF THE BOOKS: old, new and unreadable are what an answer 2, an answer 0 and one that spoils leave. A write to the
-- block's sector is cut off,
cut_write : (t : Table) (σ : Sectors) (pl : Block → Where) (ca : Block → List Bytes) (mv : Bool) (b : Block) (y : Bytes) (x : Fate) → Blocky b
    → Books t σ pl ca Quiet mv → Books t (cut_off (at (place_of t b)) x y σ) pl ca (Own b y) mv
cut_write t σ pl ca mv b y old i k = books_weaken b y k
cut_write t σ pl ca mv b y new i k = books_write b y (held y) i (λ z w e. absurd e) (left_is false y) k
cut_write t σ pl ca mv b y spoiled i k = books_write b y unreadable i (λ z w e. absurd e) (left_is true y) k

-- a trial's write,
cut_try : (t : Table) (σ : Sectors) (pl : Block → Where) (ca : Block → List Bytes) (mv : Bool) (b : Block) (y : Bytes) (r : Trial) (x : Fate) → Blocky b → Spot t b r
    → Books t σ pl ca (Own b y) mv → Books t (cut_off (at r.sector) x y σ) pl ca (Own b y) mv
cut_try t σ pl ca mv b y r old i st k = k
cut_try t σ pl ca mv b y r new i st k = after_try t σ pl ca mv b y false r i st k
cut_try t σ pl ca mv b y r spoiled i st k = after_try t σ pl ca mv b y true r i st k

-- or the store: the stored table is the older one, the record's, or unreadable.
cut_store : {t : Table} {σ : Sectors} {pl : Block → Where} {ca : Block → List Bytes} {also : Block → Bytes → Type 0} {mv : Bool} (rn : ℕ) (cs : Bytes) (x : Fate) → table_ok t ≡ true
    → Books t σ pl ca also mv → (q : Bool) × Books t (cut_off (at table_sector) x (image_b rn t cs) σ) pl ca also q
cut_store {mv = mv} rn cs old ok k = (mv, k)
cut_store {t} rn cs new ok k = (false, books_stored rn cs (held (image_b rn t cs)) ok (left_is false (image_b rn t cs)) k)
cut_store {t} rn cs spoiled ok k = (false, books_stored rn cs unreadable ok (left_is true (image_b rn t cs)) k)

-- WHAT IS OWED by a command under way, one clause for each kind of access,
cut_owes : {t : Table} {σ : Sectors} {pl : Block → Where} {ca : Block → List Bytes} {mv : Bool} {b : Block} {rd : Bool} {u mine : Bytes} {p : Access} {a : Answer} {wr : Bool} {lr : Where} (i : Bytes) (x : Fate) → Blocky b
    → Work t σ pl ca mv b rd u mine p a wr lr → Owes t (cut_off (target a) x (sent a u i) σ) pl ca mv b rd u mine wr
cut_owes i x ib (rereads eb er es op g k) = nothing (inl op) k
cut_owes {t} {σ} {pl} {ca} {mv} {b} {u = u} i x ib (writing wt eb er es op ed k) =
    bytes wt op ed (subst (λ (z : Sector). Books t (cut_off (at z) x (data_of u) σ) pl ca (Own b (data_of u)) mv) (sym es) (cut_write t σ pl ca mv b (data_of u) x ib k))
cut_owes i x ib (verifying wt elr eb er es op ed only k) = bytes wt op ed k
cut_owes {t} {σ} {pl} {ca} {mv} {b} {u = u} i x ib (trying {r = r} wt eb er st bd k) =
    owes_own wt bd (subst (λ (z : Sector). Books t (cut_off (at z) x (data_of u) σ) pl ca (Own b (data_of u)) mv) er (cut_try t σ pl ca mv b (data_of u) r x ib st k))
cut_owes i x ib (checking wt elr eb er st bd only k) = owes_own wt bd k

-- and by one whose store is awaited.
cut_end : {t : Table} {σ : Sectors} {pl : Block → Where} {ca : Block → List Bytes} {mv : Bool} {b : Block} {rd : Bool} {u mine : Bytes} {wr : Bool} (rn : ℕ) (cs : Bytes) (x : Fate) → table_ok t ≡ true
    → Owes t σ pl ca mv b rd u mine wr → (q : Bool) × Owes t (cut_off (at table_sector) x (image_b rn t cs) σ) pl ca q b rd u mine wr
cut_end rn cs x ok (nothing e k) = let r = cut_store rn cs x ok k in (r.0, nothing e r.1)
cut_end rn cs x ok (bytes w o d k) = let r = cut_store rn cs x ok k in (r.0, bytes w o d r.1)

-- The history pays it: the interrupted write's bytes are added.
cut_paid : (t : Table) (σ : Sectors) (pl pl₁ : Block → Where) (ca : Block → List Bytes) (mv : Bool) (b : Block) (rd : Bool) (u h fd : Bytes) (a : Answer) (to' wr : Bool) (lr : Where) (ln fn : Bool)
    → number_of h ≡ b.0 → is_read (kind_of h) ≡ rd → Blocky b → Owes t σ pl₁ ca mv b rd u (padded fd) wr → Books t σ pl₁ (candidates_then (history_of pl ca a h fd true to' wr lr ln fn)) Quiet mv
unfolding candidates_then interrupted
cut_paid t σ pl pl₁ ca mv b rd u h fd a to' wr lr ln fn num isr i (nothing (inl q) k) = rw (isr, q, and_false wr false refl) k
cut_paid t σ pl pl₁ ca mv b rd u h fd a to' wr lr ln fn num isr i (nothing (inr q) k) = rw q k
cut_paid t σ pl pl₁ ca mv b rd u h fd a to' wr lr ln fn num isr i (bytes wt op ed k) = rw (num, i, wt, isr, op, ← ed) (books_more b (data_of u) k)

unread : {start σ : Sectors} {t : Table} {pl pl₁ : Block → Where} {ca : Block → List Bytes} {mv ln : Bool} → Apart pl → ln ≡ true → Books t σ pl₁ ca Quiet mv → Unread start σ pl ca ln
unread pa el k = record { apart = pa; untouched = λ q. clash el q; safe = λ q. books_safe k }

ground_unread : {start : Sectors} {known mv : Bool} {t : Table} {σ : Sectors} {pl : Block → Where} {ca : Block → List Bytes} {ln fn : Bool} → Ground start known mv t σ pl ca ln fn → Unread start σ pl ca ln
ground_unread {start} {known} {σ = σ} {pl = pl} {ca = ca} {ln = ln} g = go known refl
  where
    go : (q : Bool) → known ≡ q → Unread start σ pl ca ln
    go true q = unread (books_apart (g.tabled q)) (g.learnt q) (g.tabled q)
    go false q = g.tableless q

-- WHICHEVER ACCESS THE POWER FAILS AT, what any table holds that the next start may read are candidates.
cut_unread : {start : Sectors} {w : World} {H : History} (x : Fate) → Sim start w H → Unread start (cut_off (target w.asked) x (sending w) w.sectors) H.place (candidates_then H) H.learned
unfolding candidates_then interrupted
cut_unread x (at_start lc kn em un) = un
cut_unread x (at_rest lc so gr sh) = rw (still sh) (ground_unread gr)
cut_unread x (at_work {t = t} {cs = cs} {mk = mk} {rn = rn} {u = u} {a = a} {pl = pl} {ca = ca} {h = h} {fd = fd} {wr = wr} {lr = lr} {ln = ln} {fn = fn} {b = b} {rd = rd} lc kn so el ef i num isr wk) =
    unread (work_apart wk) el (cut_paid t _ pl pl ca mk.moved b rd u h fd a true wr lr ln fn num isr i (cut_owes (image_b rn t cs) x i wk))
cut_unread x (at_store {t = t} {cs = cs} {rn = rn} {k = k} {u = u} {pl = pl} {ca = ca} {h = h} {fd = fd} {to = to} {wr = wr} {lr = lr} {ln = ln} {fn = fn} {b = b} {rd = rd} lc kn so el ef i num isr ok pa cl) =
    let r = cut_end rn cs x ok cl.owes in
    unread pa el (cut_paid t _ pl (placed (is_move k.ending) b lr pl) ca r.0 b rd u h fd answer.Store to wr lr ln fn num isr i r.1)

-- A start keeps the invariant.
pub began : {start : Sectors} {w : World} {H : History} → Sim start w H → (d : Drive) (v : Bytes) (x : Fate) → Sim start (after w (power d v x) (start_of d v)) (begun H (start_of d v).step.answer)
unfolding start_of begun
began {start} {w} {H} m d v x =
    branch (λ (y : Out). Sim start (after w (power d v x) y) (begun H y.step.answer)) (eqb (length v) 536) (λ q. at_start refl refl refl (cut_unread x m)) (λ q. m)

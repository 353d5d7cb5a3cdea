-- Request 7 of document 02: after a cut a good read gives a candidate, and where a start finds the table unreadable nothing is good.
use mathlib.Core.Path.{◌≡◌, refl, sym, subst, ap, ◌∙◌}
use mathlib.Core.Bool.{Bool, true, false, cond, ◌&&◌}
use mathlib.Core.List.{List, [], ◌∷◌}
use Prim.Native.Nat.{ℕ}
use native.Mathlib.Omega.{arith}
use lib.Dec.{eqb}
use lib.ListN.{length}
use borrow.Author.Tests.{eq-eqb}
use Rattle.geometry.specs.Geometry.{table_sector}
use Rattle.geometry.specs.declared.Block.{Block}
use Rattle.logic.proofs.Bools.{clash}
use Rattle.image.specs.Images.{well_formed}
use Rattle.drive.specs.declared.Drive.{Drive}
use Rattle.drive.specs.declared.Phase.{Phase}
use Rattle.drive.specs.declared.Answer.{Answer}
use Rattle.drive.specs.Calls.{Call, raise, lower, feed, surface, reset, start_of}
use Rattle.drive.specs.History.{held, unreadable, Sectors, History, is_table_sector, learns, heard, next, candidates_then, begun}
use Rattle.drive.specs.Surface.{target, Brings, Fate}
use Rattle.drive.specs.Run.{Event, World, Moment, call, power, sectors_after, after, Rule, Unless, Permits, made, Lawful, lines}
use Rattle.drive.specs.Told.{none}
use Rattle.drive.specs.Cuts.{Cut, history_at, start_at, world_then, history_then, CutKeeps, good_report, NoneGood, UnreadableTable, UnreadableAtFirst}
use Rattle.drive.specs.Views.{Bytes, nowhere, at, of_answer}
use Rattle.demands.proofs.Sim.{Shake, resting, offer1, heads, offer2, offer3, offer4, takes, offer6, Sim, at_start, at_rest, at_work, at_store, Kept, entry_of}
use Rattle.demands.proofs.Entries.{no_learn}
use Rattle.demands.proofs.Steps.{step}
use Rattle.demands.proofs.Restart.{still, began}
use Rattle.demands.proofs.Demand3.{sim_begins, sim_after, all, all_tabled}
use Rattle.demands.proofs.Told.{Agrees, fresh, all_right}

-- THE START AFTER A CUT is accepted: it keeps the invariant, the candidates are those of the cut, and no table is read yet.
module _ (c : Cut) where
  accepted : (of_answer (start_at c).step.answer).refused ≡ false
  unfolding start_of
  accepted = rw (eq-eqb (length c.buffer) 536 c.full)

  sim_then : Sim c.sectors (world_then c) (history_then c)
  sim_then = began (sim_after (sim_begins c.given c.lent c.whole c.sectors) c.before c.lawful) c.drive c.buffer c.fate

  candidates_then_lem : (history_then c).candidates ≡ candidates_then (history_at c)
  unfolding begun
  candidates_then_lem = rw accepted

  not_found_then : (history_then c).found ≡ false
  unfolding begun
  not_found_then = rw accepted

-- AFTER A CUT a good read gives a candidate.
pub cut_keeps : CutKeeps
cut_keeps c ms ok b =
    let s = sim_then c in
    let a : Agrees ((history_then c).candidates b) (candidates_then (history_at c) b) none = subst (λ (f : Block → List Bytes). Agrees (f b) (candidates_then (history_at c) b) none) (sym (candidates_then_lem c)) (fresh (candidates_then (history_at c) b)) in
    all_right b c.sectors (history_then c) (lines (world_then c) ms) (candidates_then (history_at c) b) none false (all s ms ok) (all_tabled s ms ok) a (not_found_then c)

-- WITH THE TABLE UNREADABLE no image can be read, and nothing is written any more.
never_held : {x : Bytes} {A : Type 0} → unreadable ≡ held x → A
never_held e = let z : ◌≡◌ {A = ℕ} 0 1 = cc in absurd (not_zero z)
  where
    not_zero : ◌≡◌ {A = ℕ} 0 1 → ⊥
    not_zero z = omega arith

-- Says that the table's sector is unreadable, and that no image was read since the last start.
record Dark (w : World) (H : History) : Type 0 where
  lost : w.sectors table_sector ≡ unreadable
  none : H.found ≡ false

-- No write is pending,
no_write : {start : Sectors} {w : World} {H : History} → Sim start w H → H.found ≡ false → target w.asked ≡ nowhere
no_write (at_start lc kn em un) n = refl
no_write (at_rest lc so gr sh) n = still sh
no_write (at_work lc kn so el ef i num isr wk) n = clash ef n
no_write (at_store lc kn so el ef i num isr ok pa cl) n = clash ef n

-- and no image comes.
no_read : {u : Bytes} {p : Phase} {c : Bytes} {n f : ℕ} {a : Answer} {h fd : Bytes} → Shake u p c n f a h fd → (of_answer a).read ≡ nowhere
no_read (resting e g) = g
no_read offer1 = refl
no_read (heads p) = refl
no_read (offer2 c o) = refl
no_read (offer3 c o) = refl
no_read (offer4 c o) = refl
no_read (takes c o p) = refl
no_read (offer6 c o e) = refl

no_image_lem : {start : Sectors} {w : World} {H : History} → Sim start w H → Dark w H → (c : Call) (x : Answer) (v : Bytes) → Rule w c → learns H (record { call = c; answer = x; buffer = v }) ≡ false
unfolding learns
no_image_lem (at_start lc kn em un) k raise x v r = refl
no_image_lem (at_start lc kn em un) k (lower b) x v r = refl
no_image_lem (at_start lc kn em un) k (feed bs) x v r = refl
no_image_lem (at_start {σ = σ} lc kn em un) k (surface a bs) x v r = go (eqb a 0) r
  where
    go : (q : Bool) → Brings (at table_sector) q bs σ → (q && (is_table_sector (at table_sector) && well_formed bs)) ≡ false
    go true z = never_held (sym k.lost ∙ z)
    go false z = refl
no_image_lem (at_start lc kn em un) k reset x v r = refl
no_image_lem {H = H} (at_rest lc so gr sh) k c x v r = no_learn H (record { call = c; answer = x; buffer = v }) (ap is_table_sector (no_read sh))
no_image_lem (at_work lc kn so el ef i num isr wk) k c x v r = clash ef k.none
no_image_lem (at_store lc kn so el ef i num isr ok pa cl) k c x v r = clash ef k.none

-- So it stays, with each call
unmoved : (w : World) (e : Event) (c : Call) → target w.asked ≡ nowhere → sectors_after w e c ≡ w.sectors
unmoved w e raise t = refl
unmoved w e (lower b) t = refl
unmoved w e (feed bs) t = refl
unmoved w e (surface a bs) t = rw t
unmoved w e reset t = refl

dark_step : {start : Sectors} {w : World} {H : History} → Sim start w H → Dark w H → (e : Event) → Permits w (call e) (made w (call e)) → Dark (after w (call e) (made w (call e))) (next start H (entry_of e (made w (call e))))
unfolding next heard
dark_step {start} {w} {H} m k e ok =
    record { lost = gone (of_answer (made w (call e)).step.answer).refused; none = unfound (of_answer (made w (call e)).step.answer).refused refl ok }
  where
    gone : (q : Bool) → cond q w.sectors (sectors_after w e e.call) table_sector ≡ unreadable
    gone true = k.lost
    gone false = ap (λ (σ : Sectors). σ table_sector) (unmoved w e e.call (no_write m k.none)) ∙ k.lost

    unfound : (q : Bool) → (of_answer (made w (call e)).step.answer).refused ≡ q → Unless q (Rule w e.call) → (cond q H (heard start H (entry_of e (made w (call e))))).found ≡ false
    unfound true p r = k.none
    unfound false p r = rw (no_image_lem m k e.call (made w (call e)).step.answer (made w (call e)).bytes r) k.none

-- and with each start.
dark_start : {start : Sectors} {w : World} {H : History} → Sim start w H → Dark w H → (d : Drive) (v : Bytes) (x : Fate) → Dark (after w (power d v x) (start_of d v)) (begun H (start_of d v).step.answer)
unfolding begun
dark_start {start} {w} {H} m k d v x = go (of_answer (start_of d v).step.answer).refused refl
  where
    go : (q : Bool) → (of_answer (start_of d v).step.answer).refused ≡ q → Dark (after w (power d v x) (start_of d v)) (begun H (start_of d v).step.answer)
    go true q = rw q k
    go false q = rw q (record { lost = rw (no_write m k.none) k.lost; none = refl })

-- Nothing is good in the whole rest.
none_good : {start : Sectors} {w : World} {H : History} → Sim start w H → Dark w H → (ms : List Moment) → Lawful w ms → NoneGood start H (lines w ms)
none_good m k [] ok = tt
none_good {start} {w} {H} m k (call e ∷ ms) ok =
    let r = step m e.call e.spoils ok.0 in
    (refuted r.0 (good_report H (entry_of e (made w (call e)))) refl, none_good {w = after w (call e) (made w (call e))} r.1 (dark_step m k e ok.0) ms ok.1)
  where
    refuted : Kept H (entry_of e (made w (call e))) → (q : Bool) → good_report H (entry_of e (made w (call e))) ≡ q → q ≡ false
    refuted f true p = clash (f.tabled p) k.none
    refuted f false p = refl
none_good {w = w} m k (power d v x ∷ ms) ok =
    none_good {w = after w (power d v x) (made w (power d v x))} (began m d v x) (dark_start m k d v x) ms ok.1

pub unreadable_table : UnreadableTable
unreadable_table c e ms ok = none_good (sim_then c) (record { lost = e; none = not_found_then c }) ms ok

pub unreadable_at_first_lem : UnreadableAtFirst
unreadable_at_first_lem given lent n sectors e ms ok = none_good (sim_begins given lent n sectors) (record { lost = e; none = refl }) ms ok

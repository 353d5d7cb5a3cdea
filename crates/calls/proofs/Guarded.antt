-- What a call gives where codes 1 and 2 refuse it, and where they pass.
use mathlib.Core.Path.{◌≡◌, refl, sym, ap, ◌∙◌}
use mathlib.Core.Bool.{Bool, true, false, cond, ◌&&◌}
use mathlib.Core.List.{List}
use Prim.Native.Nat.{ℕ, ◌≤◌}
use borrow.Author.Tests.{leb-true, eqb-true, eq-eqb}
use lib.Dec.{eqb, leb}
use lib.ListN.{length}
use Rattle.std.specs.Prelude.{Result, Ok, Err}
use Rattle.logic.proofs.Bools.{clash, and_left, and_right}
use Rattle.std.specs.Borrow.{Bor}
use Rattle.table.specs.declared.Table.{Table}
use Rattle.drive.specs.declared.Answer.TheVariants as answer
use Rattle.drive.specs.declared.Change.TheVariants as change
use Rattle.drive.specs.declared.Drive.{Drive}
use Rattle.drive.specs.declared.Refusal.{Refusal}
use Rattle.drive.specs.declared.Refusal.TheVariants as refusal
use Rattle.drive.specs.declared.Turn.{Turn}
use Rattle.drive.specs.Records.{phase_ok, state_ok, record_ok}
use Rattle.drive.specs.Results.{stored_image, refuse, part_left, status_left, guarded}
use Rattle.drive.specs.Calls.{called, image_says, image_out_of}
use Rattle.records.proofs.Passed.{passed}
use Rattle.calls.specs.Gives.{guard_of, Passed, Turned, Returns, notes_of, altered_of, handed, Formed}

-- Says what passed codes 1 and 2 has: the k bytes lent are n, and the counts of the record are within their bounds.
pub record Sound (d : Drive) (k n : ℕ) : Type 0 where
  pub long : k ≡ n
  pub count : d.state.count ≤ 6
  pub fed : d.state.fed ≤ 533
  pub state : state_ok d.table.nspares d.state ≡ true

pub sound_so : {k n : ℕ} (d : Drive) → record_ok d ≡ true → k ≡ n → Sound d k n
unfolding state_ok
sound_so d h e =
    let l = d.state in
    let s = d.table.nspares in
    let k = passed d h in
    let o = k.state in
    let c = and_left (leb l.count 6 && leb l.fed 533) (phase_ok s l.marks.known l.phase) o in
    record {
      long = e;
      count = leb-true l.count 6 (and_left (leb l.count 6) (leb l.fed 533) c);
      fed = leb-true l.fed 533 (and_right (leb l.count 6) (leb l.fed 533) c);
      state = o;
    }

-- A choice by codes 1 and 2 is a choice by their verdict.
abbrev choose : {A : Type 0} → Result Table Refusal → (Refusal → A) → A → A
choose (Ok y) f x = x
choose (Err r) f x = f r

chosen : {A : Type 0} (ok fits : Bool) (t : Table) (f : Refusal → A) (x : A) → cond ok (cond fits x (f refusal.Buffer)) (f refusal.Record) ≡ choose (guard_of ok fits t) f x
chosen true true t f x = refl
chosen true false t f x = refl
chosen false fits t f x = refl

is_pass : Result Table Refusal → Bool
is_pass v = choose v (λ (r : Refusal). false) true

-- The table that was handed out, if one was.
table_out : Table → Result Table Refusal → Table
table_out t (Ok x) = x
table_out t (Err r) = t

passes_so : (ok fits : Bool) (t : Table) {x : Table} → guard_of ok fits t ≡ Ok x → (ok ≡ true) × (fits ≡ true) × (x ≡ t)
unfolding is_pass table_out
passes_so true true t h = (refl, refl, sym (ap (table_out t) h))
passes_so true false t h = clash (ap is_pass h) refl
passes_so false fits t h = clash (ap is_pass h) refl

pub passed_by : (d : Drive) (u : List ℕ) {g : Result Table Refusal} {t : Table} → g ≡ guard_of (record_ok d) (eqb (length u) 536) d.table → g ≡ Ok t → Passed d u × (t ≡ d.table)
passed_by d u e f = let z = passes_so (record_ok d) (eqb (length u) 536) d.table (sym e ∙ f) in ((z.0, eqb-true (length u) 536 z.1), z.2)

-- Given is what the guard returned where k bytes are lent and the call wants n.
module _ (d : Drive) (k n : ℕ) {g : Result Table Refusal} (e : g ≡ guard_of (record_ok d) (eqb k n) d.table) where
  pub sound : {t : Table} → g ≡ Ok t → Sound d k n × (t ≡ d.table)
  sound f = let z = passes_so (record_ok d) (eqb k n) d.table (sym e ∙ f) in (sound_so d z.0 (eqb-true k n z.1), z.2)

  by_verdict : {A : Type 0} (v : Result Table Refusal) (f : Refusal → A) (x : A) → g ≡ v → cond (record_ok d) (cond (eqb k n) x (f refusal.Buffer)) (f refusal.Record) ≡ choose v f x
  by_verdict v f x h = chosen (record_ok d) (eqb k n) d.table f x ∙ ap (λ (y : Result Table Refusal). choose y f x) (sym e ∙ h)

-- A call that lends the buffer u, and the bytes bs.
module _ (d : Drive) (u bs : List ℕ) where
  -- A refusal by codes 1 and 2 is a turn of theirs, whatever the rule may decide.
  pub turn_refused : (Rule : Bor Table → Bor (List ℕ) → Turn → Type 0) {g : Result Table Refusal} {r : Refusal} {y : Turn} → g ≡ guard_of (record_ok d) (eqb (length u) 536) d.table → g ≡ Err r → y ≡ refuse r d.state → Turned Rule d u bs y u
  unfolding part_left status_left is_pass
  turn_refused Rule {g} {r} {y} e f k =
      record {
        turn = y;
        ruled = λ p.
            let z : guard_of (record_ok d) (eqb (length u) 536) d.table ≡ Ok d.table = rw (p.0, eq-eqb (length u) 536 p.1) in
            clash (ap is_pass (e ∙ z)) (ap is_pass f);
        is = k ∙ sym (by_verdict d (length u) 536 e (Err r) (λ (r : Refusal). refuse r d.state) y f);
        left = rw k;
      }

  -- What holds of a refusal and of a rule's turn holds of what codes 1 and 2 make of it.
  by_guard : (P : Turn → Type 0) (ok fits : Bool) (x : Turn) → ((r : Refusal) → P (refuse r d.state)) → P x → P (cond ok (cond fits x (refuse refusal.Buffer d.state)) (refuse refusal.Record d.state))
  by_guard P true true x h k = k
  by_guard P true false x h k = h refusal.Buffer
  by_guard P false fits x h k = h refusal.Record

  -- Two turns are the same to codes 1 and 2 if they are where these pass.
  agree : (ok fits : Bool) (x r : Turn) → (ok ≡ true → fits ≡ true → x ≡ r) → cond ok (cond fits x (refuse refusal.Buffer d.state)) (refuse refusal.Record d.state) ≡ cond ok (cond fits r (refuse refusal.Buffer d.state)) (refuse refusal.Record d.state)
  agree true true x r h = h refl refl
  agree true false x r h = refl
  agree false fits x r h = refl

  -- Where the rule decides r, the call gives what codes 1 and 2 make of it.
  module _ {Rule : Bor Table → Bor (List ℕ) → Turn → Type 0} {y : Turn} {v : List ℕ} (k : Turned Rule d u bs y v) (r : Turn)
      (h : (x : Turn) (t : Bor Table) (b : Bor (List ℕ)) → Passed d u → t.now ≡ d.table → b.now ≡ u → Rule t b x → x ≡ r) where
    turn_is : y ≡ guarded (record_ok d) (length u) d.state r
    turn_is = k.is ∙ agree (record_ok d) (eqb (length u) 536) k.turn r (λ p q. let z : Passed d u = (p, eqb-true (length u) 536 q) in let w = k.ruled z in h k.turn w.0 w.2 z w.1 w.3 w.4)

    pub altered_gives : Returns (called d u bs r) (handed (altered_of y.change (notes_of d) bs) y) v
    altered_gives = let z = turn_is in (rw (← z), rw (← z) k.left)

    pub kept_gives : r.change ≡ change.Keep → Returns (called d u bs r) (handed (notes_of d) y) v
    kept_gives e =
        let z : y.change ≡ change.Keep = rw turn_is (by_guard (λ x. x.change ≡ change.Keep) (record_ok d) (eqb (length u) 536) r (λ r. refl) e) in
        rw z at altered_gives

    pub formed_gives : Formed bs r.change → Formed bs y.change
    formed_gives e = rw turn_is (by_guard (λ x. Formed bs x.change) (record_ok d) (eqb (length u) 536) r (λ r. refl) e)

-- A call for the image.
module _ (d : Drive) (u : List ℕ) {g : Result Table Refusal} (e : g ≡ guard_of (record_ok d) (eqb (length u) 532) d.table) where
  imaged : (v : Result Table Refusal) → g ≡ v
      → image_out_of d u ≡ choose v (λ (r : Refusal). image_says d (answer.Refused r) u) (cond d.state.marks.known (image_says d answer.Wait (stored_image d)) (image_says d (answer.Refused refusal.Place) u))
  unfolding image_out_of
  imaged v k = by_verdict d (length u) 532 e v (λ (r : Refusal). image_says d (answer.Refused r) u) _ k

  pub image_refused : {r : Refusal} → g ≡ Err r → image_out_of d u ≡ image_says d (answer.Refused r) u
  image_refused {r} f = imaged (Err r) f

  module _ {t : Table} (f : g ≡ Ok t) where
    pub image_no_table : d.state.marks.known ≡ false → image_out_of d u ≡ image_says d (answer.Refused refusal.Place) u
    image_no_table k = imaged (Ok t) f ∙ rw k

    pub image_given : d.state.marks.known ≡ true → image_out_of d u ≡ image_says d answer.Wait (stored_image d)
    image_given k = imaged (Ok t) f ∙ rw k

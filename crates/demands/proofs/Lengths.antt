-- NO CALL CHANGES THE LENGTH OF THE LENT BUFFER: whatever a turn leaves in 536 bytes are 536 bytes.
use Rattle.std.specs.Prelude.{Option, None, Some}
use mathlib.Core.Path.{◌≡◌, refl, sym, ◌∙◌}
use mathlib.Core.Bool.{true}
use mathlib.Core.List.{List, ◌++◌}
use Prim.Native.Nat.{ℕ, ◌+◌, ◌-◌}
use native.Mathlib.Omega.{arith}
use lib.ListN.{length, take, drop, replicate, length-append, length-take, length-drop, length-replicate}
use borrow.Author.Tests.{eqb-true}
use Rattle.table.specs.declared.Table.{Table}
use Rattle.table.specs.Tables.{spare_list, bad_list, table_ok}
use Rattle.table.proofs.Keeps.{passes}
use Rattle.image.specs.FormA.{image_a}
use Rattle.image.proofs.Writing.{image_length}
use Rattle.buffer.specs.Runs.{over}
use Rattle.drive.specs.declared.Drive.{Drive}
use Rattle.drive.specs.declared.Four.{Four}
use Rattle.drive.specs.declared.Part.{Part}
use Rattle.drive.specs.declared.Part.TheVariants as part
use Rattle.drive.specs.declared.Turn.{Turn}
use Rattle.drive.specs.Words.{data_of, with_data}
use Rattle.drive.specs.Records.{record_ok}
use Rattle.drive.specs.Results.{part_left, status_left, out_of}
use Rattle.drive.specs.Calls.{Call, raise, lower, feed, surface, reset, called, raise_of, lower_of, feed_of, surface_of, reset_of, step_of}
use Rattle.records.proofs.Passed.{passed as parts}
use Rattle.records.proofs.Ladders.{guarded_cases}

-- Says that a buffer has 536 bytes.
abbrev Long : List ℕ → Type 0
Long u = length u ≡ 536

pub data_long : (u x : List ℕ) → Long u → length x ≡ 532 → Long (with_data u x)
unfolding with_data
data_long u x h k = omega (arith, length-append (take 4 u) x, length-take 4 u)

image_long : (t : Table) → table_ok t ≡ true → length (image_a t) ≡ 532
image_long t k =
    let p = passes t k in
    image_length (spare_list t) (bad_list t) (omega (arith, length-take t.nspares t.spares, p.few_spares)) (omega (arith, length-take t.nbads t.bads, p.few_bads))

-- It has as many, whatever becomes of its data part and of its status.
part_long : (p : Part) (t : Table) (bs u : List ℕ) → table_ok t ≡ true → Long u → Long (part_left p t bs u)
unfolding part_left over
part_long part.Kept t bs u k h = h
part_long (part.Filled f) t bs u k h =
    let run = take (532 - f) bs in
    omega (arith, length-append (take (4 + f) u ++ run) (drop (4 + f + length run) u), length-append (take (4 + f) u) run, length-take (4 + f) u, length-take (532 - f) bs, length-drop (4 + f + length run) u)
part_long (part.Zeroed f) t bs u k h = omega (arith, length-append (take (4 + f) u) (replicate (532 - f) 0), length-take (4 + f) u, length-replicate {A = ℕ} (532 - f) 0)
part_long part.Image t bs u k h = data_long u (image_a t) h (image_long t k)
part_long (part.Figures x) t bs u k h = data_long u _ h refl

status_long : (s : Option Four) (u : List ℕ) → Long u → Long (status_left s u)
unfolding status_left data_of
status_long None u h = h
status_long (Some x) u h = omega (arith, length-drop 4 u)

-- Each of raise, lower, feed, surface and reset keeps it, refused or not.
module _ (d : Drive) (u : List ℕ) where
  called_long : (bs : List ℕ) (x : Turn) → length (called d u bs x).bytes ≡ length u
  unfolding record_ok part_left status_left
  called_long bs x =
      guarded_cases K (record_ok d) (length u) d.state x
      (record {
        damaged = λ k. refl;
        length = λ k e. refl;
        passes = λ k e.
            let h = eqb-true (length u) 536 e in
            status_long x.leaves.status _ (part_long x.leaves.part d.table bs u (parts d k).table h) ∙ sym h;
      })
    where
      K : Turn → Type 0
      K y = length (out_of d.table d.causes bs u y).bytes ≡ length u

  pub step_length : (c : Call) → length (step_of c d u).bytes ≡ length u
  unfolding step_of raise_of lower_of feed_of surface_of reset_of
  step_length raise = called_long _ _
  step_length (lower b) = called_long _ _
  step_length (feed bs) = called_long _ _
  step_length (surface a bs) = called_long _ _
  step_length reset = called_long _ _

-- Runs that reach the end of the buffer, and the image put after the status.
use mathlib.Core.Path.{◌≡◌, ◌∙◌, sym}
use mathlib.Core.List.{List, ◌++◌, append-nil}
use Prim.Native.Nat.{ℕ, ◌+◌, ◌-◌, ◌≤◌, ◌<◌}
use native.Mathlib.Omega.{arith}
use borrow.Author.Tests.{eq-eqb, le-leb}
use borrow.Rule.Slice.PartMut.{put_mid}
use lib.ListN.{length, take, drop, replicate, length-replicate, length-take, length-drop, length-append, drop_of_length-le}
use lib.Seq.{take_all}
use Rattle.buffer.specs.Runs.{over}
use Rattle.buffer.proofs.Over.{over_none, over_over}
use lib.Seq.{length-take-le}
use Rattle.image.specs.FormA.{image_a}
use Rattle.image.specs.FormB.{image_b}
use Rattle.image.specs.Images.{written_a, written_b}
use Rattle.drive.specs.Words.{with_data}
use Rattle.table.specs.declared.Table.{Table}
use Rattle.table.specs.Tables.{spare_list, bad_list}

-- A run that reaches the end replaces all from its place on.
over_end : (at : ℕ) (run u : List ℕ) → length u ≤ at + length run → over at run u ≡ take at u ++ run
unfolding over
over_end at run u h = rw (drop_of_length-le u h) (append-nil (take at u ++ run))

-- From place 532 on nothing is filled and nothing zeroed.
module _ (f : ℕ) (u : List ℕ) (h : 532 ≤ f) where
  pub none_filled : (bs : List ℕ) → over (4 + f) (take (532 - f) bs) u ≡ u
  none_filled bs = let z : 532 - f ≡ 0 = omega arith in rw z (over_none (4 + f) u)

  pub none_zeroed : length u ≡ 536 → take (4 + f) u ++ replicate (532 - f) 0x00 ≡ u
  none_zeroed k =
      let z : 532 - f ≡ 0 = omega arith in
      rw (z, append-nil (take (4 + f) u)) (take_all (4 + f) u (omega arith))

-- Zeros from place f on reach the end.
pub zeros_end : (f : ℕ) (u : List ℕ) → f < 532 → length u ≡ 536 → over (4 + f) (replicate (532 - f) 0) u ≡ take (4 + f) u ++ replicate (532 - f) 0x00
zeros_end f u l h = over_end (4 + f) (replicate (532 - f) 0) u (omega (arith, length-replicate {A = ℕ} (532 - f) 0))

-- Four bytes after the status, and 528 behind them, are a data part.
pub runs_put : (u xs ys : List ℕ) → length u ≡ 536 → length xs ≡ 4 → length ys ≡ 528 → over 8 ys (over 4 xs u) ≡ with_data u (xs ++ ys)
unfolding with_data
runs_put u xs ys h k n =
    over_over 4 xs ys u 8 (omega arith) (omega arith) ∙ over_end 4 (xs ++ ys) u (omega (arith, length-append xs ys))

-- All of a buffer from its fourth byte on is put anew.
pub part_put : (u ys : List ℕ) → put_mid 4 (length u - 4) u ys ≡ with_data u ys
unfolding with_data
part_put u ys =
    let h : length (drop 4 u) ≤ length u - 4 = omega (arith, length-drop 4 u) in
    rw (drop_of_length-le (drop 4 u) h, append-nil ys)

-- The writers give the image of a table's two lists.
module _ (t : Table) (o : List ℕ) (p : t.nspares ≤ 32) (q : t.nbads ≤ 100) (h : length o ≡ 532) where
  pub stored_whole : (run : ℕ) (cs : List ℕ) → length t.spares ≡ 32 → length cs ≡ 32 → written_b run (spare_list t) (take t.nspares cs) (bad_list t) o ≡ image_b run t cs
  unfolding written_b
  stored_whole run cs a b =
      rw (
        eq-eqb (length o) 532 h,
        le-leb (length (spare_list t)) 32 (simp length-take (omega arith)),
        le-leb (length (bad_list t)) 100 (simp length-take (omega arith)),
        eq-eqb (length (take t.nspares cs)) (length (spare_list t)) (length-take-le t.nspares cs (omega arith) ∙ sym (length-take-le t.nspares t.spares (omega arith))),
      )

  pub image_whole : written_a (spare_list t) (bad_list t) o ≡ image_a t
  unfolding written_a
  image_whole =
      rw (
        eq-eqb (length o) 532 h,
        le-leb (length (spare_list t)) 32 (simp length-take (omega arith)),
        le-leb (length (bad_list t)) 100 (simp length-take (omega arith)),
      )

-- What the code compares is the data part.
use mathlib.Core.Path.{◌≡◌, refl, ◌∙◌}
use mathlib.Core.Bool.{Bool, true, false}
use mathlib.Core.List.{List}
use Prim.Native.Nat.{ℕ, ◌-◌, ◌≤◌, min}
use borrow.Author.Tests.{leb-true, leb-false}
use lib.Dec.{leb}
use native.Mathlib.Omega.{arith}
use lib.ListN.{length, take, drop, drop_of_length-le}
use Rattle.logic.proofs.Walks.{rest}
use Rattle.drive.specs.Words.{data_of}

pub as_compared : (u : List ℕ) (m : ℕ) → m ≡ min 4 (length u) → take (length u - m) (drop m u) ≡ data_of u
unfolding data_of
as_compared u m e = rest u m ∙ by (leb 4 (length u)) refl
  where
    by : (b : Bool) → leb 4 (length u) ≡ b → drop m u ≡ drop 4 u
    by true p =
        let k = leb-true 4 (length u) p in
        let h : m ≡ 4 = omega arith in
        rw h
    by false p =
        let k = leb-false 4 (length u) p in
        let h : length u ≤ m = omega arith in
        let i : length u ≤ 4 = omega arith in
        rw (drop_of_length-le u h, drop_of_length-le u i)

-- The image written part by part is the image.
use mathlib.Core.Path.{◌≡◌, refl}
use mathlib.Core.List.{List, [], ◌++◌, append-nil}
use Prim.Native.Nat.{ℕ, ◌+◌, ◌-◌, ◌*◌, ◌≤◌}
use native.Mathlib.Omega.{arith}
use lib.ListN.{length, drop, replicate, length-append, length-replicate, drop_of_length-le}
use Rattle.buffer.specs.Runs.{over}
use Rattle.buffer.proofs.Over.{grow, over_over}
use Rattle.image.specs.Layouts.{triples}
use Rattle.image.specs.FormA.{head, mark, list_part, framed_part, form_a}
use Rattle.image.proofs.Layouts.{triples_length}

pub list_length : (l : List ℕ) → length (list_part l) ≡ 3 * length l + 3
unfolding list_part
list_length l = omega (arith, length-append (triples l) mark, triples_length l)

pub framed_length : (sp bd : List ℕ) → length (framed_part sp bd) ≡ 32 + 3 * length sp + 3 * length bd
unfolding framed_part
framed_length sp bd =
    let top = head (length sp) (length bd) in
    omega (arith, length-append (top ++ list_part sp) (list_part bd), length-append top (list_part sp), list_length sp, list_length bd)

pub image_length : (sp bd : List ℕ) → length sp ≤ 32 → length bd ≤ 100 → length (form_a sp bd) ≡ 532
unfolding form_a
image_length sp bd n m =
    omega (arith, length-append (framed_part sp bd) (replicate (532 - length (framed_part sp bd)) 0), length-replicate {A = ℕ} (532 - length (framed_part sp bd)) 0, framed_length sp bd)

-- a list's entries, then its mark
pub list_written : (at : ℕ) (l o : List ℕ) → at + 3 * length l + 3 ≤ length o → over (at + 3 * length l) mark (over at (triples l) o) ≡ over at (list_part l) o
unfolding list_part
list_written at l o h = over_over at (triples l) mark o (at + 3 * length l) (omega (arith, triples_length l)) (omega arith)

-- head, both lists and the zeros, each written after the last
pub built : (sp bd o : List ℕ) → length o ≡ 532 → length sp ≤ 32 → length bd ≤ 100
    → over (32 + 3 * length sp + 3 * length bd) (replicate (500 - 3 * length sp - 3 * length bd) 0)
    (over (29 + 3 * length sp) (list_part bd) (over 26 (list_part sp) (over 0 (head (length sp) (length bd)) o)))
    ≡ form_a sp bd
unfolding form_a framed_part
built sp bd o h n m =
    let top = head (length sp) (length bd) in
    let a = 29 + 3 * length sp in
    let z = 32 + 3 * length sp + 3 * length bd in
    let k = 500 - 3 * length sp - 3 * length bd in
    let zeros : List ℕ = replicate k 0 in
    let ls = list_length sp in
    let lb = list_length bd in
    let ea : 26 + length (list_part sp) ≡ a = omega arith in
    let ez : a + length (list_part bd) ≡ z = omega arith in
    let p1 = length-append top (list_part sp) in
    let p2 = length-append (top ++ list_part sp) (list_part bd) in
    let la : length (top ++ list_part sp) ≡ a = omega arith in
    let lz : length (top ++ list_part sp ++ list_part bd) ≡ z = omega arith in
    let s1 = grow [] top o 0 refl in
    let s2 = rw ea at (grow top (list_part sp) o 26 refl) in
    let s3 = rw ez at (grow (top ++ list_part sp) (list_part bd) o a la) in
    let s4 = grow (top ++ list_part sp ++ list_part bd) zeros o z lz in
    let lk = length-replicate {A = ℕ} k 0 in
    let none : drop (z + length zeros) o ≡ [] = drop_of_length-le o {i = z + length zeros} (omega arith) in
    let e : k ≡ 532 - length (top ++ list_part sp ++ list_part bd) = omega arith in
    rw (s1, s2, s3, s4, none, append-nil (top ++ list_part sp ++ list_part bd ++ zeros), ← e)

-- Form B written part by part is the image, and what was added up on the way is its sum.
use mathlib.Core.Path.{◌≡◌, refl, ap, sym, ◌∙◌}
use mathlib.Core.List.{List, [], ◌∷◌, ◌++◌, append-nil}
use Prim.Native.Nat.{ℕ, suc, ◌+◌, ◌-◌, ◌*◌, ◌/◌, ◌%◌, ◌≤◌, ◌<◌}
use native.Mathlib.Omega.{arith}
use native.Mathlib.Numerals.{add-one}
use lib.ListN.{length, take, drop, get_or, replicate, length-append, length-replicate, drop_of_length-le}
use lib.Seq.{take-suc, length-take-le, get_or-drop}
use Rattle.buffer.specs.Runs.{over, sum}
use Rattle.buffer.proofs.Over.{grow, over_over}
use Rattle.buffer.proofs.Sums.{sum_append, sum_zeros}
use Rattle.image.specs.Layouts.{triple, triples}
use Rattle.image.specs.FormB.{two_bytes, head_b, quad, quads, listed_part, summed_part, form_b}
use Rattle.image.proofs.Layouts.{triples_length}

-- THE HEAD: counts and offsets are below 256
abbrev pub head_bytes : ℕ → ℕ → ℕ → List ℕ
head_bytes run n m =
    0xF0 ∷ 0x78 ∷ 0x3C ∷ 0x1E
    ∷ run / 16777216 % 256 ∷ run / 65536 % 256 ∷ run / 256 % 256 ∷ run % 256
    ∷ 0 ∷ n ∷ 0 ∷ 16
    ∷ 0 ∷ m ∷ 0 ∷ (16 + 4 * n)
    ∷ []

pub head_bytes_lem : (run n m : ℕ) → n ≤ 32 → m ≤ 100 → head_b run n m ≡ head_bytes run n m
unfolding head_b two_bytes
head_bytes_lem run n m p q =
    let a : run / 65536 / 256 % 256 ≡ run / 16777216 % 256 = omega arith in
    let b : n / 256 % 256 ≡ 0 = omega arith in
    let c : n % 256 ≡ n = omega arith in
    let d : m / 256 % 256 ≡ 0 = omega arith in
    let e : m % 256 ≡ m = omega arith in
    let f : (16 + 4 * n) / 256 % 256 ≡ 0 = omega arith in
    let g : (16 + 4 * n) % 256 ≡ 16 + 4 * n = omega arith in
    rw (a, b, c, d, e, f, g)

pub head_length : (run n m : ℕ) → length (head_b run n m) ≡ 16
unfolding head_b two_bytes
head_length run n m = refl

-- THE SPARE LIST
pub quads_length : (l cs : List ℕ) → length (quads l cs) ≡ 4 * length l
unfolding quads quad triple
quads_length [] cs = refl
quads_length (x ∷ xs) cs = omega (arith, quads_length xs (drop 1 cs))

pub quads_snoc : (l : List ℕ) (x : ℕ) (cs : List ℕ) → quads (l ++ (x ∷ [])) cs ≡ quads l cs ++ quad x (get_or cs (length l) 0)
unfolding quads quad triple
quads_snoc [] x cs = refl
quads_snoc (y ∷ ys) x cs =
    let e : 1 + length ys ≡ suc (length ys) = omega arith in
    let g = get_or-drop 1 cs (length ys) 0 ∙ ap (λ (k : ℕ). get_or cs k 0) e in
    ap {B = List ℕ} (λ (l : List ℕ). quad y (get_or cs 0 0) ++ l) (quads_snoc ys x (drop 1 cs) ∙ ap (λ (c : ℕ). quads ys (drop 1 cs) ++ quad x c) g)

next_quads : (l cs : List ℕ) (k : ℕ) → k < length l → quads (take (k + 1) l) cs ≡ quads (take k l) cs ++ quad (get_or l k 0) (get_or cs k 0)
next_quads l cs k h =
    let n = length-take-le k l (omega arith) in
    rw (add-one, take-suc l k 0 h) (quads_snoc (take k l) (get_or l k 0) cs ∙ ap (λ (j : ℕ). quads (take k l) cs ++ quad (get_or l k 0) (get_or cs j 0)) n)

-- a spare entry written after those before it, and its bytes added
pub spare_step : (at : ℕ) (l cs o : List ℕ) (k : ℕ) → k < length l → at + 4 * k ≤ length o
    → over (at + 4 * k) (quad (get_or l k 0) (get_or cs k 0)) (over at (quads (take k l) cs) o) ≡ over at (quads (take (k + 1) l) cs) o
spare_step at l cs o k h m =
    let n = quads_length (take k l) cs in
    let t = length-take-le k l (omega arith) in
    rw (next_quads l cs k h) (over_over at (quads (take k l) cs) (quad (get_or l k 0) (get_or cs k 0)) o (at + 4 * k) (omega (arith, n, t)) m)

pub spare_summed : (l cs : List ℕ) (k : ℕ) → k < length l
    → sum (quads (take k l) cs) + sum (quad (get_or l k 0) (get_or cs k 0)) ≡ sum (quads (take (k + 1) l) cs)
spare_summed l cs k h = rw (next_quads l cs k h) (sym (sum_append (quads (take k l) cs) (quad (get_or l k 0) (get_or cs k 0))))

-- THE WHOLE
module _ (run : ℕ) (sp cs bd : List ℕ) where
  abbrev top : List ℕ
  top = head_b run (length sp) (length bd)

  pub listed_length : length (listed_part run sp cs bd) ≡ 16 + 4 * length sp + 3 * length bd
  unfolding listed_part
  listed_length =
      omega (
        arith,
        length-append (top ++ quads sp cs) (triples bd),
        length-append top (quads sp cs),
        head_length run (length sp) (length bd),
        quads_length sp cs,
        triples_length bd,
      )

  pub summed_length : length sp ≤ 32 → length bd ≤ 100 → length (summed_part run sp cs bd) ≡ 530
  unfolding summed_part
  summed_length n m =
      let k = 530 - length (listed_part run sp cs bd) in
      omega (arith, length-append (listed_part run sp cs bd) (replicate k 0), length-replicate {A = ℕ} k 0, listed_length)

  -- the sum of the image is that of its parts
  pub summed_parts : sum top + sum (quads sp cs) + sum (triples bd) ≡ sum (summed_part run sp cs bd)
  unfolding summed_part listed_part
  summed_parts =
      let k = 530 - length (listed_part run sp cs bd) in
      omega (
        arith,
        sum_append (top ++ quads sp cs ++ triples bd) (replicate (530 - length (top ++ quads sp cs ++ triples bd)) 0),
        sum_append (top ++ quads sp cs) (triples bd),
        sum_append top (quads sp cs),
        sum_zeros (530 - length (top ++ quads sp cs ++ triples bd)),
      )

  -- head, both lists, the zeros and the sum, each written after the last
  pub built : (o : List ℕ) → length o ≡ 532 → length sp ≤ 32 → length bd ≤ 100
      → over 530 (two_bytes ((sum top + sum (quads sp cs) + sum (triples bd)) % 65536))
      (over (16 + 4 * length sp + 3 * length bd) (replicate (514 - 4 * length sp - 3 * length bd) 0)
      (over (16 + 4 * length sp) (triples bd) (over 16 (quads sp cs) (over 0 top o))))
      ≡ form_b run sp cs bd
  unfolding form_b summed_part listed_part two_bytes
  built o h n m =
      let a = 16 + 4 * length sp in
      let z = 16 + 4 * length sp + 3 * length bd in
      let k = 514 - 4 * length sp - 3 * length bd in
      let zeros : List ℕ = replicate k 0 in
      let t = head_length run (length sp) (length bd) in
      let ls = quads_length sp cs in
      let lb = triples_length bd in
      let lk = length-replicate {A = ℕ} k 0 in
      let p1 = length-append top (quads sp cs) in
      let p2 = length-append (top ++ quads sp cs) (triples bd) in
      let p3 = length-append (top ++ quads sp cs ++ triples bd) zeros in
      let e0 : 0 + length top ≡ 16 = omega (arith, t) in
      let ea : 16 + length (quads sp cs) ≡ a = omega (arith, ls) in
      let ez : a + length (triples bd) ≡ z = omega (arith, lb) in
      let el : z + length zeros ≡ 530 = omega (arith, lk) in
      let la : length (top ++ quads sp cs) ≡ a = omega (arith, p1, t, ls) in
      let lz : length (top ++ quads sp cs ++ triples bd) ≡ z = omega (arith, p2, la, lb) in
      let ll : length (top ++ quads sp cs ++ triples bd ++ zeros) ≡ 530 = omega (arith, p3, lz, lk) in
      let last = two_bytes ((sum top + sum (quads sp cs) + sum (triples bd)) % 65536) in
      let s1 = rw e0 at (grow [] top o 0 refl) in
      let s2 = rw ea at (grow top (quads sp cs) o 16 t) in
      let s3 = rw ez at (grow (top ++ quads sp cs) (triples bd) o a la) in
      let s4 = rw el at (grow (top ++ quads sp cs ++ triples bd) zeros o z lz) in
      let s5 = grow (top ++ quads sp cs ++ triples bd ++ zeros) last o 530 ll in
      let none : drop (530 + length last) o ≡ [] = drop_of_length-le o {i = 530 + length last} (omega arith) in
      let e : k ≡ 530 - length (top ++ quads sp cs ++ triples bd) = omega (arith, lz) in
      rw (s1, s2, s3, s4, s5, none, append-nil (top ++ quads sp cs ++ triples bd ++ zeros ++ last), ← e) (rw (← e) at (ap (λ (x : ℕ). top ++ quads sp cs ++ triples bd ++ zeros ++ two_bytes (x % 65536)) summed_parts))

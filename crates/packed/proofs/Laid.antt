-- What is written into a record's words is its packing.
use mathlib.Core.Path.{◌≡◌, ap, sym, ◌∙◌}
use mathlib.Core.List.{List, [], ◌∷◌, ◌++◌, append-nil}
use Prim.Native.Nat.{ℕ, ◌+◌}
use native.Mathlib.Omega.{arith}
use lib.ListN.{length, set, take, drop, length-append, drop_of_length-le}
use Rattle.buffer.specs.Runs.{over}
use Rattle.buffer.proofs.Over.{over_none, over_over, over_snoc}

-- A run that ends where the words end leaves what is before it.
pub over_tail : (k : ℕ) (s u : List ℕ) → k + length s ≡ length u → over k s u ≡ take k u ++ s
unfolding over
over_tail k s u h = rw (drop_of_length-le u {i = k + length s} (omega arith)) (append-nil (take k u ++ s))

-- A run of 23 words takes the place of the first 23.
pub state_laid : (s w : List ℕ) → length s ≡ 23 → over 0 s w ≡ s ++ drop 23 w
unfolding over
state_laid s w h = rw h

-- Two counts and three runs behind them fill the words from word 23 on.
pub table_laid : (w : List ℕ) (n m : ℕ) (s b c : List ℕ) → length w ≡ 189 → length s ≡ 32 → length b ≡ 100 → length c ≡ 32
    → over 157 c (over 57 b (over 25 s (set (set w 23 n) 24 m))) ≡ take 23 w ++ ((n ∷ m ∷ (s ++ b)) ++ c)
table_laid w n m s b c hw hs hb hc =
    let r = n ∷ m ∷ [] in
    let f : set (set w 23 n) 24 m ≡ over 23 r w = ap (λ (l : List ℕ). set (set l 23 n) 24 m) (sym (over_none 23 w)) ∙ ap (λ (l : List ℕ). set l 24 m) (over_snoc 23 [] w n (omega arith)) ∙ over_snoc 23 (n ∷ []) w m (omega arith) in
    let k = length-append r s in
    let l = length-append (r ++ s) b in
    ap (λ (v : List ℕ). over 157 c (over 57 b (over 25 s v))) f
    ∙ ap (λ (v : List ℕ). over 157 c (over 57 b v)) (over_over 23 r s w 25 (omega arith) (omega arith))
    ∙ ap (over 157 c) (over_over 23 (r ++ s) b w 57 (omega arith) (omega arith))
    ∙ over_over 23 ((r ++ s) ++ b) c w 157 (omega arith) (omega arith)
    ∙ over_tail 23 (((r ++ s) ++ b) ++ c) w (omega (arith, length-append ((r ++ s) ++ b) c))

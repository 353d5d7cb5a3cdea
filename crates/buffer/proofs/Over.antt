-- A run written into a list, and a run written after another.
use mathlib.Core.Path.{◌≡◌, ap, sym, ◌∙◌}
use mathlib.Core.List.{List, [], ◌∷◌, ◌++◌, append_assoc, append-nil}
use Prim.Native.Nat.{ℕ, suc, ◌+◌, ◌≤◌, ◌<◌}
use native.Mathlib.Omega.{arith}
use lib.ListN.{length, take, drop, get_or, set, length-append, length-drop, take-append-drop, drop_of_length-le}
use native.Mathlib.Numerals.{add-one}
use lib.Seq.{take_at, take-suc, take_all, drop-append-add, drop-drop, drop-cons, set_at, append_snoc, length-take-le}
use borrow.Rule.Slice.PartMut.{put_mid}
use Rattle.buffer.specs.Runs.{over}

-- a part of a slice that was written, as `out[at..at + k]`, is a run written at its place
pub over_part : {X : Type 0} (at k : ℕ) (out new run : List X) → new ≡ run → k ≡ length run → put_mid at k out new ≡ over at run out
unfolding over
over_part at k out new run e n = rw (e, n, drop-drop (length run) at out) (sym (append_assoc (take at out) run _))

-- a list of which the first part is done: the next run extends that part
pub grow : (done run o : List ℕ) (at : ℕ) → length done ≡ at → over at run (done ++ drop at o) ≡ done ++ run ++ drop (at + length run) o
unfolding over
grow done run o at e =
    let t = take_at done (drop at o) at e in
    let d = ap (λ (k : ℕ). drop (k + length run) (done ++ drop at o)) (sym e) ∙ drop-append-add done (drop at o) (length run) ∙ drop-drop (length run) at o in
    rw (t, d)

-- nothing written
pub over_none : {X : Type 0} (at : ℕ) (o : List X) → over at [] o ≡ o
unfolding over
over_none at o =
    let z : at + 0 ≡ at = omega arith in
    rw (z, append-nil (take at o)) (take-append-drop at o)

head_length : {X : Type 0} (at : ℕ) (run o : List X) → at ≤ length o → length (take at o ++ run) ≡ at + length run
head_length at run o h = omega (arith, length-append (take at o) run, length-take-le at o h)

-- one run written after another is both written at once
pub over_over : (at : ℕ) (r q o : List ℕ) (k : ℕ) → at + length r ≡ k → k ≤ length o → over k q (over at r o) ≡ over at (r ++ q) o
unfolding over
over_over at r q o k e h =
    let n = length-append r q in
    let m : k + length q ≡ at + length (r ++ q) = omega (arith, n) in
    ap (λ (j : ℕ). over k q (take at o ++ r ++ drop j o)) e
    ∙ grow (take at o ++ r) q o k (head_length at r o (omega arith) ∙ e)
    ∙ rw (append_assoc (take at o) r q, m)

-- one byte stored after a run
pub over_snoc : {X : Type 0} (at : ℕ) (run o : List X) (x : X) → at + length run < length o → set (over at run o) (at + length run) x ≡ over at (run ++ (x ∷ [])) o
unfolding over
over_snoc {X} at run o x h =
    let n = at + length run in
    let l = head_length at run o (omega arith) in
    let m : at + length (run ++ (x ∷ [])) ≡ suc n = omega (arith, length-append run (x ∷ [])) in
    rw (drop-cons o n x h, set_at (take at o ++ run) (get_or o n x) (drop (suc n) o) x n l, m)
    (sym (append_snoc (take at o ++ run) x (drop (suc n) o)) ∙ ap (λ (l : List X). l ++ drop (suc n) o) (append_assoc (take at o) run (x ∷ [])))

-- the first i of a run written, then its next, and all of it
pub over_more : {X : Type 0} (at i : ℕ) (run o : List X) (d : X) → i < length run → at + length run ≤ length o
    → set (over at (take i run) o) (at + i) (get_or run i d) ≡ over at (take (i + 1) run) o
over_more at i run o d h m =
    let n = length-take-le i run (omega arith) in
    rw (add-one, take-suc run i d h) (rw n at (over_snoc at (take i run) o (get_or run i d) (omega arith)))

pub over_whole : {X : Type 0} (at i : ℕ) (run o : List X) → length run ≤ i → over at (take i run) o ≡ over at run o
over_whole at i run o h = rw (take_all i run h)

-- a walk that writes
pub ruleset writing = (over_none, over_more, over_whole)

pub over_length : (at : ℕ) (run o : List ℕ) → at + length run ≤ length o → length (over at run o) ≡ length o
unfolding over
over_length at run o h =
    omega (arith, length-append (take at o ++ run) (drop (at + length run) o), head_length at run o (omega arith), length-drop (at + length run) o)

-- a run as long as the list replaces it
pub over_all : (run o : List ℕ) → length run ≡ length o → over 0 run o ≡ run
unfolding over
over_all run o e = rw (drop_of_length-le o {i = 0 + length run} (omega arith)) (append-nil run)

-- Texts laid one after another into a lent buffer.
use mathlib.Core.Path.{◌≡◌, refl, ap, sym, ◌∙◌}
use mathlib.Core.List.{List, [], ◌∷◌, ◌++◌}
use Prim.Native.Nat.{ℕ, suc, ◌+◌, ◌≤◌, ◌<◌}
use native.Mathlib.Numerals.{add-one}
use native.Mathlib.Omega.{arith}
use borrow.Author.Tests.{lt-ltb, le-ltb}
use lib.ListN.{length, take, get_or, set, length-set}
use lib.Seq.{take-suc, set_out}
use Rattle.buffer.specs.Runs.{over}
use Rattle.buffer.proofs.Over.{over_none, over_over, over_snoc}
use Rattle.test_text.specs.Printing.{Out, pushed, laid}

pub laid_append : (w v : List ℕ) (o : Out) → laid (w ++ v) o ≡ laid v (laid w o)
unfolding laid
laid_append [] v o = refl
laid_append (ch ∷ w) v o = laid_append w v (pushed ch o)

-- one character more of a word
pub laid_more : (word : List ℕ) (i : ℕ) (o : Out) → i < length word → laid (take (i + 1) word) o ≡ laid (get_or word i 0 ∷ []) (laid (take i word) o)
laid_more word i o h = rw (add-one, take-suc word i 0 h) (laid_append (take i word) (get_or word i 0 ∷ []) o)

-- of what is still to be laid, the first part is laid
pub passed : (w v : List ℕ) (p : Out) {q z : Out} → laid (w ++ v) p ≡ z → q ≡ laid w p → laid v q ≡ z
passed w v p e f = ap (laid v) f ∙ sym (laid_append w v p) ∙ e

-- a character with room for it, and one without
pub pushed_in : (ch : ℕ) (o : Out) → o.at < length o.buffer → ◌≡◌ {A = Out} (record { at = o.at + 1; buffer = set o.buffer o.at ch }) (laid (ch ∷ []) o)
unfolding laid
pushed_in ch o h = rw (lt-ltb _ _ h)

pub pushed_out : (ch : ℕ) (o : Out) → length o.buffer ≤ o.at → o ≡ laid (ch ∷ []) o
unfolding laid
pushed_out ch o h = rw (le-ltb _ _ h, set_out _ _ _ h)

pub ruleset pushing = (pushed_in, pushed_out)

-- WITH ROOM a text is laid whole: over what stood there, and nothing else changes
pub with_room : (w buffer : List ℕ) (at : ℕ) → at + length w ≤ length buffer
    → laid w (record { at = at; buffer = buffer }) ≡ record { at = at + length w; buffer = over at w buffer }
unfolding laid
with_room [] buffer at h =
    let e : at + 0 ≡ at = omega arith in
    rw (e, over_none at buffer)
with_room (ch ∷ w) buffer at h =
    let z : at + 0 ≡ at = omega arith in
    let s = rw (over_none at buffer, z) at (over_snoc at [] buffer ch (omega arith)) in
    let n : at + 1 + length w ≡ at + suc (length w) = omega arith in
    let o = over_over at (ch ∷ []) w buffer (at + 1) refl (omega arith) in
    let r = with_room w (set buffer at ch) (at + 1) (omega (arith, length-set buffer at ch)) in
    rw (lt-ltb at (length buffer) (omega arith)) (r ∙ rw (n, s, o))

-- without room nothing changes
pub no_room : (w buffer : List ℕ) (at : ℕ) → length buffer ≤ at → laid w (record { at = at; buffer = buffer }) ≡ record { at = at; buffer = buffer }
unfolding laid
no_room [] buffer at h = refl
no_room (ch ∷ w) buffer at h = rw (le-ltb at (length buffer) h, set_out buffer at ch h) (no_room w buffer at h)

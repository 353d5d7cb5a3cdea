-- What the tests and searches of a list are at a place of a walk.
use mathlib.Core.Path.{◌≡◌, refl, ap, sym, ◌∙◌}
use mathlib.Core.Bool.{Bool, true, false, ◌||◌}
use mathlib.Core.List.{List, [], ◌∷◌}
use Prim.Native.Nat.{ℕ, zero, suc, ◌%◌, ◌+◌, ◌≤◌, ◌<◌}
use borrow.Author.Tests.{eq-eqb, ne_eqb, eqb-true, eqb-false}
use lib.Dec.{eqb}
use lib.ListN.{length, drop, get_or, set, replicate, drop_of_length-le}
use lib.Seq.{get_or-set_same, get_or-set_other}
use Rattle.lists.specs.Lists.{index_of, member_of, entry_ok, entries_ok}
use Rattle.logic.proofs.Bools.{clash, and_false}
use Rattle.logic.proofs.Walks.{step}

-- a search from the front: x is here, or further on, or nowhere
pub here : (x : ℕ) (s : List ℕ) (i : ℕ) → i < length s → get_or s i 0 ≡ x → (member_of x (drop i s) ≡ true) × (index_of x (drop i s) ≡ 0)
unfolding index_of member_of
here x s i h e = rw (step s i h) (simp (eq-eqb _ _ e) (refl, refl))

pub further : (x : ℕ) (s : List ℕ) (i : ℕ) → i < length s → (get_or s i 0 ≡ x → ⊥)
    → (member_of x (drop i s) ≡ member_of x (drop (i + 1) s)) × (index_of x (drop i s) ≡ suc (index_of x (drop (i + 1) s)))
unfolding index_of member_of
further x s i h e = rw (step s i h) (simp (ne_eqb _ _ e) (refl, refl))

pub nowhere : (x : ℕ) (s : List ℕ) (i : ℕ) → length s ≤ i → member_of x (drop i s) ≡ false
unfolding member_of
nowhere x s i h = rw (drop_of_length-le s h)

pub ruleset searching = (here, further, nowhere)

-- membership gathered from the front
pub gathered : (t : Bool) (x : ℕ) (s : List ℕ) (i : ℕ) → i < length s → (t || eqb (get_or s i 0) x || member_of x (drop (i + 1) s)) ≡ (t || member_of x (drop i s))
unfolding member_of
gathered true x s i h = refl
gathered false x s i h = rw (step s i h)

pub gathered_all : (t : Bool) (x : ℕ) (s : List ℕ) (i : ℕ) → length s ≤ i → (t || member_of x (drop i s)) ≡ t
unfolding member_of
gathered_all true x s i h = refl
gathered_all false x s i h = rw (drop_of_length-le s h)

pub ruleset gathering = (gathered, gathered_all)

-- a test from the end: an entry that fails makes the whole fail, and one that passes leaves it to the rest
pub fails : (marks : Bool) (s : List ℕ) (i : ℕ) → entries_ok marks (drop i s) ≡ false → entries_ok marks s ≡ false
unfolding entries_ok
fails marks s zero h = h
fails marks [] (suc i) h = h
fails marks (x ∷ s) (suc i) h = and_false (entry_ok marks x s) _ (fails marks s i h)

pub fails_at : (marks : Bool) (s : List ℕ) (i : ℕ) → i < length s → entry_ok marks (get_or s i 0) (drop (i + 1) s) ≡ false → entries_ok marks s ≡ false
unfolding entries_ok
fails_at marks s i h e = fails marks s i (rw (step s i h) (rw e))

pub passes_at : (marks : Bool) (s : List ℕ) (i j : ℕ) → i < length s → i + 1 ≡ j → entry_ok marks (get_or s i 0) (drop (i + 1) s) ≡ true
    → entries_ok marks (drop i s) ≡ entries_ok marks (drop j s)
unfolding entries_ok
passes_at marks s i j h e t = rw (step s i h) (rw (t, e))

pub passes_none : (marks : Bool) (s : List ℕ) (i : ℕ) → length s ≤ i → entries_ok marks (drop i s) ≡ true
unfolding entries_ok
passes_none marks s i h = rw (drop_of_length-le s h)

-- what the w classes tell of a list: a number whose class was not seen is not in it
abbrev pub Classes : ℕ → List Bool → List ℕ → Type 0
Classes w seen l = (y : ℕ) → get_or seen (y % w) false ≡ false → member_of y l ≡ false

seen_by : (t : Bool) (w : ℕ) (seen : List Bool) (l : List ℕ) (x y : ℕ) → eqb (y % w) (x % w) ≡ t → x % w < length seen → Classes w seen l
    → get_or (set seen (x % w) true) (y % w) false ≡ false → member_of y (x ∷ l) ≡ false
unfolding member_of
seen_by true w seen l x y q n h e =
    let z = eqb-true (y % w) (x % w) q in
    clash (get_or-set_same seen (x % w) true false n) (rw z at e)
seen_by false w seen l x y q n h e =
    let d = eqb-false (y % w) (x % w) q in
    let f = ne_eqb x y (λ (g : x ≡ y). d (ap (λ (a : ℕ). a % w) (sym g))) in
    rw f (h y (sym (get_or-set_other seen (x % w) (y % w) true false d) ∙ e))

pub classes_more : (w : ℕ) (seen : List Bool) (s : List ℕ) (i j k : ℕ) → i < length s → i + 1 ≡ j → k ≡ get_or s i 0 % w → k < length seen
    → Classes w seen (drop j s) → Classes w (set seen k true) (drop i s)
classes_more w seen s i j k h e q n m y =
    let x = get_or s i 0 in
    rw (q, step s i h, e) (seen_by (eqb (y % w) (x % w)) w seen (drop j s) x y refl (rw q at n) m)

-- a walk from the end
pub ruleset passing = (nowhere, fails_at, passes_at, passes_none, classes_more)

-- no class is seen at first
pub none_seen : (n y : ℕ) → get_or {A = Bool} (replicate n false) y false ≡ false
none_seen zero y = refl
none_seen (suc n) zero = refl
none_seen (suc n) (suc y) = none_seen n y

-- Laws of membership, of an entry's place, and of the changes that a list of entries meets.
use mathlib.Core.Path.{◌≡◌, refl, ap, sym, ◌∙◌}
use mathlib.Core.Bool.{Bool, true, false, not, cond, ◌&&◌, ◌||◌}
use mathlib.Core.List.{List, [], ◌∷◌, ◌++◌}
use Rattle.std.specs.Prelude.{Some, None}
use Prim.Native.Nat.{ℕ, zero, suc, ◌≤◌, ◌<◌}
use native.Mathlib.Omega.{arith}
use borrow.Author.Tests.{eq-eqb, ne_eqb, eqb-true, eqb-false, not-true, lt-ltb, le-ltb, ltb-true}
use lib.Dec.{eqb, ltb}
use lib.ListN.{length, take, get_or, length-set, length-take}
use Rattle.geometry.specs.Geometry.{is_block}
use Rattle.lists.specs.Lists.{dead, index_of, place_of, member_of, entry_ok, entries_ok, kill, strike}
use Rattle.logic.proofs.Bools.{clash, and_left, and_right, and_true, or_left, or_right, or_false}

-- equality of numbers, the other way round
eqb_swap : (x y : ℕ) → eqb x y ≡ false → eqb y x ≡ false
eqb_swap x y e = ne_eqb y x (λ q. eqb-false x y e (sym q))

-- A block is no dead mark.
pub block_live : (x : ℕ) → is_block x ≡ true → eqb x dead ≡ false
block_live x h = let p = ltb-true x 9728 h in ne_eqb x dead (λ q. omega arith)

-- A block that is not among the entries may be beside them, and the dead mark beside those of a spare list.
pub new_beside : (marks : Bool) (x : ℕ) (l : List ℕ) → is_block x ≡ true → member_of x l ≡ false → entry_ok marks x l ≡ true
unfolding entry_ok
new_beside marks x l b n = rw (block_live x b, b, n)

pub dead_beside : (l : List ℕ) → entry_ok true dead l ≡ true
unfolding entry_ok
dead_beside l = refl

-- a list that passed the test: its first entry, and the rest
pub first_ok : (marks : Bool) (x : ℕ) (l : List ℕ) → entries_ok marks (x ∷ l) ≡ true → entry_ok marks x l ≡ true
unfolding entries_ok
first_ok marks x l = and_left (entry_ok marks x l) (entries_ok marks l)

pub rest_ok : (marks : Bool) (x : ℕ) (l : List ℕ) → entries_ok marks (x ∷ l) ≡ true → entries_ok marks l ≡ true
unfolding entries_ok
rest_ok marks x l = and_right (entry_ok marks x l) (entries_ok marks l)

-- A member is at its index, and what is no member has the length for one.
pub index_in : (x : ℕ) (l : List ℕ) → member_of x l ≡ true → (index_of x l < length l) × (get_or l (index_of x l) 0 ≡ x)
unfolding member_of index_of
index_in x [] h = clash h refl
index_in x (y ∷ ys) h = go (eqb y x) refl h (index_in x ys)
  where
    go : (t : Bool) → eqb y x ≡ t → (t || member_of x ys) ≡ true
        → (member_of x ys ≡ true → (index_of x ys < length ys) × (get_or ys (index_of x ys) 0 ≡ x))
        → (cond t 0 (suc (index_of x ys)) < suc (length ys)) × (get_or (y ∷ ys) (cond t 0 (suc (index_of x ys))) 0 ≡ x)
    go true e h r = (omega arith, eqb-true y x e)
    go false e h r = let p = r h in (omega (arith, p.0), p.1)

pub index_out : (x : ℕ) (l : List ℕ) → member_of x l ≡ false → index_of x l ≡ length l
unfolding member_of index_of
index_out x [] h = refl
index_out x (y ∷ ys) h = rw (or_left (eqb y x) (member_of x ys) h) (ap suc (index_out x ys (or_right (eqb y x) (member_of x ys) h)))

pub index_most : (x : ℕ) (l : List ℕ) → index_of x l ≤ length l
index_most x l = go (member_of x l) refl
  where
    go : (t : Bool) → member_of x l ≡ t → index_of x l ≤ length l
    go true e = let p = index_in x l e in omega (arith, p.0)
    go false e = omega (arith, index_out x l e)

-- to be a member is to have a place below the length
pub member_index : (x : ℕ) (l : List ℕ) → member_of x l ≡ ltb (index_of x l) (length l)
member_index x l = go (member_of x l) refl
  where
    go : (t : Bool) → member_of x l ≡ t → t ≡ ltb (index_of x l) (length l)
    go true e = sym (lt-ltb (index_of x l) (length l) (index_in x l e).0)
    go false e = sym (le-ltb (index_of x l) (length l) (omega (arith, index_out x l e)))

pub member_at : (x : ℕ) (l : List ℕ) (k : ℕ) → k < length l → get_or l k 0 ≡ x → member_of x l ≡ true
unfolding member_of
member_at x [] k h e = absurd (omega arith)
member_at x (y ∷ ys) zero h e = rw (eq-eqb y x e)
member_at x (y ∷ ys) (suc k) h e = go (eqb y x) (member_at x ys k (omega arith) e)
  where
    go : (t : Bool) → member_of x ys ≡ true → (t || member_of x ys) ≡ true
    go true q = refl
    go false q = q

-- A place that was found is that of a member, and none is found of what is no member.
pub found : (x : ℕ) (l : List ℕ) (k : ℕ) → Some k ≡ place_of x l → (member_of x l ≡ true) × (index_of x l ≡ k) × (k < length l)
found x l k e = go (member_of x l) refl e
  where
    go : (t : Bool) → member_of x l ≡ t → Some k ≡ cond t (Some (index_of x l)) None → (member_of x l ≡ true) × (index_of x l ≡ k) × (k < length l)
    go true m e = let q : k ≡ index_of x l = cc in (m, sym q, omega (arith, q, (index_in x l m).0))
    go false m e = cc

pub not_found : (x : ℕ) (l : List ℕ) → None ≡ place_of x l → (member_of x l ≡ false) × (index_of x l ≡ length l)
not_found x l e = go (member_of x l) refl e
  where
    go : (t : Bool) → member_of x l ≡ t → None ≡ cond t (Some (index_of x l)) None → (member_of x l ≡ false) × (index_of x l ≡ length l)
    go true m e = cc
    go false m e = (m, index_out x l m)

-- in the list that is the first n places of an array
pub found_in : (x n : ℕ) (a : List ℕ) (k : ℕ) → Some k ≡ place_of x (take n a) → (k < n) × (k < length a)
found_in x n a k e = let p = found x (take n a) k e in (omega (arith, length-take n a), omega (arith, length-take n a))

pub not_found_in : (x n : ℕ) (a : List ℕ) → n ≤ length a → None ≡ place_of x (take n a) → index_of x (take n a) ≡ n
not_found_in x n a h e = let p = not_found x (take n a) e in omega (arith, length-take n a)

pub ruleset finding = (found, not_found, found_in, not_found_in)

-- An entry more at the end.
pub member_snoc : (x y : ℕ) (l : List ℕ) → eqb y x ≡ false → member_of x (l ++ (y ∷ [])) ≡ member_of x l
unfolding member_of
member_snoc x y [] e = rw e
member_snoc x y (z ∷ zs) e = ap (λ (t : Bool). eqb z x || t) (member_snoc x y zs e)

pub index_snoc : (x y : ℕ) (l : List ℕ) → member_of x l ≡ true → index_of x (l ++ (y ∷ [])) ≡ index_of x l
unfolding member_of index_of
index_snoc x y [] h = clash h refl
index_snoc x y (z ∷ zs) h = go (eqb z x) h (index_snoc x y zs)
  where
    go : (t : Bool) → (t || member_of x zs) ≡ true → (member_of x zs ≡ true → index_of x (zs ++ (y ∷ [])) ≡ index_of x zs)
        → cond t 0 (suc (index_of x (zs ++ (y ∷ [])))) ≡ cond t 0 (suc (index_of x zs))
    go true h r = refl
    go false h r = ap suc (r h)

pub member_last : (x : ℕ) (l : List ℕ) → member_of x (l ++ (x ∷ [])) ≡ true
unfolding member_of
member_last x [] = rw (eq-eqb x x refl)
member_last x (z ∷ zs) = go (eqb z x) (member_last x zs)
  where
    go : (t : Bool) → member_of x (zs ++ (x ∷ [])) ≡ true → (t || member_of x (zs ++ (x ∷ []))) ≡ true
    go true q = refl
    go false q = q

pub index_last : (x : ℕ) (l : List ℕ) → member_of x l ≡ false → index_of x (l ++ (x ∷ [])) ≡ length l
unfolding member_of index_of
index_last x [] h = rw (eq-eqb x x refl)
index_last x (z ∷ zs) h = rw (or_left (eqb z x) (member_of x zs) h) (ap suc (index_last x zs (or_right (eqb z x) (member_of x zs) h)))

-- What may be beside the entries may be after them.
after : (marks : Bool) (x y : ℕ) (l : List ℕ) → entry_ok marks y l ≡ true → (is_block y ≡ true → eqb x y ≡ false) → entry_ok marks y (l ++ (x ∷ [])) ≡ true
unfolding entry_ok
after marks x y l h n = go (eqb y dead) h
  where
    go : (t : Bool) → cond t marks (is_block y && not (member_of y l)) ≡ true → cond t marks (is_block y && not (member_of y (l ++ (x ∷ [])))) ≡ true
    go true h = h
    go false h = let b = and_left (is_block y) (not (member_of y l)) h in rw (member_snoc y x l (n b)) h

-- what may be beside a list is not its first entry, and may be beside the rest
apart : (marks : Bool) (x y : ℕ) (ys : List ℕ) → entry_ok marks x (y ∷ ys) ≡ true → is_block y ≡ true → eqb x y ≡ false
unfolding entry_ok member_of
apart marks x y ys h b = go (eqb x dead) refl h
  where
    go : (t : Bool) → eqb x dead ≡ t → cond t marks (is_block x && not (eqb y x || member_of x ys)) ≡ true → eqb x y ≡ false
    go true e h = ne_eqb x y (λ q. clash (sym (ap (λ (z : ℕ). eqb z dead) q) ∙ e) (block_live y b))
    go false e h = eqb_swap y x (or_left (eqb y x) (member_of x ys) (not-true (eqb y x || member_of x ys) (and_right (is_block x) (not (eqb y x || member_of x ys)) h)))

fewer : (marks : Bool) (x y : ℕ) (ys : List ℕ) → entry_ok marks x (y ∷ ys) ≡ true → entry_ok marks x ys ≡ true
unfolding entry_ok member_of
fewer marks x y ys = go (eqb x dead) (eqb y x)
  where
    go : (t u : Bool) → cond t marks (is_block x && not (u || member_of x ys)) ≡ true → cond t marks (is_block x && not (member_of x ys)) ≡ true
    go true u h = h
    go false false h = h
    go false true h = clash (and_right (is_block x) false h) refl

-- AN ENTRY ADDED keeps a list well formed.
pub entries_snoc : (marks : Bool) (l : List ℕ) (x : ℕ) → entries_ok marks l ≡ true → entry_ok marks x l ≡ true → entries_ok marks (l ++ (x ∷ [])) ≡ true
unfolding entries_ok
entries_snoc marks [] x h o = and_true (entry_ok marks x []) true o refl
entries_snoc marks (y ∷ ys) x h o =
    and_true (entry_ok marks y (ys ++ (x ∷ []))) _
    (after marks x y ys (first_ok marks y ys h) (apart marks x y ys o))
    (entries_snoc marks ys x (rest_ok marks y ys h) (fewer marks x y ys o))

-- a list that passed the test holds a block once: past an entry equal to it there is none
once_only : (marks : Bool) (x y : ℕ) (ys : List ℕ) → entry_ok marks y ys ≡ true → is_block x ≡ true → eqb y x ≡ true → member_of x ys ≡ false
unfolding entry_ok
once_only marks x y ys h b e =
    let q = eqb-true y x e in
    let live : eqb y dead ≡ false = rw q (block_live x b) in
    let h' : (is_block y && not (member_of y ys)) ≡ true = rw live at h in
    rw (← q) (not-true (member_of y ys) (and_right (is_block y) (not (member_of y ys)) h'))

-- Killing an entry, one element at a time.
kill_hit : (x y : ℕ) (ys : List ℕ) → eqb y x ≡ true → kill x (y ∷ ys) ≡ dead ∷ ys
unfolding kill index_of
kill_hit x y ys e = rw e

kill_miss : (x y : ℕ) (ys : List ℕ) → eqb y x ≡ false → kill x (y ∷ ys) ≡ y ∷ kill x ys
unfolding kill index_of
kill_miss x y ys e = rw e

pub kill_length : (x : ℕ) (l : List ℕ) → length (kill x l) ≡ length l
unfolding kill
kill_length x l = length-set l (index_of x l) dead

-- Killing x's entry leaves every other block's entry where it is,
pub kill_index : (x c : ℕ) (l : List ℕ) → is_block c ≡ true → eqb x c ≡ false → index_of c (kill x l) ≡ index_of c l
unfolding index_of kill
kill_index x c [] b n = refl
kill_index x c (y ∷ ys) b n = go (eqb y x) refl (kill_index x c ys b n)
  where
    go : (t : Bool) → eqb y x ≡ t → index_of c (kill x ys) ≡ index_of c ys → index_of c (kill x (y ∷ ys)) ≡ index_of c (y ∷ ys)
    go true e r = rw (kill_hit x y ys e, eqb_swap c dead (block_live c b), eqb-true y x e, n)
    go false e r = rw (kill_miss x y ys e, r)

pub kill_member : (x c : ℕ) (l : List ℕ) → is_block c ≡ true → eqb x c ≡ false → member_of c (kill x l) ≡ member_of c l
unfolding member_of kill
kill_member x c [] b n = refl
kill_member x c (y ∷ ys) b n = go (eqb y x) refl (kill_member x c ys b n)
  where
    go : (t : Bool) → eqb y x ≡ t → member_of c (kill x ys) ≡ member_of c ys → member_of c (kill x (y ∷ ys)) ≡ member_of c (y ∷ ys)
    go true e r = rw (kill_hit x y ys e, eqb_swap c dead (block_live c b), eqb-true y x e, n)
    go false e r = rw (kill_miss x y ys e, r)

-- and x itself is not there any more.
pub kill_gone : (marks : Bool) (x : ℕ) (l : List ℕ) → is_block x ≡ true → entries_ok marks l ≡ true → member_of x (kill x l) ≡ false
unfolding member_of entries_ok kill
kill_gone marks x [] b h = refl
kill_gone marks x (y ∷ ys) b h =
    go (eqb y x) refl (first_ok marks y ys h) (kill_gone marks x ys b (rest_ok marks y ys h))
  where
    go : (t : Bool) → eqb y x ≡ t → entry_ok marks y ys ≡ true → member_of x (kill x ys) ≡ false → member_of x (kill x (y ∷ ys)) ≡ false
    go true e o r = rw (kill_hit x y ys e, eqb_swap x dead (block_live x b)) (once_only marks x y ys o b e)
    go false e o r = rw (kill_miss x y ys e, e) r

kill_beside : (x y : ℕ) (ys : List ℕ) → entry_ok true y ys ≡ true → eqb y x ≡ false → entry_ok true y (kill x ys) ≡ true
unfolding entry_ok
kill_beside x y ys h n = go (eqb y dead) h
  where
    go : (t : Bool) → cond t true (is_block y && not (member_of y ys)) ≡ true → cond t true (is_block y && not (member_of y (kill x ys))) ≡ true
    go true h = refl
    go false h = rw (kill_member x y ys (and_left (is_block y) (not (member_of y ys)) h) (eqb_swap y x n)) h

-- AN ENTRY KILLED keeps a spare list well formed.
pub entries_kill : (x : ℕ) (l : List ℕ) → entries_ok true l ≡ true → entries_ok true (kill x l) ≡ true
unfolding entries_ok kill
entries_kill x [] h = refl
entries_kill x (y ∷ ys) h =
    go (eqb y x) refl (first_ok true y ys h) (rest_ok true y ys h)
    (entries_kill x ys (rest_ok true y ys h))
  where
    go : (t : Bool) → eqb y x ≡ t → entry_ok true y ys ≡ true → entries_ok true ys ≡ true → entries_ok true (kill x ys) ≡ true → entries_ok true (kill x (y ∷ ys)) ≡ true
    go true e o h r = rw (kill_hit x y ys e) (and_true (entry_ok true dead ys) _ (dead_beside ys) h)
    go false e o h r = rw (kill_miss x y ys e) (and_true (entry_ok true y (kill x ys)) _ (kill_beside x y ys o e) r)

-- Removing an entry adds none,
strike_none : (x y : ℕ) (l : List ℕ) → member_of y l ≡ false → member_of y (strike x l) ≡ false
unfolding member_of strike
strike_none x y [] h = refl
strike_none x y (z ∷ zs) h = go (eqb z x) (or_left (eqb z y) (member_of y zs) h) (or_right (eqb z y) (member_of y zs) h) (strike_none x y zs (or_right (eqb z y) (member_of y zs) h))
  where
    go : (t : Bool) → eqb z y ≡ false → member_of y zs ≡ false → member_of y (strike x zs) ≡ false → member_of y (cond t zs (z ∷ strike x zs)) ≡ false
    go true p q r = q
    go false p q r = or_false (eqb z y) (member_of y (strike x zs)) p r

strike_beside : (marks : Bool) (x y : ℕ) (l : List ℕ) → entry_ok marks y l ≡ true → entry_ok marks y (strike x l) ≡ true
unfolding entry_ok
strike_beside marks x y l h = go (eqb y dead) h
  where
    go : (t : Bool) → cond t marks (is_block y && not (member_of y l)) ≡ true → cond t marks (is_block y && not (member_of y (strike x l))) ≡ true
    go true h = h
    go false h =
        let n = not-true (member_of y l) (and_right (is_block y) (not (member_of y l)) h) in
        and_true (is_block y) _ (and_left (is_block y) (not (member_of y l)) h) (rw (strike_none x y l n))

-- AN ENTRY REMOVED keeps a list well formed,
pub entries_strike : (marks : Bool) (x : ℕ) (l : List ℕ) → entries_ok marks l ≡ true → entries_ok marks (strike x l) ≡ true
unfolding entries_ok strike
entries_strike marks x [] h = refl
entries_strike marks x (y ∷ ys) h =
    go (eqb y x) (first_ok marks y ys h) (rest_ok marks y ys h)
    (entries_strike marks x ys (rest_ok marks y ys h))
  where
    go : (t : Bool) → entry_ok marks y ys ≡ true → entries_ok marks ys ≡ true → entries_ok marks (strike x ys) ≡ true → entries_ok marks (cond t ys (y ∷ strike x ys)) ≡ true
    go true o h r = h
    go false o h r = and_true (entry_ok marks y (strike x ys)) _ (strike_beside marks x y ys o) r

-- the block removed is not there any more,
pub strike_gone : (marks : Bool) (x : ℕ) (l : List ℕ) → is_block x ≡ true → entries_ok marks l ≡ true → member_of x (strike x l) ≡ false
unfolding member_of strike entries_ok
strike_gone marks x [] b h = refl
strike_gone marks x (y ∷ ys) b h =
    go (eqb y x) refl (first_ok marks y ys h) (strike_gone marks x ys b (rest_ok marks y ys h))
  where
    go : (t : Bool) → eqb y x ≡ t → entry_ok marks y ys ≡ true → member_of x (strike x ys) ≡ false → member_of x (cond t ys (y ∷ strike x ys)) ≡ false
    go true e o r = once_only marks x y ys o b e
    go false e o r = or_false (eqb y x) (member_of x (strike x ys)) e r

-- and every other block is there as before.
pub strike_member : (x c : ℕ) (l : List ℕ) → eqb x c ≡ false → member_of c (strike x l) ≡ member_of c l
unfolding member_of strike
strike_member x c [] n = refl
strike_member x c (y ∷ ys) n = go (eqb y x) refl (strike_member x c ys n)
  where
    go : (t : Bool) → eqb y x ≡ t → member_of c (strike x ys) ≡ member_of c ys → member_of c (cond t ys (y ∷ strike x ys)) ≡ member_of c (y ∷ ys)
    go true e r = rw (eqb-true y x e, n)
    go false e r = rw r

pub strike_length : (x : ℕ) (l : List ℕ) → member_of x l ≡ true → suc (length (strike x l)) ≡ length l
unfolding member_of strike
strike_length x [] h = clash h refl
strike_length x (y ∷ ys) h = go (eqb y x) h (strike_length x ys)
  where
    go : (t : Bool) → (t || member_of x ys) ≡ true → (member_of x ys ≡ true → suc (length (strike x ys)) ≡ length ys) → suc (length (cond t ys (y ∷ strike x ys))) ≡ suc (length ys)
    go true h r = refl
    go false h r = ap suc (r h)

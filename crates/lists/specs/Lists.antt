-- Document 01, "Blocks and sectors": the entries of the spare list and of the bad list.
use Rattle.std.specs.Prelude.{ℕ, suc, ◌<◌, ◌≡◌, ◌⊎◌, Bool, true, false, cond, not, ◌&&◌, ◌||◌, Option, Some, None, List, [], ◌∷◌, length, get_or, set, eqb}
use Rattle.geometry.specs.Geometry.{is_block}

-- "FFFFFE hex for a dead spare (house)": FFFE hex in memory, widened by the image alone
abbrev pub dead : ℕ
dead = 65534

-- the first place of x, or the length where it is not there
unfoldable pub index_of : ℕ → List ℕ → ℕ
index_of x [] = 0
index_of x (y ∷ ys) = cond (eqb y x) 0 (suc (index_of x ys))

-- x is there
unfoldable pub member_of : ℕ → List ℕ → Bool
member_of x [] = false
member_of x (y ∷ ys) = eqb y x || member_of x ys

-- the first place of x, if it is there
abbrev pub place_of : ℕ → List ℕ → Option ℕ
place_of x l = cond (member_of x l) (Some (index_of x l)) None

-- x may be beside the entries l: a block that is not among them, or, where marks is true, the dead mark
unfoldable pub entry_ok : Bool → ℕ → List ℕ → Bool
entry_ok marks x l = cond (eqb x dead) marks (is_block x && not (member_of x l))

-- the test of a list: of the spare list with marks true, of the bad list with marks false
unfoldable pub entries_ok : Bool → List ℕ → Bool
entries_ok marks [] = true
entries_ok marks (x ∷ xs) = entry_ok marks x xs && entries_ok marks xs

-- The same as a statement. "Spare entry k is the block moved to spare k, or FFFFFE hex for a dead spare";
-- "bad entries blocks only"; "A block stands at most once in each list."
pub record Entries (marks : Bool) (l : List ℕ) : Type 0 where
  pub each : (k : ℕ) → k < length l → (is_block (get_or l k 0) ≡ true) ⊎ ((marks ≡ true) × (get_or l k 0 ≡ dead))
  pub once : (j k : ℕ) → j < k → k < length l → is_block (get_or l j 0) ≡ true → get_or l j 0 ≡ get_or l k 0 → ⊥

-- the list with its first entry x dead
unfoldable pub kill : ℕ → List ℕ → List ℕ
kill x l = set l (index_of x l) dead

-- the list without its first entry x, order kept
unfoldable pub strike : ℕ → List ℕ → List ℕ
strike x [] = []
strike x (y ∷ ys) = cond (eqb y x) ys (y ∷ strike x ys)

-- Form B's numbers of two and four bytes, and its spare entries of four: written, and read.
use mathlib.Core.Path.{◌≡◌, refl, ap}
use mathlib.Core.Bool.{Bool, true}
use mathlib.Core.List.{List, [], ◌∷◌, ◌++◌}
use Prim.Native.Nat.{ℕ, zero, suc, ◌+◌, ◌*◌, ◌/◌, ◌%◌, ◌≤◌, ◌<◌}
use native.Mathlib.Omega.{arith}
use borrow.Author.Tests.{leb-true}
use lib.Dec.{leb}
use lib.ListN.{length, take, drop, get_or}
use lib.Seq.{drop-cons}
use Rattle.logic.proofs.Bools.{and_left, and_right}
use Rattle.lists.specs.Lists.{entries_ok}
use Rattle.lists.proofs.Laws.{first_ok, rest_ok}
use Rattle.lists.proofs.Meaning.{beside}
use Rattle.table.specs.Tables.{causes_ok}
use Rattle.image.specs.Layouts.{wide, triple, narrow, entry_at, entries_from}
use Rattle.image.specs.FormB.{two_bytes, four_bytes, quad, quads, two_at, causes_from}
use Rattle.image.proofs.Layouts.{Bytes, three, high, middle, low, wide_small, narrow_wide, wide_narrow}

-- A number of two bytes: written and read it is itself, read and written it is its bytes.
pub two : (v : ℕ) → v < 65536 → v / 256 % 256 * 256 + v % 256 ≡ v
two v h = omega arith

pub two_below : (i : List ℕ) (k : ℕ) → Bytes i → two_at i k < 65536
unfolding two_at
two_below i k b = let p = b k in let q = b (k + 1) in omega arith

upper : (x y : ℕ) → x < 256 → y < 256 → (x * 256 + y) / 256 % 256 ≡ x
upper x y p q = omega arith

lower : (x y : ℕ) → y < 256 → (x * 256 + y) % 256 ≡ y
lower x y q = omega arith

pub two_read : (i : List ℕ) (k : ℕ) → Bytes i → k + 2 ≤ length i → two_bytes (two_at i k) ≡ take 2 (drop k i)
unfolding two_bytes two_at
two_read i k b h =
    let e : k + 1 ≡ suc k = omega arith in
    rw (drop-cons i k 0 (omega arith), drop-cons i (suc k) 0 (omega arith), upper (get_or i k 0) (get_or i (k + 1) 0) (b k) (b (k + 1)), lower (get_or i k 0) (get_or i (k + 1) 0) (b (k + 1)), e)

-- A number of four bytes, likewise.
two_rest : (v : ℕ) → v / 256 % 256 * 256 + v % 256 ≡ v % 65536
two_rest v = omega arith

pub four : (v : ℕ) → v < 4294967296 → (v / 65536 / 256 % 256 * 256 + v / 65536 % 256) * 65536 + (v / 256 % 256 * 256 + v % 256) ≡ v
four v h = rw (two (v / 65536) (omega arith), two_rest v) (omega arith)

four_upper : (x y : ℕ) → y < 65536 → (x * 65536 + y) / 65536 ≡ x
four_upper x y h = omega arith

four_third : (x y : ℕ) → (x * 65536 + y) / 256 % 256 ≡ y / 256 % 256
four_third x y = omega arith

four_last : (x y : ℕ) → (x * 65536 + y) % 256 ≡ y % 256
four_last x y = omega arith

pub four_split : (x y : ℕ) → y < 65536 → four_bytes (x * 65536 + y) ≡ two_bytes x ++ two_bytes y
unfolding two_bytes
four_split x y h = rw (four_upper x y h, four_third x y, four_last x y)

-- SPARE ENTRIES OF FOUR BYTES
-- those written read as themselves,
pub entries_quads : (marks : Bool) (l cs r : List ℕ) → entries_ok marks l ≡ true → entries_from 4 (length l) (quads l cs ++ r) ≡ l
unfolding entries_from quads quad triple entry_at entries_ok
entries_quads marks [] cs r h = refl
entries_quads marks (x ∷ xs) cs r h =
    let s = beside marks x xs (first_ok marks x xs h) in
    let e : narrow (wide x / 65536 % 256 * 65536 + wide x / 256 % 256 * 256 + wide x % 256) ≡ x = rw (three (wide x) (wide_small marks x xs s)) (narrow_wide marks x xs s) in
    rw e (ap {B = List ℕ} (λ (l : List ℕ). x ∷ l) (entries_quads marks xs (drop 1 cs) r (rest_ok marks x xs h)))

small : (c : ℕ) → leb c 3 ≡ true → c % 256 ≡ c
small c h = let p = leb-true c 3 h in omega arith

-- and so do their causes.
pub causes_quads : (l cs r : List ℕ) → length cs ≡ length l → causes_ok cs ≡ true → causes_from (length l) (quads l cs ++ r) ≡ cs
unfolding causes_from quads quad triple causes_ok
causes_quads [] [] r e h = refl
causes_quads [] (c ∷ cs) r e h = absurd (omega arith)
causes_quads (x ∷ xs) [] r e h = absurd (omega arith)
causes_quads (x ∷ xs) (c ∷ cs) r e h =
    rw (small c (and_left (leb c 3) (causes_ok cs) h))
    (ap {B = List ℕ} (λ (l : List ℕ). c ∷ l) (causes_quads xs cs r (omega arith) (and_right (leb c 3) (causes_ok cs) h)))

byte : (c : ℕ) → c < 256 → c % 256 ≡ c
byte c h = omega arith

-- Those read are written as the bytes they came from.
pub quads_entries : (marks : Bool) (n : ℕ) (s : List ℕ) → Bytes s → 4 * n ≤ length s → entries_ok marks (entries_from 4 n s) ≡ true
    → quads (entries_from 4 n s) (causes_from n s) ≡ take (4 * n) s
unfolding entries_from causes_from quads quad triple entry_at entries_ok
quads_entries marks zero s b m h = refl
quads_entries marks (suc n) [] b m h = absurd (omega arith)
quads_entries marks (suc n) (x ∷ []) b m h = absurd (omega arith)
quads_entries marks (suc n) (x ∷ y ∷ []) b m h = absurd (omega arith)
quads_entries marks (suc n) (x ∷ y ∷ w ∷ []) b m h = absurd (omega arith)
quads_entries marks (suc n) (x ∷ y ∷ w ∷ c ∷ s) b m h =
    let v = x * 65536 + y * 256 + w in
    let rest = entries_from 4 n s in
    let e = wide_narrow marks v rest (first_ok marks (narrow v) rest h) in
    let k : 4 * suc n ≡ suc (suc (suc (suc (4 * n)))) = omega arith in
    let t = quads_entries marks n s (λ j. b (suc (suc (suc (suc j))))) (omega arith) (rest_ok marks (narrow v) rest h) in
    rw (e, k, high x y w (b 0) (b 1) (b 2), middle x y w (b 0) (b 1) (b 2), low x y w (b 0) (b 1) (b 2), byte c (b 3), t)

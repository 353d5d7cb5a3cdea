-- Document 01, "Blocks and sectors": the spare table, where it puts a block, and how it changes.
use Rattle.std.specs.Prelude.{ℕ, suc, ◌+◌, ◌-◌, ◌≤◌, ◌≡◌, Bool, true, false, cond, ◌&&◌, List, [], ◌∷◌, ◌++◌, length, take, drop, set, replicate, ltb, leb, Option, None, Some}
use Rattle.geometry.specs.Geometry.{home_of, spare_of}
use Rattle.geometry.specs.declared.Block.{Block}
use Rattle.geometry.specs.declared.Sector.{Sector}
use Rattle.lists.specs.Lists.{dead, index_of, member_of, entries_ok, Entries}
use Rattle.table.specs.declared.Table.{Table}

-- "The table has a spare list and a bad list." Each is the first entries of an array.
abbrev pub spare_list : Table → List ℕ
spare_list t = take t.nspares t.spares

abbrev pub bad_list : Table → List ℕ
bad_list t = take t.nbads t.bads

-- A table means its two lists.
abbrev pub SameTable : Table → Table → Type 0
SameTable t u = (spare_list t ≡ spare_list u) × (bad_list t ≡ bad_list u)

-- the length that each array has in every Rattle value
abbrev pub Shaped : Table → Type 0
Shaped t = (length t.spares ≡ 32) × (length t.bads ≡ 100)

-- the test of a table that the code makes: two arrays, and how many entries of each are in use
unfoldable pub lists_ok : List ℕ → ℕ → List ℕ → ℕ → Bool
lists_ok spares n bads m = leb n 32 && leb m 100 && entries_ok true (take n spares) && entries_ok false (take m bads)

abbrev pub table_ok : Table → Bool
table_ok t = lists_ok t.spares t.nspares t.bads t.nbads

-- The same as a statement: at most 32 spare entries, each a block or the dead mark, and at most 100 bad
-- entries, each a block, with no block twice in either list.
pub record WellFormed (t : Table) : Type 0 where
  pub few_spares : t.nspares ≤ 32
  pub few_bads : t.nbads ≤ 100
  pub spares : Entries true (spare_list t)
  pub bads : Entries false (bad_list t)

-- "Its sector is its spare if listed, else its home."
unfoldable pub sector_of : List ℕ → Block → Sector
sector_of l b = cond (member_of b.0 l) (spare_of (index_of b.0 l)) (home_of b)

-- "next unused spare": entries are never freed, so with n listed it is spare n
abbrev pub next_spare : ℕ → Option Sector
next_spare n = cond (ltb n 32) (Some (spare_of n)) None

abbrev pub empty_table : Table
empty_table = record { spares = replicate 32 0; bads = replicate 100 0; nspares = 0; nbads = 0 }

-- "lists the block there, kills its old entry": at the next unused spare, if there is one
unfoldable pub listed : Table → Block → Table
listed t b =
    let killed = set t.spares (index_of b.0 (spare_list t)) dead in
    cond (ltb t.nspares 32)
    (record { spares = set killed t.nspares b.0; bads = t.bads; nspares = t.nspares + 1; nbads = t.nbads })
    t

-- "A spare that fails becomes dead": the next unused one, if there is one
unfoldable pub killed_next : Table → Table
killed_next t =
    cond (ltb t.nspares 32)
    (record { spares = set t.spares t.nspares dead; bads = t.bads; nspares = t.nspares + 1; nbads = t.nbads })
    t

-- "enter the block at the end of the bad list", if fewer than 100 are held
unfoldable pub with_bad : Table → Block → Table
with_bad t b =
    cond (ltb t.nbads 100)
    (record { spares = t.spares; bads = set t.bads t.nbads b.0; nspares = t.nspares; nbads = t.nbads + 1 })
    t

-- an array without its place k: what was after it moves up, and a zero ends it
unfoldable pub removed : ℕ → List ℕ → List ℕ
removed k a = take k a ++ drop (suc k) a ++ (0 ∷ [])

-- "removes the block from the bad list, order kept", if it is listed
unfoldable pub without_bad : Table → Block → Table
without_bad t b =
    cond (member_of b.0 (bad_list t))
    (record { spares = t.spares; bads = removed (index_of b.0 (bad_list t)) t.bads; nspares = t.nspares; nbads = t.nbads - 1 })
    t

-- CAUSES, document 02, request 6: each spare entry has one, at its place of an array of their own. "0 unknown, 1 CRC, 2 timeout, 3 no
-- settle"

-- Says whether no cause is above 3.
unfoldable pub causes_ok : List ℕ → Bool
causes_ok [] = true
causes_ok (c ∷ cs) = leb c 3 && causes_ok cs

-- Returns the causes after a block was listed on the next unused spare: the new entry's, and that of the entry it kills.
unfoldable pub causes_listed : Table → Block → ℕ → ℕ → List ℕ → List ℕ
causes_listed t b live killed causes =
    cond (ltb t.nspares 32) (set (set causes (index_of b.0 (spare_list t)) killed) t.nspares live) causes

-- Returns the causes after the next unused spare died.
unfoldable pub causes_killed : Table → ℕ → List ℕ → List ℕ
causes_killed t cause causes = cond (ltb t.nspares 32) (set causes t.nspares cause) causes

-- Document 01, "Blocks and sectors": the two counts, and where a block is that was never moved.
use Rattle.std.specs.Prelude.{ℕ, ◌+◌, ◌/◌, Bool, cond, ltb}
use Rattle.geometry.specs.declared.Block.{Block}
use Rattle.geometry.specs.declared.Sector.{Sector}

-- "Blocks are 0..9727."
abbrev pub is_block : ℕ → Bool
is_block n = ltb n 9728

-- "Sector = cylinder × 64 + head × 16 + place on the track, 0..9791"
abbrev pub is_sector : ℕ → Bool
is_sector n = ltb n 9792

abbrev pub cylinder_of : Sector → ℕ
cylinder_of s = s.0 / 64

-- "The home of block b is b below 4928, else b + 64."
unfoldable pub home_of : Block → Sector
home_of b = record { 0 = cond (ltb b.0 4928) b.0 (b.0 + 64) }

-- "Spare k (0..31) is sector 4928 + k"
abbrev pub spare_of : ℕ → Sector
spare_of k = record { 0 = 4928 + k }

-- "the table is sector 4960 (house)"
abbrev pub table_sector : Sector
table_sector = record { 0 = 4960 }

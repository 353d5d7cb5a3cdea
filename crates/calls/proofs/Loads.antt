-- What the image reader finds makes the table of the image, its causes, and the image in the other form.
use mathlib.Core.Path.{◌≡◌}
use mathlib.Core.Bool.{true}
use mathlib.Core.List.{List}
use Prim.Native.Nat.{ℕ, ◌≤◌}
use native.Mathlib.Omega.{arith}
use Rattle.std.specs.Prelude.{Ok}
use Rattle.table.proofs.Keeps.{passes}
use Rattle.image.specs.declared.Image.{Image}
use Rattle.image.specs.Images.{well_formed, table_of, run_of, causes_of, read_of}
use Rattle.image.proofs.RoundTrip.{read_ok}

-- The reader finds what a well-formed image holds.
pub found : (i : List ℕ) (x : Image) → read_of i ≡ Ok x → (well_formed i ≡ true) × (x ≡ record { table = table_of i; causes = causes_of i; run = run_of i })
unfolding read_of
found i x e = (grind (arith, e), grind (arith, e))

-- Its lists are not too long.
pub few_found : (i : List ℕ) (x : Image) → read_of i ≡ Ok x → (x.table.nspares ≤ 32) × (x.table.nbads ≤ 100)
few_found i x e =
    let f = found i x e in
    let p = passes (table_of i) (read_ok i f.0) in
    rw f.1 (p.few_spares, p.few_bads)

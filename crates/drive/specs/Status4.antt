-- STATUS 4 IS E, however the read ends: good, lost, stopped by answer 3, through sparing, or with a store.
use Rattle.std.specs.Prelude.{◌≡◌, true, cond, ◌||◌, List, [], ◌∷◌, ℕ, suc, eqb, take, get_or}
use Rattle.drive.specs.declared.Drive.{Drive}
use Rattle.drive.specs.declared.Retry.{Retry}
use Rattle.drive.specs.declared.Access.TheVariants as access
use Rattle.drive.specs.declared.Phase.TheVariants as phase
use Rattle.drive.specs.Over.{Reply, replied, command, Completes}

-- Returns how many of the answers are 1 or 2.
abbrev pub failures : List ℕ → ℕ
failures [] = 0
failures (a ∷ rest) = cond (eqb a 1 || eqb a 2) (suc (failures rest)) (failures rest)

-- Returns the answers without their bytes.
abbrev pub numbers : List Reply → List ℕ
numbers [] = []
numbers (x ∷ xs) = x.number ∷ numbers xs

-- Returns the buffer that the last of the answers left.
abbrev pub left_by : Drive → List ℕ → List Reply → List ℕ
left_by d u [] = u
left_by d u (x ∷ xs) = left_by (replied d u x).step.drive (replied d u x).bytes xs

-- Says that the first read of a read command is awaited. Acting on the command has put R into left.
pub record AwaitsFirst (d : Drive) (r : Retry) : Type 0 where
  pub phase : d.state.phase ≡ phase.Awaiting (access.Read r)
  pub first : r.first ≡ true
  pub clean : r.seen.errors ≡ 0

-- Says that status 4 is E. "One read; if good, done. After 1 or 2, exactly R rereads; E counts their failures"; "Status 4: E." For
-- any record, buffer and answers that complete the command: x is the first read's answer, and if that is not good, of the
-- others the first R are the rereads', or fewer if answer 3 ends the command before. The last may be the store's.
abbrev pub Status4 : Type 0
Status4 =
    (d : Drive) (u : List ℕ) (r : Retry) (x : Reply) (xs : List Reply) → AwaitsFirst d r → Completes command d u (x ∷ xs)
    → get_or (left_by d u (x ∷ xs)) 3 0 ≡ cond (eqb x.number 0) 0 (failures (take r.left (numbers xs)))

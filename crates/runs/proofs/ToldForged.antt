-- The customer's words forbid something, and not too much: reports of one block that are wrong, and some that are right.
use mathlib.Core.Path.{◌≡◌, refl, ap}
use mathlib.Core.Logic.{inl, inr}
use mathlib.Core.Bool.{false}
use mathlib.Core.List.{List, [], ◌∷◌}
use Prim.Native.Nat.{ℕ}
use lib.Dec.{eqb}
use lib.ListN.{get_or}
use Rattle.drive.specs.History.{In}
use Rattle.drive.specs.Told.{Report, began, cut, found, placed, written, attempted, given, nothing, none, Right}
use Rattle.drive.specs.Views.{Bytes}
use Rattle.logic.proofs.Bools.{clash}
use Rattle.drive.proofs.Lasts.{differ}

abbrev one : Bytes
one = 1 ∷ []

abbrev two : Bytes
two = 2 ∷ []

abbrev three : Bytes
three = 3 ∷ []

-- Says that reports from the start on are right.
abbrev Told : List Report → Type 0
Told rs = Right [] none false rs

abbrev byte_of : Bytes → ℕ
byte_of x = get_or x 0 0

not_only : (m n : ℕ) → eqb m n ≡ false → In (m ∷ []) ((n ∷ []) ∷ []) → ⊥
not_only m n h (inl e) = differ m n h (ap byte_of e)
not_only m n h (inr e) = e

not_either : (m n k : ℕ) → eqb m n ≡ false → eqb m k ≡ false → In (m ∷ []) ((n ∷ []) ∷ (k ∷ []) ∷ []) → ⊥
not_either m n k h g (inl e) = differ m n h (ap byte_of e)
not_either m n k h g (inr e) = not_only m k g e

-- WRONG

pub never_written_lem : Told (found (one ∷ []) ∷ given two ∷ []) → ⊥
never_written_lem r = not_only 2 1 refl r.1

pub before_any_table : Told (given one ∷ []) → ⊥
before_any_table r = r.1

pub old_after_a_good_write : Told (found (one ∷ []) ∷ written two ∷ given one ∷ []) → ⊥
old_after_a_good_write r = not_only 1 2 refl r.1.1

pub changing_between_two_good_reads : Told (found (one ∷ []) ∷ attempted two ∷ given two ∷ given one ∷ []) → ⊥
changing_between_two_good_reads r = differ 1 2 refl (ap byte_of r.3.2)

pub changing_with_something_between : Told (found (one ∷ []) ∷ attempted two ∷ given two ∷ nothing ∷ given one ∷ []) → ⊥
changing_with_something_between r = differ 1 2 refl (ap byte_of r.3.2)

pub wrong_after_something_else : Told (found (one ∷ []) ∷ nothing ∷ given two ∷ []) → ⊥
wrong_after_something_else r = not_only 2 1 refl r.1

-- Good with no table since the last start, whether it was a cut or not: a read, and a write.
pub good_with_no_table :
    (Told (found (one ∷ []) ∷ began ∷ given one ∷ []) → ⊥)
    × (Told (found (one ∷ []) ∷ cut two ∷ given two ∷ []) → ⊥)
    × (Told (found (one ∷ []) ∷ began ∷ written two ∷ []) → ⊥)
    × (Told (found (one ∷ []) ∷ began ∷ placed ∷ began ∷ given one ∷ []) → ⊥)
    × (Told (written two ∷ []) → ⊥)
good_with_no_table = (λ r. clash r.0 refl, λ r. clash r.0 refl, λ r. clash r.0 refl, λ r. clash r.0 refl, λ r. clash r.0 refl)

-- A later table leaves the candidates.
pub old_after_a_good_write_and_a_start : Told (found (one ∷ []) ∷ written two ∷ began ∷ placed ∷ given one ∷ []) → ⊥
old_after_a_good_write_and_a_start r = not_only 1 2 refl r.1.1

-- What a good read gave is given again after a start too.
pub changing_over_a_start : Told (found (one ∷ []) ∷ attempted two ∷ given two ∷ began ∷ placed ∷ given one ∷ []) → ⊥
changing_over_a_start r = differ 1 2 refl (ap byte_of r.3.2)

-- A cut adds the interrupted write's bytes, and no others.
pub never_written_after_a_cut : Told (found (one ∷ []) ∷ cut two ∷ placed ∷ given three ∷ []) → ⊥
never_written_after_a_cut r = not_either 3 2 1 refl refl r.1

pub changing_after_a_cut : Told (found (one ∷ []) ∷ cut two ∷ placed ∷ given two ∷ given one ∷ []) → ⊥
changing_after_a_cut r = differ 1 2 refl (ap byte_of r.3.2)

-- RIGHT

pub as_found : Told (found (one ∷ []) ∷ given one ∷ given one ∷ [])
as_found = (refl, inl refl, tt, (refl, inl refl, refl, tt))

pub as_written : Told (found (one ∷ []) ∷ given one ∷ written two ∷ given two ∷ [])
as_written = (refl, inl refl, tt, (refl, (refl, inl refl, tt, tt)))

-- After a failed write: the older bytes, or its own, though the older had been read.
pub as_before_a_failed_write : Told (found (one ∷ []) ∷ attempted two ∷ given one ∷ [])
as_before_a_failed_write = (refl, inr (inl refl), tt, tt)

pub as_of_a_failed_write : Told (found [] ∷ written one ∷ given one ∷ attempted two ∷ given two ∷ given two ∷ [])
as_of_a_failed_write = (refl, (refl, inl refl, tt, (refl, inl refl, tt, (refl, inl refl, refl, tt))))

-- After two failed writes: the oldest bytes, though those of the first had been read.
pub as_before_two_failed_writes : Told (found (one ∷ []) ∷ attempted two ∷ given two ∷ attempted three ∷ given one ∷ [])
as_before_two_failed_writes = (refl, inl refl, tt, (refl, inr (inr (inl refl)), tt, tt))

-- After a start: what was given before it, or written.
pub as_before_a_start : Told (began ∷ found (one ∷ []) ∷ given one ∷ began ∷ placed ∷ given one ∷ written two ∷ began ∷ began ∷ placed ∷ given two ∷ [])
as_before_a_start = (refl, inl refl, tt, (refl, inl refl, refl, (refl, (refl, inl refl, tt, tt))))

-- After a write that was cut off: its bytes, or the older ones, though those had been read; and those of two such writes.
pub as_of_a_cut : Told (found (one ∷ []) ∷ given one ∷ cut two ∷ placed ∷ given two ∷ given two ∷ [])
as_of_a_cut = (refl, inl refl, tt, (refl, inl refl, tt, (refl, inl refl, refl, tt)))

pub as_before_a_cut : Told (found (one ∷ []) ∷ given one ∷ cut two ∷ placed ∷ cut three ∷ placed ∷ given one ∷ [])
as_before_a_cut = (refl, inl refl, tt, (refl, inr (inr (inl refl)), tt, tt))

-- With no table a write may fail, and a read may say nothing.
pub failing_with_no_table : Told (found (one ∷ []) ∷ cut two ∷ nothing ∷ nothing ∷ [])
failing_with_no_table = tt

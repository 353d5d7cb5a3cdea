-- ENTRIES OF THE TABLE, and what each definition gives at its edges, computed.
use mathlib.Core.Path.{◌≡◌, refl}
use mathlib.Core.Bool.{true, false}
use Prim.Native.Nat.{ℕ, zero, suc, ◌+◌, ◌<◌}
use native.Mathlib.Omega.{arith}
use native.Mathlib.Nat.{le_of_suc-le-suc}
use lib.Count.{ones, ones_in}
use Rattle.logic.proofs.Tables.{equal_below}
use Rattle.parity.specs.Bits.{bit_at, ones_among, has_even_ones, parity_of, nine_bits, DifferAt}

-- Returns how many of the first n entries are 1.
abbrev pub entries_set : ℕ → ℕ
entries_set zero = 0
entries_set (suc n) = entries_set n + parity_of n

pub record Examples : Type 0 where
  pub entry_00 : parity_of 0x00 ≡ 1
  pub entry_01 : parity_of 0x01 ≡ 0
  pub entry_03 : parity_of 0x03 ≡ 1
  pub entry_80 : parity_of 0x80 ≡ 0
  pub entry_ff : parity_of 0xFF ≡ 1
  pub half_are_set : entries_set 256 ≡ 128
  pub lowest_bit : bit_at 0 0x01 ≡ 1
  pub highest_bit : bit_at 7 0x80 ≡ 1
  pub bit_between : bit_at 3 0xF7 ≡ 0
  pub eight_ones : ones_among 8 0xFF ≡ 8
  pub bits_above_do_not_count : ones_among 8 0x1FF ≡ 8
  pub nine_ones : ones_among 9 0x1FF ≡ 9
  pub none_is_even : has_even_ones 0x00 ≡ true
  pub one_is_not : has_even_ones 0x10 ≡ false
  pub byte_below_its_bit : nine_bits 0x80 1 ≡ 0x180
  pub byte_with_bit_0 : nine_bits 0xFF 0 ≡ 0xFF

pub examples : Examples
unfolding ones_among
examples =
    record {
      entry_00 = refl;
      entry_01 = refl;
      entry_03 = refl;
      entry_80 = refl;
      entry_ff = refl;
      half_are_set = refl;
      lowest_bit = refl;
      highest_bit = refl;
      bit_between = refl;
      eight_ones = refl;
      bits_above_do_not_count = refl;
      nine_ones = refl;
      none_is_even = refl;
      one_is_not = refl;
      byte_below_its_bit = refl;
      byte_with_bit_0 = refl;
    }

-- the ones of a byte are what the language's own count_ones gives
pub as_count_ones : (v : ℕ) → v < 256 → ones_among 8 v ≡ ones v
unfolding ones_among ones ones_in
as_count_ones v h = equal_below 256 (ones_among 8) ones refl v h

-- NINE BITS THAT DIFFER AT ONE, and some that do not

-- the parity bit differs, and nothing else
pub highest_differs : DifferAt 9 8 (nine_bits 3 1) (nine_bits 3 0)
highest_differs =
    record {
      within = omega arith;
      there = λ (e : bit_at 8 (nine_bits 3 1) ≡ bit_at 8 (nine_bits 3 0)). omega arith;
      elsewhere = λ (k : ℕ) (h : k < 9) (other : k ≡ 8 → ⊥). equal_below 8 (λ (k : ℕ). bit_at k (nine_bits 3 1)) (λ (k : ℕ). bit_at k (nine_bits 3 0)) refl k (omega arith);
    }

higher : (k : ℕ) → k < 9 → (k ≡ 0 → ⊥) → bit_at k (nine_bits 2 0) ≡ bit_at k (nine_bits 3 0)
higher zero h other = absurd (other refl)
higher (suc k) h other = equal_below 8 (λ (k : ℕ). bit_at (suc k) (nine_bits 2 0)) (λ (k : ℕ). bit_at (suc k) (nine_bits 3 0)) refl k (le_of_suc-le-suc h)

-- the lowest bit differs, and nothing else
pub lowest_differs : DifferAt 9 0 (nine_bits 2 0) (nine_bits 3 0)
lowest_differs =
    record {
      within = omega arith;
      there = λ (e : bit_at 0 (nine_bits 2 0) ≡ bit_at 0 (nine_bits 3 0)). omega arith;
      elsewhere = higher;
    }

pub none_differs : DifferAt 9 8 (nine_bits 3 1) (nine_bits 3 1) → ⊥
none_differs d = d.there refl

pub two_differ : DifferAt 9 8 (nine_bits 3 1) (nine_bits 2 0) → ⊥
two_differ d = let e = d.elsewhere 0 (omega arith) (λ (e : ◌≡◌ {A = ℕ} 0 8). omega arith) in omega arith

pub tenth_bit_differs : DifferAt 9 9 0x000 0x200 → ⊥
tenth_bit_differs d = let h = d.within in omega arith

-- A seed of 0 or less, its remainder by any divisor negated and 1 added: each number on the way is an i32.
use Prim.Native.Nat.{ℕ, zero, suc, ◌+◌, ◌/◌, ◌%◌, ◌≤◌, ◌<◌}
use mathlib.Core.Path.{◌≡◌, refl, ap, ◌∙◌}
use mathlib.Core.Bool.{true, false}
use native.Mathlib.Nat.{lt_of_le_of_lt, le_trans, div-le_self, mod-lt, zero-mod}
use native.Mathlib.Omega.{arith}
use borrow.Author.Tests.{leb-true}
use lib.Dec.{leb-suc-zero}
use lib.IntN.{ℤ, pos, negsuc, neg_ℤ, neg_ℤ-neg_ℤ, nat_abs, +ℤ_idl, ◌+ℤ◌, ◌-ℤ◌}
use lib.Signed.{le_z, quot_z, rem_z, mag_rem}
use mir.Syntax.{w32}
use mir.Val.{SFits, to_z, of_z}
use mir.ValLaws.{to_z-of_z}
use Rattle.turbulence.specs.Random.{positive, last_state}

negated_fits : (n : ℕ) → n ≤ 2147483648 → SFits w32 (neg_ℤ (pos n))
negated_fits zero h = record { sfits = omega arith }
negated_fits (suc n) h = record { sfits = omega arith }

pub quotient_fits : (z : ℤ) (d : ℕ) → SFits w32 z → SFits w32 (quot_z z (pos d))
quotient_fits (pos n) d f = record { sfits = lt_of_le_of_lt (div-le_self n d) f.sfits }
quotient_fits (negsuc n) d f = negated_fits (suc n / d) (le_trans (div-le_self (suc n) d) f.sfits)

negated_remainder : (z : ℤ) (d : ℕ) → le_z z (pos 0) ≡ true → neg_ℤ (rem_z z (pos d)) ≡ pos (nat_abs z % d)
negated_remainder (pos zero) d h = rw (zero-mod d) refl
negated_remainder (pos (suc n)) d h = let no : ⊥ = let z = leb-true (suc n) 0 h in omega arith in absurd no
negated_remainder (negsuc n) d h = neg_ℤ-neg_ℤ (pos (suc n % d))

-- the machine's numbers on the way: the remainder negated, and 1 more
abbrev pub turned : ℤ → ℕ → ℤ
turned z d = pos 0 -ℤ to_z w32 (of_z w32 (rem_z z (pos d)))

abbrev pub raised : ℤ → ℕ → ℤ
raised z d = to_z w32 (of_z w32 (turned z d)) +ℤ pos 1

module _ (z : ℤ) (f : SFits w32 z) (h : le_z z (pos 0) ≡ true) (d : ℕ) (some : 0 < d) (few : d < 2147483648) where
  left : nat_abs z % d < d
  left = mod-lt (nat_abs z) some

  turned_is : turned z d ≡ pos (nat_abs z % d)
  turned_is =
      ap (λ r. pos 0 -ℤ r) (to_z-of_z w32 (rem_z z (pos d)) (record { sfits = lt_of_le_of_lt (mag_rem z (pos d)) f.sfits }))
      ∙ +ℤ_idl (neg_ℤ (rem_z z (pos d)))
      ∙ negated_remainder z d h

  pub turned_fits : SFits w32 (turned z d)
  turned_fits = rw turned_is (let l = left in record { sfits = omega arith })

  raised_value : raised z d ≡ pos (nat_abs z % d + 1)
  raised_value = ap (λ r. r +ℤ pos 1) (to_z-of_z w32 (turned z d) turned_fits ∙ turned_is)

  pub raised_fits : SFits w32 (raised z d)
  raised_fits = rw raised_value (let l = left in record { sfits = omega arith })

  pub raised_is : to_z w32 (of_z w32 (raised z d)) ≡ pos (nat_abs z % d + 1)
  raised_is = to_z-of_z w32 (raised z d) raised_fits ∙ raised_value

-- where a seed of 0 or less is taken, and one above 0
pub positive_low : (z : ℤ) → le_z z (pos 0) ≡ true → positive z ≡ pos (nat_abs z % last_state + 1)
unfolding positive
positive_low z h = rw (h, negated_remainder z last_state h) refl

pub positive_high : (z : ℤ) → le_z z (pos 0) ≡ false → positive z ≡ z
unfolding positive
positive_high z h = rw h refl

-- either way a positive number, within an i32
pub record Positive (z : ℤ) : Type 0 where
  pub size : ℕ
  pub low : 0 < size
  pub high : size < 2147483648
  pub is : positive z ≡ pos size

pub above_zero : (z : ℤ) → SFits w32 z → Positive z
above_zero (pos zero) f = record { size = 1; low = omega arith; high = omega arith; is = positive_low (pos zero) refl }
above_zero (pos (suc n)) f = record { size = suc n; low = omega arith; high = f.sfits; is = positive_high (pos (suc n)) (leb-suc-zero n) }
above_zero (negsuc n) f = record { size = suc n % last_state + 1; low = omega arith; high = omega arith; is = positive_low (negsuc n) refl }

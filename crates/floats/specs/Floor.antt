-- Rounding down to a whole number.
use Rattle.std.specs.Prelude.{ℕ, ◌+◌, ◌-◌, ◌*◌, ◌/◌, ◌^◌, min, Bool, true, false, cond, ℤ, pos, negsuc, neg_ℤ, Float}
use Rattle.std.specs.Float.{nan, inf, fin}
use Rattle.std.specs.Float.Ieee.{up, down}

-- the largest whole number not above n / d, negative where s is true
abbrev pub floor : Bool → ℕ → ℕ → ℤ
floor false n d = pos (n / d)
floor true n d = neg_ℤ (pos ((n + (d - 1)) / d))

-- Rust's cast of a whole number to an unsigned integer of w bits: to the end of the range where it is out of it
abbrev pub saturated : ℕ → ℤ → ℕ
saturated w (pos n) = min n (2 ^ w - 1)
saturated w (negsuc n) = 0

-- Rust's `x.floor()` cast to an unsigned integer of w bits (64 for a `usize`); 0 for a NaN
unfoldable pub floor_to : ℕ → Float → ℕ
floor_to w nan = 0
floor_to w (inf s) = cond s 0 (2 ^ w - 1)
floor_to w (fin s m e) = saturated w (floor s (m * up e) (down e))

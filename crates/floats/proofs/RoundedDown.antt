-- Rounding down and then cutting off what is below 0 is cutting toward zero. Assumes nothing.
use Rattle.std.proofs.Common.{◌≡◌, ℕ, zero, suc, ◌+◌, ◌-◌, ◌*◌, ◌/◌, ◌^◌, ◌≤◌, min, true, false, pos, neg_ℤ, refl, arith}
use lib.Ieee.{Float, nan, inf, fin, up, down, to_unsigned}
use Rattle.floats.specs.Floor.{saturated, floor_to}

none_below : (w n : ℕ) → saturated w (neg_ℤ (pos n)) ≡ 0
none_below w zero = omega arith
none_below w (suc n) = refl

pub floor_cuts : (w : ℕ) (x : Float) → floor_to w x ≡ to_unsigned w x
unfolding floor_to to_unsigned
floor_cuts w nan = refl
floor_cuts w (inf s) = refl
floor_cuts w (fin true m e) = none_below w ((m * up e + (down e - 1)) / down e)
floor_cuts w (fin false m e) = refl

-- up to 255, a byte is as good as a `usize`
pub floor_up_to : (x : Float) (n : ℕ) → n ≤ 255 → min (floor_to 8 x) n ≡ min (floor_to 64 x) n
unfolding floor_to
floor_up_to nan n h = refl
floor_up_to (inf true) n h = refl
floor_up_to (inf false) n h = omega arith
floor_up_to (fin true m e) n h = simp none_below
floor_up_to (fin false m e) n h = go (m * up e / down e)
  where
    go : (q : ℕ) → min (min q 255) n ≡ min (min q (2 ^ 64 - 1)) n
    go q = omega arith

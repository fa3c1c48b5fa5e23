-- Rounding to a whole number, a half away from zero.
use Rattle.std.specs.Prelude.{ℕ, ◌+◌, ◌-◌, ◌*◌, ◌/◌, ◌^◌, min, cond, ℤ, pos, neg_ℤ, Float}
use Rattle.std.specs.Float.{nan, inf, fin}
use Rattle.std.specs.Float.Ieee.{up, down}

-- the whole number nearest to n / d, a half upward
abbrev pub away : ℕ → ℕ → ℕ
away n d = (2 * n + d) / (2 * d)

-- Rust's `x.round()` cast to a signed integer of h bits and a sign (31 for an `i32`): a half away from zero, to the end of the range
-- where it is out of it, and 0 for a NaN
unfoldable pub round_to : ℕ → Float → ℤ
round_to h nan = pos 0
round_to h (inf s) = cond s (neg_ℤ (pos (2 ^ h))) (pos (2 ^ h - 1))
round_to h (fin s m e) = cond s (neg_ℤ (pos (min (away (m * up e) (down e)) (2 ^ h)))) (pos (min (away (m * up e) (down e)) (2 ^ h - 1)))

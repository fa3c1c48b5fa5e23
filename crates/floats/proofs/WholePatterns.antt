-- A whole number from 2 ^ 52 on has what it is above that in the low digits of its `f64`'s pattern; so has a fraction that is rounded to one. Assumes nothing.
use Rattle.std.proofs.Common.{◌≡◌, ℕ, suc, ◌+◌, ◌-◌, ◌*◌, ◌<◌, ◌≤◌, false, not, T, lt_of_mul-lt-mul_right, arith}
use lib.Ieee.{Float, binary64, round, fits, is_nan, to_bits}
use lib.Ieee.Exact.{HasValue}
use lib.Ieee.Nearest.{closest}
use Rattle.floats.proofs.Fractions.{round_near_whole}
use Rattle.floats.proofs.Closest.{closest_half}
use Rattle.floats.proofs.Patterns.{valued, whole_bits}

-- ---- x is no NaN, its pattern is 0x4330000000000000 + k, and 2 ^ 52 + k is within a half of v / c
pub record Counts (v c : ℕ) (x : Float) : Type 0 where
  pub number : T (not (is_nan x))
  pub k : ℕ
  pub few : k < 4503599627370496
  pub bits : to_bits binary64 x ≡ 4841369599423283200 + k
  pub over : 2 * ((4503599627370496 + k) * c) ≤ 2 * v + c
  pub under : 2 * v ≤ 2 * ((4503599627370496 + k) * c) + c

pub counts : (x : Float) (v c : ℕ) → 0 < c → T (fits binary64 x) → x ≡ round binary64 false v c → 4503599627370496 * c ≤ v → v ≤ 9007199254740990 * c → Counts v c x
counts x v c C F e lo hi = go (closest v c) (round_near_whole binary64 v c C lo (past hi)) (closest_half v c C)
  where
    past : v ≤ 9007199254740990 * c → v < 9007199254740992 * c
    past h = omega arith

    least : (N : ℕ) → 2 * v ≤ 2 * (N * c) + c → 4503599627370496 < suc N
    least N h = lt_of_mul-lt-mul_right c (omega arith)

    most : (N : ℕ) → 2 * (N * c) ≤ 2 * v + c → N < 9007199254740991
    most N h = lt_of_mul-lt-mul_right c (omega arith)

    go : (N : ℕ) → HasValue (round binary64 false v c) false N 1 → (2 * (N * c) ≤ 2 * v + c) × (2 * v ≤ 2 * (N * c) + c) → Counts v c x
    go N h half =
        let a = least N half.1 in
        let b = most N half.0 in
        let is : 4503599627370496 + (N - 4503599627370496) ≡ N = omega arith in
        let few : N - 4503599627370496 < 4503599627370496 = omega arith in
        let value : HasValue x false (4503599627370496 + (N - 4503599627370496)) 1 = rw (e, is) h in
        record {
          number = valued x false (4503599627370496 + (N - 4503599627370496)) 1 value;
          k = N - 4503599627370496;
          few = few;
          bits = whole_bits binary64 x (N - 4503599627370496) F few value;
          over = rw is half.0;
          under = rw is half.1;
        }

-- Words of the laws on the rounded root.
use Rattle.std.specs.Prelude.{ℕ, ◌+◌, ◌-◌, ◌*◌, ◌^◌, ◌<◌, ◌≤◌, false, from_bits}
use Rattle.std.specs.Float.{Format}
use Rattle.std.specs.Float.Ieee.{prec, emax, low}
use Rattle.std.specs.Float.Ieee.Exact.{HasValue}

-- q is the whole number nearest to √n: (q - 1 / 2)² < n < (q + 1 / 2)²
pub record Near (n q : ℕ) : Type 0 where
  pub above : q * q < n + q
  pub under : n ≤ q * q + q

-- q is the root of n * 4 ^ s, rounded to the digits of the format
pub record RootDigits (f : Format) (n q s : ℕ) : Type 0 where
  pub nearest_root : Near (n * 4 ^ s) q
  pub least : 2 ^ (prec f - 1) * 2 ^ (prec f - 1) ≤ n * 4 ^ s
  pub most : n * 4 ^ s < 2 ^ prec f * 2 ^ prec f
  pub few : s < prec f

-- the pattern b of a positive finite value stands for m * 2 ^ e of the format's smallest value
pub record Unpacked (f : Format) (b m e : ℕ) : Type 0 where
  pub value : HasValue (from_bits f b) false (m * 2 ^ e) (2 ^ low f)
  pub some : 0 < m
  pub digits : m < 2 ^ prec f
  pub few : e < 2 * emax f

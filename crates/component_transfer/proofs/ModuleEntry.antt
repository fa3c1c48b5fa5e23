-- The entry that the floats choose for a byte is the Module's: its number times n, cut, is c n / 255 cut, which is the k with k / n ≤ c / 255 < (k + 1) / n.
use Prim.Native.Nat.{ℕ, ◌+◌, ◌*◌, ◌≤◌, ◌<◌, min}
use mathlib.Core.Path.{◌≡◌, ap}
use native.Mathlib.Nat.{mul-le-mul_right}
use native.Mathlib.Omega.{arith}
use Rattle.floats.specs.Channel.{normalized}
use Rattle.floats.proofs.ByteTimes.{byte_times}
use Rattle.component_transfer.specs.Functions.{entry_of}
use Rattle.component_transfer.specs.Inner.Index.{index}

-- ---- over whole numbers it is what the text says
-- C < 1: the k with k / n ≤ C < (k + 1) / n
pub entry_below_one : (c n last k : ℕ) → c < 255 → n ≤ last + 1 → k * 255 ≤ c * n → c * n < (k + 1) * 255 → entry_of c n last ≡ k
entry_below_one c n last k h m low high = let b : c * n ≤ 254 * n = mul-le-mul_right n (let z : c ≤ 254 = omega arith in z) in omega arith

-- C = 1: the last entry
pub entry_at_one : (n last : ℕ) → last ≤ n → entry_of 255 n last ≡ last
entry_at_one n last h = omega arith

-- ---- the floats choose it
pub index_is_entry : (c n last : ℕ) → c ≤ 255 → n ≤ 256 → index (normalized c) n last ≡ entry_of c n last
index_is_entry c n last h l = ap (λ (k : ℕ). min k last) (byte_times c n h l)

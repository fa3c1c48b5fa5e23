-- The square root, rounded once, over whole numbers by comparing squares: one definition for both formats.
use Rattle.std.specs.Prelude.{ℕ, zero, suc, ◌+◌, ◌-◌, ◌*◌, ◌/◌, ◌^◌, true, false, cond, List, [], ◌∷◌, nat_le, Float}
use Prim.Native.Nat.{compare}
use Rattle.std.specs.Float.{nan, inf, fin, Format, binary32}
use Rattle.std.specs.Float.Ieee.{prec, low, up, down, size, nearest, units}

-- the whole part of √n, for an n below 4 ^ k: each step finds one more binary digit
unfoldable pub root_at : ℕ → ℕ → ℕ
root_at zero n = 0
root_at (suc k) n = let r = 2 * root_at k (n / 4) in cond (nat_le (suc r * suc r) n) (suc r) r

-- the whole part of √n
unfoldable pub root : ℕ → ℕ
unfolding root_at size
root n = root_at (size n) n

-- The value of the format f that is nearest to √(num / den), for a den above 0, in the way of `Ieee.round`. In units of f's smallest value
-- it is √(n / den). Of its whole part w the format keeps the `prec` leading digits, q, and drops k. Whether to go up from q * 2 ^ k is asked
-- of the squares: how n / den compares with the square of (q + 1 / 2) * 2 ^ k. No root overflows, and none lies below the normal range.
unfoldable pub round_root : Format → ℕ → ℕ → Float
unfolding root units
round_root f num den =
    let n = num * 4 ^ low f in
    let w = root (n / den) in
    let k = size w - prec f in
    let q = w / 2 ^ k in
    units f false (nearest q (compare (4 * n) ((2 * q + 1) * (2 * q + 1) * 4 ^ k * den))) k

-- Rust's `x.sqrt()`: a zero keeps its sign, and a value below zero has no root
unfoldable pub sqrt_of : Format → Float → Float
unfolding round_root
sqrt_of f nan = nan
sqrt_of f (inf s) = cond s nan (inf s)
sqrt_of f (fin s zero e) = fin s zero e
sqrt_of f (fin true (suc m) e) = nan
sqrt_of f (fin false (suc m) e) = round_root f (suc m * up e) (down e)

-- the first n numbers, each its root; the rest as it was
unfoldable pub first_roots : ℕ → List Float → List Float
first_roots zero xs = xs
first_roots (suc n) [] = []
first_roots (suc n) (x ∷ xs) = sqrt_of binary32 x ∷ first_roots n xs

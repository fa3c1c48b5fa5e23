-- The two's complement of a number, there and back.
use Prim.Native.Nat.{ℕ, ◌-◌, ◌<◌}
use mathlib.Core.Path.{◌≡◌, refl}
use mathlib.Core.Bool.{Bool, true, false, cond}
use native.Mathlib.Omega.{arith}
use borrow.Author.Tests.{lt-ltb, le-ltb}
use lib.Dec.{ltb}
use lib.IntN.{ℤ, pos, negsuc}
use mir.Syntax.{w32}
use mir.Val.{SFits}
use Rattle.number.specs.Values.{seed_of, seed_bits}

pub seed_small : (z : ℤ) → SFits w32 z → seed_bits z < 4294967296
seed_small (pos n) f = let b = f.sfits in omega arith
seed_small (negsuc n) f = omega arith

pub seed_back : (z : ℤ) → SFits w32 z → seed_of (seed_bits z) ≡ z
seed_back (pos n) f = rw (lt-ltb n 2147483648 f.sfits)
seed_back (negsuc n) f =
    let b = f.sfits in
    let e : 4294967295 - (4294967295 - n) ≡ n = omega arith in
    rw (le-ltb (4294967295 - n) 2147483648 (omega arith), e)

pub seed_form : (n : ℕ) → n < 4294967296 → seed_bits (seed_of n) ≡ n
seed_form n h = by (ltb n 2147483648)
  where
    by : (t : Bool) → seed_bits (cond t (pos n) (negsuc (4294967295 - n))) ≡ n
    by true = refl
    by false = omega arith

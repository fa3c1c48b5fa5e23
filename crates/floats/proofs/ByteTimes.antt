-- The number of a byte c, times a whole n up to 256 and cut, is c n / 255 cut. It is never below c / 255: of its 24 binary digits c's eight come three times, and what is
-- dropped begins with the same one, so it is rounded up; and both roundings move it by less than the 1 / 255 that c n / 255 is below the next whole number.
use Rattle.std.proofs.Common.{◌≡◌, ℕ, ◌+◌, ◌*◌, ◌/◌, ◌%◌, ◌<◌, ◌≤◌, Bool, true, false, ◌&&◌, T, leb, pos, refl, ap, ◌∙◌, mul-le-mul_right, zero-lt-suc, mul-le-mul, div-add-mod', mul-one, arith, lit≤, leb→le}
use lib.Ieee.{Float, nan, inf, fin, binary32, round, div, of_int, of_bits}
use lib.Ieee.Fits.{and_l, and_r}
use lib.Ieee.Exact.{HasValue}
use lib.Ieee.Back.{round_whole}
use lib.Ieee.Positive.{num, den, den_pos}
use Rattle.floats.specs.Channel.{normalized}
use Rattle.floats.specs.Floor.{floor_to}
use Rattle.floats.specs.Operators.{◌⊗◌}
use Rattle.floats.specs.Inner.Steps.{plain}
use Rattle.floats.proofs.EveryByte.{every, below}
use Rattle.floats.proofs.Products.{times_at}
use Rattle.floats.proofs.CutAfterRounding.{cut_after_rounding}

-- n as a float
abbrev pub whole : ℕ → Float
whole n = of_int binary32 (pos n)

-- ---- a byte's number is c / 255, or above it by one part in 2 ^ 24 at most
near : ℕ → Float → Bool
near c x = plain x && (leb (c * den x) (255 * num x) && leb (255 * num x * 16777216) (c * den x * 16777217))

all_near : T (every (λ c. near c (normalized c)) 256)
unfolding every near normalized div of_int of_bits
all_near = tt

module _ (c : ℕ) (h : c ≤ 255) where
  abbrev a : ℕ
  a = num (normalized c)

  abbrev d : ℕ
  d = den (normalized c)

  abbrev least : Bool
  least = leb (c * d) (255 * a)

  abbrev most : Bool
  most = leb (255 * a * 16777216) (c * d * 16777217)

  near_at : T (plain (normalized c) && (least && most))
  unfolding near
  near_at = below (λ c. near c (normalized c)) 256 all_near c (omega arith)

  number_value : HasValue (normalized c) false a d
  number_value = plain_value (normalized c) (and_l (plain (normalized c)) (least && most) near_at)
    where
      plain_value : (x : Float) → T (plain x) → HasValue x false (num x) (den x)
      plain_value nan t = absurd t
      plain_value (inf s) t = absurd t
      plain_value (fin true m e) t = absurd t
      plain_value (fin false m e) t = (refl, refl)

  pub number_least : c * d ≤ 255 * a
  number_least = leb→le (c * d) (255 * a) (and_l least most (and_r (plain (normalized c)) (least && most) near_at))

  pub number_most : 255 * a * 16777216 ≤ c * d * 16777217
  number_most = leb→le (255 * a * 16777216) (c * d * 16777217) (and_r least most (and_r (plain (normalized c)) (least && most) near_at))

  product : (n : ℕ) → n ≤ 256 → normalized c ⊗ whole n ≡ round binary32 false (a * n) d
  unfolding of_int
  product n l =
      times_at binary32 (normalized c) (whole n) a d n 1 (den_pos (normalized c)) (zero-lt-suc 0) number_value (round_whole binary32 false n (let z : n ≤ 16777216 = omega arith in z))
      ∙ ap (round binary32 false (a * n)) (mul-one d)

-- ---- c n is 255 q + r
module _ (a c n d q r : ℕ) (e : q * 255 + r ≡ c * n) where
  times_d : 255 * (q * d) + r * d ≡ c * n * d
  times_d = let z = ap (λ (x : ℕ). x * d) e in omega arith

  from_whole : c * d ≤ 255 * a → q * d ≤ a * n
  from_whole b =
      let z = times_d in
      let m = mul-le-mul_right n b in
      omega arith

  to_next : r ≤ 254 → q ≤ 256 → 255 * a * 16777216 ≤ c * d * 16777217 → a * n * 32768 + d ≤ (q + 1) * 32768 * d
  to_next h most b =
      let z = times_d in
      let m = mul-le-mul_right n b in
      let k = mul-le-mul_right d h in
      let l = mul-le-mul_right d most in
      omega arith

pub byte_times : (c n : ℕ) → c ≤ 255 → n ≤ 256 → floor_to 64 (normalized c ⊗ whole n) ≡ c * n / 255
byte_times c n h l =
    let q = c * n / 255 in
    let a = num (normalized c) in
    let d = den (normalized c) in
    let e : q * 255 + c * n % 255 ≡ c * n = div-add-mod' (c * n) 255 in
    let m = mul-le-mul h l in
    let most : q ≤ 256 = omega arith in
    ap (floor_to 64) (product c h n l)
    ∙ cut_after_rounding binary32 64 15 (a * n) d q (den_pos (normalized c)) (lit≤ tt) (let z : (q + 1) * 32768 ≤ 16777216 = omega arith in z) (let z : q < 18446744073709551616 = omega arith in z)
    (from_whole a c n d q (c * n % 255) e (number_least c h))
    (to_next a c n d q (c * n % 255) e (omega arith) most (number_most c h))

-- A value whose 65,536ths lie more than one part from a half has one byte, however it is rounded to an `f32`.
use Prim.Native.Nat.{ℕ, zero, suc, ◌+◌, ◌-◌, ◌*◌, ◌/◌, ◌%◌, ◌^◌, ◌≤◌, ◌<◌}
use mathlib.Core.Path.{◌≡◌, refl, sym, ap, ◌∙◌, subst}
use mathlib.Core.Bool.{Bool, true, false, not, cond}
use native.Mathlib.Nat.{zero-lt-suc, le_trans, le_of_eq, lt_of_le_of_lt, mul-one, zero-mul, mul_assoc, mul-pos, lt_of_mul-lt-mul_right, le_of_mul-le-mul_right, mul-le-mul_right}
use native.Mathlib.Omega.{arith}
use lib.IntN.{pos}
use lib.Dec.{T, leb→le, lit≤, lit<}
use lib.Pow.{pow-add, pow_pos, pow_mono, shl_lt}
use lib.Ieee.{Float, nan, inf, fin, binary32, binary64, up, down, round, mul, lt, fits, is_nan, of_bits, to_bits, to_unsigned}
use lib.Ieee.Fits.{down_pos, add-fits}
use lib.Ieee.Exact.{HasValue, round_exact}
use lib.Ieee.Back.{round_whole}
use lib.Ieee.Order.{le_of_values}
use lib.Ieee.Positive.{num, den, den_pos}
use Rattle.floats.specs.Constants.{half, c0, c255}
use Rattle.floats.specs.Operators.{◌⊕◌, ◌⊞◌, ◌⊠◌}
use Rattle.floats.specs.Order.{bound}
use Rattle.floats.specs.Narrow.{narrow_to}
use Rattle.floats.specs.Inner.Steps.{up_to}
use Rattle.floats.proofs.CutAfterRounding.{Between, round_between, cut_after_rounding}
use Rattle.floats.proofs.Fractions.{add_at}
use Rattle.floats.proofs.NotAbove.{le_not_gt}
use Rattle.floats.proofs.RoundedDown.{floor_cuts}
use Rattle.floats.proofs.NearestWhole.{bounded_value, whole_from}
use Rattle.floats.proofs.Units.{Units, Finite, in_units_lem}
use Rattle.floats.proofs.WholePatterns.{Counts, counts}
use Rattle.turbulence.specs.Inner.Levels.{level_of, Parts}

-- ---- the byte of a fraction
-- a number of 65,536ths is an `f32`
fine : (y : ℕ) → y < 16777216 → HasValue (round binary32 false y 65536) false y 65536
fine y h = round_exact binary32 false y 65536 y 133 (zero-lt-suc 65535) h (lt_of_le_of_lt (le_of_eq refl) (far y h)) (same y)
  where
    far : (y : ℕ) → y < 2 ^ 24 → y * 2 ^ 133 < 2 ^ 277
    far y h = lt_of_le_of_lt (le_of_eq refl) (le_trans (shl_lt 24 133 h) (pow_mono {i = 157} {j = 277} (lit≤ tt)))

    same : (y : ℕ) → y * 2 ^ 149 ≡ y * 2 ^ 133 * 65536
    same y = sym (mul_assoc y (2 ^ 133) 65536)

not_above : (x : Float) (U L : ℕ) → 0 < L → HasValue x false U L → U * 1 ≤ 255 * L → bound c0 x c255 ≡ x
unfolding of_bits
not_above x U L P v h = go (lt c255 x) (lt x c0) (le_not_gt x c255 (le_of_values x c255 U L 255 1 P (zero-lt-suc 0) v (refl, refl) h)) (le_not_gt c0 x (le_of_values c0 x 0 1 U L (zero-lt-suc 0) P (refl, refl) v (none (0 * L) (U * 1) (zero-mul L))))
  where
    none : (p q : ℕ) → p ≡ 0 → p ≤ q
    none p q e = omega arith

    go : (p q : Bool) → p ≡ false → q ≡ false → cond p c255 (cond q c0 x) ≡ x
    go p q e f = rw (e, f)

half_value : HasValue half false 1 2
unfolding of_bits
half_value = (refl, refl)

module _ (a c q : ℕ) (C : 0 < c) (most : a ≤ 255 * c) (few : q ≤ 255) (lo : (65536 * q - 32768) * c ≤ a * 65536) (hi : a * 65536 ≤ (65536 * q + 32767) * c) where
  abbrev x : Float
  x = round binary32 false a c

  inside : Between binary32 (65536 * q - 32768) 65536 (65536 * q + 32767) 65536 x
  inside = round_between binary32 (65536 * q - 32768) 65536 a c (65536 * q + 32767) 65536 (zero-lt-suc 65535) C (zero-lt-suc 65535) (fine (65536 * q - 32768) (omega arith)) (fine (65536 * q + 32767) (omega arith)) lo hi

  low_enough : Between binary32 0 1 255 1 x
  low_enough = round_between binary32 0 1 a c 255 1 (zero-lt-suc 0) C (zero-lt-suc 0) (round_whole binary32 false 0 (lit≤ tt)) (round_whole binary32 false 255 (lit≤ tt)) (omega arith) (le_trans (le_of_eq (mul-one a)) most)

  pub byte_at : to_unsigned 8 (bound c0 x c255 ⊕ half) ≡ q
  byte_at =
      let L = 2 ^ 149 in
      let U = inside.units in
      let P : 0 < L = pow_pos 149 in
      ap (λ (z : Float). to_unsigned 8 (z ⊕ half)) (not_above x low_enough.units L P low_enough.value low_enough.to)
      ∙ ap (to_unsigned 8) (add_at binary32 x half U L 1 2 P (zero-lt-suc 1) inside.value half_value)
      ∙ sym (floor_cuts 8 (round binary32 false (U * 2 + 1 * L) (L * 2)))
      ∙ cut_after_rounding binary32 8 16 (U * 2 + 1 * L) (L * 2) q (mul-pos P (zero-lt-suc 1)) (lit≤ tt) (le_trans (top q few) (lit≤ tt)) (lt_of_le_of_lt few (lit< tt)) (from U L q inside.from) (to U L q inside.to)
    where
      top : (q : ℕ) → q ≤ 255 → (q + 1) * 65536 ≤ 16777216
      top q h = omega arith

      from : (U L q : ℕ) → (65536 * q - 32768) * L ≤ U * 65536 → q * (L * 2) ≤ U * 2 + 1 * L
      from U L zero h = omega arith
      from U L (suc p) h = let e : 65536 * suc p - 32768 ≡ 65536 * p + 32768 = omega arith in let k : (65536 * p + 32768) * L ≤ U * 65536 = subst (λ (z : ℕ). z * L ≤ U * 65536) e h in omega arith

      to : (U L q : ℕ) → U * 65536 ≤ (65536 * q + 32767) * L → (U * 2 + 1 * L) * 65536 + L * 2 ≤ (q + 1) * 65536 * (L * 2)
      to U L q h = omega arith

-- ---- the parts of a value
-- the literal 65536.0
abbrev parts : Float
parts = fin false 1 (pos 16)

finite_of : (v : Float) → T (up_to 255 v) → Finite v false
finite_of nan h = absurd h
finite_of (inf s) h = absurd h
finite_of (fin true m e) h = absurd h
finite_of (fin false m e) h = refl

-- 65,536 v is exact
scaled_value : (v : Float) → Units binary64 false v → T (up_to 255 v) → HasValue (v ⊠ parts) false (num v * 65536) (den v)
unfolding mul
scaled_value nan u h = absurd h
scaled_value (inf s) u h = absurd h
scaled_value (fin true m e) u h = absurd h
scaled_value (fin false m e) u h =
    let a = m * up e in
    let c = down e in
    let L = 2 ^ 1074 in
    let A = u.q * 2 ^ u.j in
    let wide : u.q * 2 ^ (u.j + 16) ≡ A * 65536 = ap (λ (z : ℕ). u.q * z) (pow-add 2 u.j 16) ∙ sym (mul_assoc u.q (2 ^ u.j) 65536) in
    let is : a * (1 * 65536) ≡ a * 65536 = refl in
    subst (λ (z : Float). HasValue z false (a * 65536) c) (ap (λ (z : ℕ). round binary64 false (a * 65536) z) (sym (mul-one c)))
    (round_exact binary64 false (a * 65536) c u.q (u.j + 16) (down_pos e) u.small
    (lt_of_le_of_lt (le_of_eq wide) (lt_of_le_of_lt (mul-le-mul_right 65536 (few A L a c (down_pos e) u.value.1 (leb→le a (255 * c) h))) (lt_of_le_of_lt (le_of_eq (shift L)) (le_trans (shl_lt {a = 16711680} 24 1074 (lit< tt)) (pow_mono {i = 1098} {j = 2098} (lit≤ tt))))))
    (even a L A c u.value.1 ∙ ap (λ (z : ℕ). z * c) (sym wide)))
  where
    few : (A L a c : ℕ) → 0 < c → a * L ≡ A * c → a ≤ 255 * c → A ≤ 255 * L
    few A L a c C e h = le_of_mul-le-mul_right {k = c} (let m : a * L ≤ 255 * c * L = mul-le-mul_right L h in omega arith) C

    shift : (L : ℕ) → 255 * L * 65536 ≡ 16711680 * L
    shift L = omega arith

    even : (a L A c : ℕ) → a * L ≡ A * c → a * 65536 * L ≡ A * 65536 * c
    even a L A c e = omega arith

module _ (v : Float) (F : T (fits binary64 v)) (h : T (up_to 255 v)) where
  abbrev pub raised : Float
  raised = v ⊠ parts ⊞ whole_from binary64

  counted : Counts (num v * 65536 * 1 + 4503599627370496 * den v) (den v * 1) raised
  counted =
      let C = den_pos v in
      counts raised (num v * 65536 * 1 + 4503599627370496 * den v) (den v * 1) (mul-pos C (zero-lt-suc 0)) (add-fits binary64 (v ⊠ parts) (whole_from binary64))
      (add_at binary64 (v ⊠ parts) (whole_from binary64) (num v * 65536) (den v) 4503599627370496 1 C (zero-lt-suc 0) (scaled_value v (in_units_lem binary64 false v F (finite_of v h)) h) (refl, refl))
      (least (num v) (den v)) (most (num v) (den v) (bounded_value 255 v h).1)
    where
      least : (a c : ℕ) → 4503599627370496 * (c * 1) ≤ a * 65536 * 1 + 4503599627370496 * c
      least a c = omega arith

      most : (a c : ℕ) → a ≤ 255 * c → a * 65536 * 1 + 4503599627370496 * c ≤ 9007199254740990 * (c * 1)
      most a c h = omega arith

  pub no_nan : T (not (is_nan raised))
  no_nan = counted.number

  pub pattern_least : 4841369599423283200 ≤ to_bits binary64 raised
  pattern_least = let e = counted.bits in omega arith

  pub parts_fit : to_bits binary64 raised - 4841369599423283200 + 32769 < 18446744073709551616
  parts_fit = let e = counted.bits in let f = counted.few in omega arith

  pub parts_are : Parts v (to_bits binary64 raised - 4841369599423283200 + 32769)
  parts_are = record {
    k = counted.k;
    number = let e = counted.bits in omega arith;
    over = over counted.k (num v) (den v) counted.over;
    under = under counted.k (num v) (den v) counted.under;
  }
    where
      over : (k a c : ℕ) → 2 * ((4503599627370496 + k) * (c * 1)) ≤ 2 * (a * 65536 * 1 + 4503599627370496 * c) + c * 1 → 2 * (k * c) ≤ 2 * (65536 * a) + c
      over k a c h = omega arith

      under : (k a c : ℕ) → 2 * (a * 65536 * 1 + 4503599627370496 * c) ≤ 2 * ((4503599627370496 + k) * (c * 1)) + c * 1 → 2 * (65536 * a) ≤ 2 * (k * c) + c
      under k a c h = omega arith

-- ---- the byte of a value
pub level_is : (v : Float) (p : ℕ) → T (up_to 255 v) → Parts v p → 1 < p % 65536 → (p / 65536 ≡ level_of v) × (p / 65536 < 256)
unfolding level_of narrow_to
level_is nan p h r l = absurd h
level_is (inf s) p h r l = absurd h
level_is (fin true m e) p h r l = absurd h
level_is (fin false m e) p h r l =
    let a = m * up e in
    let c = down e in
    let C = down_pos e in
    let most = leb→le a (255 * c) h in
    let n = r.number in
    let few = lt_of_mul-lt-mul_right c (small r.k a c C most r.over) in
    let q : p / 65536 ≤ 255 = omega arith in
    (sym (byte_at a c (p / 65536) C most q (from r.k a c (p / 65536) r.over (omega arith)) (to r.k a c (p / 65536) r.under (omega arith))), omega arith)
  where
    small : (k a c : ℕ) → 0 < c → a ≤ 255 * c → 2 * (k * c) ≤ 2 * (65536 * a) + c → k * c < 16711681 * c
    small k a c C h o = omega arith

    from : (k a c q : ℕ) → 2 * (k * c) ≤ 2 * (65536 * a) + c → 65536 * q + 1 ≤ k + 32768 → (65536 * q - 32768) * c ≤ a * 65536
    from k a c zero o h = omega arith
    from k a c (suc p) o h = let e : 65536 * suc p - 32768 ≡ 65536 * p + 32768 = omega arith in let w : (65536 * p + 32769) * c ≤ k * c = mul-le-mul_right c (omega arith) in subst (λ (z : ℕ). z * c ≤ a * 65536) (sym e) (omega arith)

    to : (k a c q : ℕ) → 2 * (65536 * a) ≤ 2 * (k * c) + c → k + 32768 ≤ 65536 * q + 65534 → a * 65536 ≤ (65536 * q + 32767) * c
    to k a c q o h = let w : k * c ≤ (65536 * q + 32766) * c = mul-le-mul_right c (omega arith) in omega arith

-- Every colour of the result is within its alpha: it is bounded by the new alpha, or is a part of it, and the order goes through the rounding to bytes.
use Prim.Native.Nat.{ℕ, ◌+◌, ◌*◌, ◌/◌, ◌%◌, ◌^◌, ◌≤◌, ◌<◌}
use mathlib.Core.Path.{◌≡◌, refl, ap, ◌∙◌, subst}
use mathlib.Core.Bool.{Bool, true, false, cond, true≢false}
use mathlib.Core.List.{List}
use native.Mathlib.Nat.{le_refl, mul-le-mul_right, mul-pos, mul-zero, zero-mul, mul_assoc}
use native.Mathlib.Omega.{arith}
use lib.Dec.{T, eqb, nltb→le, lit<}
use lib.ListN.{get_or}
use lib.Pow.{pow_pos}
use lib.Ieee.{Float, nan, inf, fin, binary32, low, up, down, unlike, round, add, mul, lt, le, fits, of_bits, to_unsigned}
use lib.Ieee.Fits.{down_pos, cond-fits, round-fits, add-fits, div-fits}
use lib.Ieee.Exact.{HasValue, round_exact}
use lib.Ieee.Order.{round_mono}
use Rattle.floats.specs.Channel.{normalized}
use Rattle.floats.specs.Constants.{c0, c1, c255}
use Rattle.floats.specs.Operators.{◌⊕◌, ◌⊗◌, ◌⊘◌}
use Rattle.floats.specs.Order.{bound}
use Rattle.floats.proofs.Tests.{T_true, T_false}
use Rattle.floats.proofs.Fractions.{lt_no}
use Rattle.floats.proofs.NotAbove.{le_not_gt}
use Rattle.floats.proofs.Products.{times_at}
use Rattle.floats.proofs.Units.{Finite, value_unique, in_units_lem}
use Rattle.convolve_matrix.specs.declared.ConvolveMatrix.{ConvolveMatrix}
use Rattle.convolve_matrix.specs.ConvolveMatrix.{new_alpha, colour_value, bounded_colour, bounded, to_byte, colour_of, alpha_of, channel_of, alpha_at, new_alpha_of, sum_of, convolved_at, convolved_by}
use Rattle.convolve_matrix.proofs.InOrder.{rounded_negative, zero_byte, nan_byte, not_above_zero, bytes_in_order}
use Rattle.convolve_matrix.proofs.Reading.{byte_convolved}

-- ---- the clamp to 0 to 1
one_not_below : lt c1 c1 ≡ false
unfolding lt of_bits
one_not_below = refl

zero_below : lt c1 c0 ≡ false
unfolding lt of_bits
zero_below = refl

bounded_by_one : (a : Float) → lt c1 (bounded a) ≡ false
bounded_by_one a = go (lt c1 a) (lt a c0) refl
  where
    go : (p q : Bool) → lt c1 a ≡ p → lt c1 (cond p c1 (cond q c0 a)) ≡ false
    go true q e = one_not_below
    go false true e = zero_below
    go false false e = e

number : Float → Bool
number nan = false
number (inf s) = true
number (fin s m e) = true

number_bounded : (a : Float) → T (number a) → T (number (bounded a))
unfolding number of_bits
number_bounded a h = go (lt c1 a) (lt a c0)
  where
    go : (p q : Bool) → T (number (cond p c1 (cond q c0 a)))
    go true q = tt
    go false true = tt
    go false false = h

is_nan_lem : (a : Float) → number a ≡ false → a ≡ nan
unfolding number
is_nan_lem nan e = refl
is_nan_lem (inf s) e = absurd (true≢false e)
is_nan_lem (fin s m e) q = absurd (true≢false q)

not_nan : (a : Float) → T (number a) → a ≡ nan → ⊥
unfolding number
not_nan a h e = subst (λ (x : Float). T (number x)) e h

-- ---- a NaN as the new alpha
times_nan : (x : Float) → x ⊗ nan ≡ nan
unfolding mul
times_nan nan = refl
times_nan (inf s) = refl
times_nan (fin s m e) = refl

plus_nan : (x : Float) → x ⊕ nan ≡ nan
unfolding add
plus_nan nan = refl
plus_nan (inf s) = refl
plus_nan (fin s m e) = refl

nan_bounded : (b : Float) → bound c0 nan b ≡ nan
unfolding lt of_bits
nan_bounded nan = refl
nan_bounded (inf s) = refl
nan_bounded (fin s m e) = refl

nan_byte' : to_byte nan ≡ 0
unfolding to_byte
nan_byte' = nan_byte

-- ---- bounded by b
bound_byte : (x b : Float) → lt c1 b ≡ false → T (number b) → to_byte (bound c0 x b) ≤ to_byte b
unfolding to_byte
bound_byte x b l n = go (lt b x) (lt x c0) refl
  where
    go : (p q : Bool) → lt b x ≡ p → to_unsigned 8 (cond p b (cond q c0 x) ⊗ c255 ⊕ of_bits binary32 0x3f00_0000) ≤ to_unsigned 8 (b ⊗ c255 ⊕ of_bits binary32 0x3f00_0000)
    go true q e = le_refl _
    go false true e = let z = zero_byte in omega arith
    go false false e = bytes_in_order x b e l (not_nan b n)

-- ---- a part of b
zero_not_below : lt c0 c0 ≡ false
unfolding lt of_bits
zero_not_below = refl

one_above : lt c1 c0 ≡ false
one_above = zero_below

not_negative : (x : Float) → lt (bounded x) c0 ≡ false
not_negative x = go (lt c1 x) (lt x c0) refl
  where
    go : (p q : Bool) → lt x c0 ≡ q → lt (cond p c1 (cond q c0 x)) c0 ≡ false
    go true q e = one_above
    go false true e = zero_not_below
    go false false e = e

negative_below : (a c : ℕ) → lt c0 (round binary32 true a c) ≡ false
unfolding lt of_bits
negative_below = rounded_negative (λ x. lt c0 x ≡ false) refl (λ m e. refl)

zero_rounded : c0 ≡ round binary32 false 0 1
unfolding round of_bits
zero_rounded = refl

-- a product of 0, of either sign
zero_product : (s : Bool) (a c : ℕ) → 0 < c → a ≡ 0 → to_byte (round binary32 s a c) ≡ 0
unfolding to_byte
zero_product true a c C e = not_above_zero (round binary32 true a c) (negative_below a c)
zero_product false a c C e =
    not_above_zero (round binary32 false a c) (le_not_gt (round binary32 false a c) c0 (rw zero_rounded (round_mono binary32 a c 0 1 C (lit< tt) (let z = ap (λ (n : ℕ). n * 1) e in omega arith))))

-- a number of the format is its own rounding
module _ (b : Float) (F : T (fits binary32 b)) (f : Finite b false) where
  part_below : (u : Float) (a c : ℕ) → 0 < c → HasValue u false a c → a ≤ c → lt b (u ⊗ b) ≡ false
  part_below u a c C h l =
      let U = in_units_lem binary32 false b F f in
      let Q = U.q * 2 ^ U.j in
      let own : round binary32 false Q (2 ^ low binary32) ≡ b = value_unique binary32 (round binary32 false Q (2 ^ low binary32)) b false Q (2 ^ low binary32) (pow_pos (low binary32)) (round-fits binary32 false Q (2 ^ low binary32)) F (round_exact binary32 false Q (2 ^ low binary32) U.q U.j (pow_pos (low binary32)) U.small U.fine refl) U.value in
      let less : T (le (round binary32 false (a * Q) (c * 2 ^ low binary32)) (round binary32 false Q (2 ^ low binary32))) = round_mono binary32 (a * Q) (c * 2 ^ low binary32) Q (2 ^ low binary32) (mul-pos C (pow_pos (low binary32))) (pow_pos (low binary32)) (smaller a c Q (2 ^ low binary32) l) in
      le_not_gt (u ⊗ b) b (rw (times_at binary32 u b a c Q (2 ^ low binary32) C (pow_pos (low binary32)) h U.value) (rw own at less))
    where
      smaller : (a c q l : ℕ) → a ≤ c → a * q * l ≤ q * (c * l)
      smaller a c q l h = let z = mul-le-mul_right (q * l) h in omega arith

one_value : HasValue c1 false 1 1
unfolding of_bits
one_value = (refl, refl)

at_most_one : (u : Float) (a c : ℕ) → HasValue u false a c → lt c1 u ≡ false → a ≤ c
at_most_one u a c h p = let z = lt_no c1 u 1 1 a c one_value h (T_false p) in omega arith

part_byte : (u b : Float) (a c : ℕ) → T (fits binary32 b) → Finite b false → 0 < c → HasValue u false a c → a ≤ c → lt c1 b ≡ false → T (number b) → to_byte (u ⊗ b) ≤ to_byte b
unfolding to_byte
part_byte u b a c F f C h l r n = bytes_in_order (u ⊗ b) b (part_below b F f u a c C h l) r (not_nan b n)

product_byte : (u b : Float) → T (fits binary32 b) → lt c1 u ≡ false → lt u c0 ≡ false → lt c1 b ≡ false → lt b c0 ≡ false → to_byte (u ⊗ b) ≤ to_byte b
unfolding lt mul of_bits number
product_byte nan b F p q r s = let z = nan_byte' in omega arith
product_byte (inf true) b F p q r s = absurd (true≢false q)
product_byte (inf false) b F p q r s = absurd (true≢false p)
product_byte (fin t m e) nan F p q r s = let z = nan_byte' in omega arith
product_byte (fin t m e) (inf true) F p q r s = absurd (true≢false s)
product_byte (fin t m e) (inf false) F p q r s = absurd (true≢false r)
product_byte (fin t m e) (fin true k d) F p q r s =
    let l : k * up d * 1 + 0 * 1 * down d ≤ 0 = nltb→le 0 (k * up d * 1 + 0 * 1 * down d) (T_false s) in
    let z : k * up d ≡ 0 = omega arith in
    let e₀ = zero_product (unlike t true) (m * up e * (k * up d)) (down e * down d) (mul-pos (down_pos e) (down_pos d)) (ap (λ (n : ℕ). m * up e * n) z ∙ mul-zero (m * up e)) in
    omega arith
product_byte (fin true m e) (fin false k d) F p q r s =
    let l : m * up e * 1 + 0 * 1 * down e ≤ 0 = nltb→le 0 (m * up e * 1 + 0 * 1 * down e) (T_false q) in
    let z : m * up e ≡ 0 = omega arith in
    let e₀ = zero_product true (m * up e * (k * up d)) (down e * down d) (mul-pos (down_pos e) (down_pos d)) (ap (λ (n : ℕ). n * (k * up d)) z ∙ zero-mul (k * up d)) in
    omega arith
product_byte (fin false m e) (fin false k d) F p q r s = part_byte (fin false m e) (fin false k d) (m * up e) (down e) F refl (down_pos e) (refl, refl) (at_most_one (fin false m e) (m * up e) (down e) (refl, refl) p) r tt

-- ---- every colour, of a new alpha of the format
one_fits : T (fits binary32 c1)
unfolding fits of_bits
one_fits = tt

zero_fits : T (fits binary32 c0)
unfolding fits of_bits
zero_fits = tt

bounded_fits : (a : Float) → T (fits binary32 a) → T (fits binary32 (bounded a))
bounded_fits a F = cond-fits binary32 (lt c1 a) c1 (cond (lt a c0) c0 a) one_fits (cond-fits binary32 (lt a c0) c0 a zero_fits F)

colour_nan : (m : ConvolveMatrix) (sum : Float) → colour_value m sum nan ≡ nan
unfolding colour_value
colour_nan m sum = ap (λ (x : Float). sum ⊘ m.divisor ⊕ x) (times_nan m.bias) ∙ plus_nan (sum ⊘ m.divisor)

pub colour_within : (m : ConvolveMatrix) (sum a : Float) → T (fits binary32 a) → colour_of m sum a ≤ alpha_of a
unfolding bounded_colour
colour_within m sum a F = go m.preserve_alpha (number a) refl
  where
    go : (p n : Bool) → number a ≡ n → to_byte (cond p (bound c0 (colour_value m sum a) c1 ⊗ bounded a) (bound c0 (colour_value m sum a) (bounded a))) ≤ to_byte (bounded a)
    go true n e =
        let x = colour_value m sum a in
        product_byte (bounded x) (bounded a) (bounded_fits a F) (bounded_by_one x) (not_negative x) (bounded_by_one a) (not_negative a)
    go false true e = bound_byte (colour_value m sum a) (bounded a) (bounded_by_one a) (number_bounded a (T_true e))
    go false false e =
        let z = is_nan_lem a e in
        let v : colour_value m sum a ≡ nan = ap (colour_value m sum) z ∙ colour_nan m sum in
        let b : bound c0 (colour_value m sum a) (bounded a) ≡ nan = ap (λ (x : Float). bound c0 x (bounded a)) v ∙ nan_bounded (bounded a) in
        let y = ap to_byte b ∙ nan_byte' in
        omega arith

pub alpha_fits : (m : ConvolveMatrix) (sum : Float) (own : ℕ) → T (fits binary32 (new_alpha m sum own))
unfolding new_alpha normalized
alpha_fits m sum own = cond-fits binary32 m.preserve_alpha (normalized own) (sum ⊘ m.divisor ⊕ m.bias) (div-fits binary32 _ _) (add-fits binary32 _ _)

pub channel_within : (m : ConvolveMatrix) (c : ℕ) (sum a : Float) → T (fits binary32 a) → channel_of m c sum a ≤ alpha_of a
channel_within m c sum a F = go (eqb c 3)
  where
    go : (t : Bool) → cond t (alpha_of a) (colour_of m sum a) ≤ alpha_of a
    go true = le_refl (alpha_of a)
    go false = colour_within m sum a F

-- byte k of the result is at most its pixel's alpha
pub within_alpha : (m : ConvolveMatrix) (kernel : List Float) (w h : ℕ) (s : List ℕ) (k : ℕ) → k < 4 * w * h → get_or (convolved_by m kernel w h s) k 0 ≤ alpha_at (convolved_by m kernel w h s) k
within_alpha m kernel w h s k l =
    let i = 4 * (k / 4) + 3 in
    let c : i % 4 ≡ 3 = omega arith in
    let q : i / 4 ≡ k / 4 = omega arith in
    let same : convolved_at m kernel w h s i ≡ alpha_of (new_alpha_of m kernel w h s k) = rw (c, q) in
    rw (byte_convolved m kernel w h s k l, byte_convolved m kernel w h s i (omega (arith, mul_assoc 4 w h)), same)
    (channel_within m (k % 4) (sum_of m kernel w h s k (k % 4)) (new_alpha_of m kernel w h s k) (alpha_fits m (sum_of m kernel w h s k 3) (alpha_at s k)))

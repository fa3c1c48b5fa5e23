-- A half is added before the cut to a byte: what lies beyond 0 to 255 is cut to the same byte whether or not it is brought there first.
use Prim.Native.Nat.{ℕ, ◌+◌, ◌-◌, ◌*◌, ◌^◌, ◌≤◌, ◌<◌}
use mathlib.Core.Path.{◌≡◌, refl, sym, ap, ◌∙◌, subst}
use mathlib.Core.Bool.{Bool, true, false, not, cond, ◌&&◌, true≢false}
use native.Mathlib.Nat.{mul-pos, min-eq_right, le-div_iff_mul-le}
use native.Mathlib.Omega.{arith}
use lib.Dec.{T, ltb, ltb→lt, nltb→le, lit<, lit≤}
use lib.Ieee.{Float, nan, inf, fin, binary32, up, down, odd, units, round, sum, add, lt, le, of_bits, to_unsigned}
use lib.Ieee.Back.{round_whole}
use lib.Ieee.Fits.{down_pos, round_is}
use lib.Ieee.Exact.{HasValue, odd_sign}
use lib.Ieee.Order.{round_mono}
use lib.Ieee.Positive.{above, above_of_le, positive_of_value}
use lib.Ieee.Scale.{overflow}
use Rattle.floats.specs.Constants.{half, c0, c255}
use Rattle.floats.specs.Operators.{◌⊕◌}
use Rattle.floats.specs.Order.{bound}
use Rattle.floats.proofs.Fractions.{add_at, lt_no}
use Rattle.floats.proofs.SignedSums.{add_signed}
use Rattle.floats.proofs.NotAbove.{le_not_gt}
use Rattle.floats.proofs.RoundedDown.{floor_cuts}
use Rattle.floats.proofs.CutAfterRounding.{cut_after_rounding}

half_value : HasValue half false 1 2
unfolding of_bits
half_value = (refl, refl)

-- ---- above 255
flip : (n d : ℕ) → 255 * d ≤ n * 1 → 255 * d ≤ n
flip n d h = omega arith

not_under : (x y : Float) → HasValue x false 255 1 → T (above y) → lt y x ≡ false → to_unsigned 8 y ≡ 255
unfolding to_unsigned
not_under x nan v a e = absurd a
not_under x (inf true) v a e = absurd a
not_under x (inf false) v a e = refl
not_under x (fin true n d) v a e = absurd a
not_under x (fin false n d) v a e =
    min-eq_right ((le-div_iff_mul-le (down_pos d)).1 (flip (n * up d) (down d) (lt_no (fin false n d) x (n * up d) (down d) 255 1 (refl, refl) v (subst (λ (b : Bool). T (not b)) (sym e) tt))))

over_top : (x y : Float) → HasValue x false 255 1 → T (le x y) → to_unsigned 8 y ≡ 255
over_top x y v h = not_under x y v (above_of_le x y (positive_of_value x 255 1 v (lit< tt)) h) (le_not_gt x y h)

room : (a c : ℕ) → 255 * 1 * c < a * 1 → 255 * (c * 2) ≤ (a * 2 + 1 * c) * 1
room a c h = omega arith

above_cut : (v : Float) → T (lt c255 v) → to_unsigned 8 (v ⊕ half) ≡ 255
unfolding of_bits lt add to_unsigned
above_cut nan h = absurd h
above_cut (inf true) h = absurd h
above_cut (inf false) h = refl
above_cut (fin true m e) h = absurd h
above_cut (fin false m e) h =
    let a = m * up e in
    let c = down e in
    let C : 0 < c = down_pos e in
    ap (to_unsigned 8) (add_at binary32 (fin false m e) half a c 1 2 C (lit< tt) (refl, refl) half_value)
    ∙ over_top (round binary32 false 255 1) (round binary32 false (a * 2 + 1 * c) (c * 2)) (round_whole binary32 false 255 (lit≤ tt))
    (round_mono binary32 255 1 (a * 2 + 1 * c) (c * 2) (lit< tt) (mul-pos C (lit< tt)) (room a c (ltb→lt (255 * 1 * c) (a * 1) h)))

-- ---- below 0
negative_cut : (x : Float) (a c : ℕ) → HasValue x true a c → to_unsigned 8 x ≡ 0
unfolding to_unsigned
negative_cut nan a c h = absurd h
negative_cut (inf s) a c h = absurd h
negative_cut (fin true m e) a c h = refl
negative_cut (fin false m e) a c h = absurd (true≢false (sym h.0))

units_cut : (q k : ℕ) → to_unsigned 8 (units binary32 true q k) ≡ 0
unfolding units to_unsigned
units_cut q k = go (ltb (q * 2 ^ k) (overflow binary32))
  where
    go : (b : Bool) → to_unsigned 8 (cond b (odd 25 true q k 149) (inf true)) ≡ 0
    go true = negative_cut (odd 25 true q k 149) (q * 2 ^ k) (2 ^ 149) (odd_sign 25 true q k 149)
    go false = refl

round_cut : (n d : ℕ) → to_unsigned 8 (round binary32 true n d) ≡ 0
round_cut n d = ap (to_unsigned 8) (round_is binary32 true n d) ∙ units_cut _ _

small_cut : (n d : ℕ) → 0 < d → 2 * n ≤ d → to_unsigned 8 (round binary32 false n d) ≡ 0
small_cut n d D h =
    sym (floor_cuts 8 (round binary32 false n d))
    ∙ cut_after_rounding binary32 8 1 n d 0 D (lit≤ tt) (lit≤ tt) (lit< tt) (let z : 0 * d ≤ n = omega arith in z) (let z : n * 2 + d ≤ (0 + 1) * 2 * d = omega arith in z)

sum_cut : (a c : ℕ) → 0 < c → to_unsigned 8 (sum binary32 true (a * 2) false (1 * c) (c * 2)) ≡ 0
unfolding sum
sum_cut a c C = go (ltb (a * 2) (1 * c)) (ltb (1 * c) (a * 2)) (nltb→le (1 * c) (a * 2))
  where
    part : 2 * (1 * c - a * 2) ≤ c * 2
    part = omega arith

    none : a * 2 ≤ 1 * c → 2 * (a * 2 - 1 * c) ≤ c * 2
    none h = omega arith

    go : (p q : Bool) → (T (not q) → a * 2 ≤ 1 * c) → to_unsigned 8 (cond p (round binary32 false (1 * c - a * 2) (c * 2)) (round binary32 (true && q) (a * 2 - 1 * c) (c * 2))) ≡ 0
    go true q f = small_cut (1 * c - a * 2) (c * 2) (mul-pos C (lit< tt)) part
    go false true f = round_cut (a * 2 - 1 * c) (c * 2)
    go false false f = small_cut (a * 2 - 1 * c) (c * 2) (mul-pos C (lit< tt)) (none (f tt))

no_less : (n d : ℕ) → n * 1 < 0 * 1 * d → ⊥
no_less n d h = omega arith

below_cut : (v : Float) → T (lt v c0) → to_unsigned 8 (v ⊕ half) ≡ 0
unfolding of_bits lt add to_unsigned
below_cut nan h = absurd h
below_cut (inf true) h = refl
below_cut (inf false) h = absurd h
below_cut (fin false m e) h = absurd (no_less (m * up e) (down e) (ltb→lt (m * up e * 1) (0 * 1 * down e) h))
below_cut (fin true m e) h =
    ap (to_unsigned 8) (add_signed binary32 (fin true m e) half true false (m * up e) (down e) 1 2 (down_pos e) (lit< tt) (refl, refl) half_value) ∙ sum_cut (m * up e) (down e) (down_pos e)

-- ---- the two ends themselves
top_cut : to_unsigned 8 (c255 ⊕ half) ≡ 255
unfolding of_bits add to_unsigned
top_cut = refl

low_cut : to_unsigned 8 (c0 ⊕ half) ≡ 0
unfolding of_bits add to_unsigned
low_cut = refl

pub bounded_cut : (v : Float) → to_unsigned 8 (v ⊕ half) ≡ to_unsigned 8 (bound c0 v c255 ⊕ half)
bounded_cut v = go (lt c255 v) (lt v c0) (above_cut v) (below_cut v)
  where
    go : (p q : Bool) → (T p → to_unsigned 8 (v ⊕ half) ≡ 255) → (T q → to_unsigned 8 (v ⊕ half) ≡ 0) → to_unsigned 8 (v ⊕ half) ≡ to_unsigned 8 (cond p c255 (cond q c0 v) ⊕ half)
    go true q f g = f tt ∙ sym top_cut
    go false true f g = g tt ∙ sym low_cut
    go false false f g = refl

-- A whole `f64` of size at most 2 ^ 31, with its sign, is cast to the `i32` of that number. Assumes nothing.
use Rattle.std.proofs.Common.{◌≡◌, ℕ, zero, suc, ◌-◌, ◌*◌, ◌^◌, ◌<◌, ◌≤◌, Bool, true, false, cond, not, ◌&&◌, T, ltb, ℤ, pos, negsuc, neg_ℤ, sym, refl, ap, subst, true≢false, le_trans, zero-lt-suc, mul-pos, one-mul, arith, lit<, lit≤, le→leb, lt→ltb, nltb→le}
use native.Mathlib.Nat.{min-eq_left, min-eq_right}
use lib.Ieee.{Float, nan, inf, fin, binary64, up, down, round, sum, add, sub, neg, lt, of_int, in_float, in_signed, to_signed}
use lib.Ieee.Fits.{down_pos}
use lib.Ieee.Exact.{HasValue}
use lib.Ieee.Back.{round_whole, positive_back, negative_back}
use lib.Ieee.Positive.{num, den, den_pos}
use lib.Ieee.Scale.{round_same}
use Rattle.floats.specs.Round.{away}
use Rattle.floats.proofs.Away.{away_le}
use Rattle.floats.specs.Inner.Steps.{up_to, signed_by}
use Rattle.floats.proofs.Fractions.{nought, lt_yes, lt_no}
use Rattle.floats.proofs.NearestWhole.{bounded_value}
use Rattle.floats.proofs.HalfAway.{of_int_is}

pub size_most : (z : Float) → T (up_to 2147483648 z) → away (num z) (den z) ≤ 2147483648
size_most z h = away_le (num z) (den z) 2147483648 (den_pos z) (bounded_value 2147483648 z h).1

in_float_lem : (n : ℕ) → n ≤ 2147483648 → T (in_float binary64 (pos n))
unfolding in_float
in_float_lem n h = le→leb n (2 ^ 53) (le_trans h (lit≤ tt))

in_float_neg : (k : ℕ) → suc k ≤ 2147483648 → T (in_float binary64 (negsuc k))
unfolding in_float
in_float_neg k h = lt→ltb k (2 ^ 53) (le_trans h (lit≤ tt))

int_value : (n : ℕ) → n ≤ 2147483648 → HasValue (of_int binary64 (pos n)) false n 1
int_value n h = subst (λ (x : Float). HasValue x false n 1) (sym (of_int_is binary64 n)) (round_whole binary64 false n (le_trans h (lit≤ tt)))

-- 0 - n
under_zero : (x : Float) (k : ℕ) → HasValue x false (suc k) 1 → sub binary64 nought x ≡ of_int binary64 (negsuc k)
unfolding sub add neg sum of_int
under_zero nan k h = absurd h
under_zero (inf s) k h = absurd h
under_zero (fin true m e) k h = absurd (true≢false h.0)
under_zero (fin false m e) k h = go (ltb (0 * 1 * down e) (m * up e * 1)) (nltb→le (0 * 1 * down e) (m * up e * 1))
  where
    no : (n d k : ℕ) → 0 < d → n * 1 ≡ suc k * d → n * 1 ≤ 0 * 1 * d → ⊥
    no n d k p e h = zero_gone (suc k * d) (mul-pos (zero-lt-suc k) p) (go' n d (suc k * d) e h)
      where
        go' : (n d s : ℕ) → n * 1 ≡ s → n * 1 ≤ 0 * 1 * d → s ≡ 0
        go' n d s e h = omega arith

        zero_gone : (s : ℕ) → 0 < s → s ≡ 0 → ⊥
        zero_gone s p e = omega arith

    same : (n d k : ℕ) → n * 1 ≡ suc k * d → (n * 1 - 0 * 1 * d) * 1 ≡ suc k * (1 * d)
    same n d k e = go' n d (suc k * d) (suc k * (1 * d)) e again
      where
        again : suc k * (1 * d) ≡ suc k * d
        again = ap (λ (x : ℕ). suc k * x) (one-mul d)

        go' : (n d s u : ℕ) → n * 1 ≡ s → u ≡ s → (n * 1 - 0 * 1 * d) * 1 ≡ u
        go' n d s u e f = omega arith

    go : (b : Bool) → (T (not b) → m * up e * 1 ≤ 0 * 1 * down e)
        → cond b (round binary64 true (m * up e * 1 - 0 * 1 * down e) (1 * down e)) (round binary64 (false && ltb (m * up e * 1) (0 * 1 * down e)) (0 * 1 * down e - m * up e * 1) (1 * down e)) ≡ round binary64 true (suc k) 1
    go true n = round_same binary64 true (m * up e * 1 - 0 * 1 * down e) (1 * down e) (suc k) 1 (mul-pos (zero-lt-suc 0) (down_pos e)) (zero-lt-suc 0) (same (m * up e) (down e) k h.1)
    go false n = absurd (no (m * up e) (down e) k (down_pos e) h.1 (n tt))

zero_less : sub binary64 nought (of_int binary64 (pos 0)) ≡ of_int binary64 (pos 0)
unfolding sub of_int
zero_less = refl

abbrev pub Casts : Float → ℤ → Type 0
Casts x z = T (in_signed binary64 31 x) × (to_signed 31 x ≡ z)

pub minus_cast : (n : ℕ) → n ≤ 2147483648 → Casts (sub binary64 nought (of_int binary64 (pos n))) (neg_ℤ (pos n))
minus_cast zero h = subst (λ (x : Float). Casts x (pos 0)) (sym zero_less) (positive_back binary64 31 0 (in_float_lem 0 (lit≤ tt)) (lit< tt))
minus_cast (suc k) h = subst (λ (x : Float). Casts x (negsuc k)) (sym (under_zero (of_int binary64 (pos (suc k))) k (int_value (suc k) h))) (negative_back binary64 31 k (in_float_neg k h) h)

pub plus_cast : (n : ℕ) → n < 2147483647 → Casts (of_int binary64 (pos n)) (pos n)
plus_cast n h = positive_back binary64 31 n (in_float_lem n (far n h)) (near n h)
  where
    far : (n : ℕ) → n < 2147483647 → n ≤ 2147483648
    far n h = omega arith

    near : (n : ℕ) → n < 2147483647 → n < 2147483648
    near n h = omega arith

abbrev pub most : Float
most = fin false 2147483647 (pos 0)

pub below_most : (n : ℕ) → n ≤ 2147483648 → T (lt (of_int binary64 (pos n)) most) → n < 2147483647
below_most n h l = tidy n (lt_yes (of_int binary64 (pos n)) most n 1 2147483647 1 (zero-lt-suc 0) (zero-lt-suc 0) (int_value n h) (refl, refl) l)
  where
    tidy : (n : ℕ) → n * 1 < 2147483647 * 1 → n < 2147483647
    tidy n h = omega arith

pub from_most : (n : ℕ) → n ≤ 2147483648 → T (not (lt (of_int binary64 (pos n)) most)) → 2147483647 ≤ n
from_most n h l = tidy n (lt_no (of_int binary64 (pos n)) most n 1 2147483647 1 (int_value n h) (refl, refl) l)
  where
    tidy : (n : ℕ) → 2147483647 * 1 ≤ n * 1 → 2147483647 ≤ n
    tidy n h = omega arith

pub by_minus : (n : ℕ) → n ≤ 2147483648 → neg_ℤ (pos n) ≡ signed_by true n
unfolding signed_by
by_minus n h = ap (λ (k : ℕ). neg_ℤ (pos k)) (sym (min-eq_left h))

pub by_plus : (n : ℕ) → n < 2147483647 → pos n ≡ signed_by false n
unfolding signed_by
by_plus n h = ap pos (sym (min-eq_left (go n h)))
  where
    go : (n : ℕ) → n < 2147483647 → n ≤ 2147483647
    go n h = omega arith

pub by_most : (n : ℕ) → 2147483647 ≤ n → pos 2147483647 ≡ signed_by false n
unfolding signed_by
by_most n h = ap pos (sym (min-eq_right h))

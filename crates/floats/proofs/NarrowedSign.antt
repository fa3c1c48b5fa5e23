-- The sign of an `f64` rounded to an `f32`, and a NaN. Assumes nothing.
use Rattle.std.proofs.Common.{◌≡◌, ℕ, zero, suc, ◌+◌, ◌*◌, ◌/◌, ◌%◌, ◌^◌, ◌<◌, ◌≤◌, Bool, true, false, cond, not, ◌&&◌, ◌||◌, T, eqb, ltb, leb, pos, sym, refl, ap, ◌∙◌, subst, true≢false, le-add_right, lt_of_le_of_lt, mod-lt, mod-eq_of_lt, arith, lit<, le→leb, ltb→lt, nltb→le}
use mathlib.Core.Bool.{beq}
use lib.Dec.{eqb_refl, not_T}
use lib.Ieee.{Float, nan, inf, fin, Format, binary32, binary64, prec, emax, low, hid, ones, top, up, down, odd, units, round, neg, div, eq, is_nan, nan_bits, fits, of_fields, of_bits, to_bits}
use lib.Ieee.Fits.{round_is}
use lib.Ieee.Bits.{of_bits-to_bits, to_bits-lt, nan_bits_is, nan_bits_above, is_true}
use lib.Ieee.Order.{drop, kept}
use Rattle.floats.specs.Narrow.{narrow_to}
use Rattle.floats.proofs.Patterns.{unsigned}

neg_neg : (x : Float) → neg (neg x) ≡ x
unfolding neg
neg_neg nan = refl
neg_neg (inf true) = refl
neg_neg (inf false) = refl
neg_neg (fin true m e) = refl
neg_neg (fin false m e) = refl

odd_neg : (d q k l : ℕ) → odd d true q k l ≡ neg (odd d false q k l)
unfolding odd neg
odd_neg d zero k l = refl
odd_neg d (suc q) k l = refl

cond_neg : (b : Bool) (x y : Float) → neg (cond b x y) ≡ cond b (neg x) (neg y)
cond_neg true x y = refl
cond_neg false x y = refl

inf_neg : inf true ≡ neg (inf false)
unfolding neg
inf_neg = refl

nan_neg : nan ≡ neg nan
unfolding neg
nan_neg = refl

units_neg : (f : Format) (q k : ℕ) → units f true q k ≡ neg (units f false q k)
unfolding units
units_neg f q k = go (ltb (q * 2 ^ k) (2 ^ (low f + suc (emax f))))
  where
    go : (b : Bool) → cond b (odd (suc (prec f)) true q k (low f)) (inf true) ≡ neg (cond b (odd (suc (prec f)) false q k (low f)) (inf false))
    go true = odd_neg (suc (prec f)) q k (low f)
    go false = inf_neg

round_neg : (f : Format) (n d : ℕ) → round f true n d ≡ neg (round f false n d)
round_neg f n d =
    round_is f true n d ∙ units_neg f (kept (prec f) (n * 2 ^ low f) d) (drop (prec f) (n * 2 ^ low f) d) ∙ ap neg (sym (round_is f false n d))

narrow_neg : (f : Format) (x : Float) → narrow_to f (neg x) ≡ neg (narrow_to f x)
unfolding narrow_to neg
narrow_neg f nan = refl
narrow_neg f (inf s) = refl
narrow_neg f (fin false m e) = round_neg f (m * up e) (down e)
narrow_neg f (fin true m e) = sym (ap neg (round_neg f (m * up e) (down e)) ∙ neg_neg (round f false (m * up e) (down e)))

fields_neg : (f : Format) (x t : ℕ) → of_fields f true x t ≡ neg (of_fields f false x t)
unfolding of_fields
fields_neg f zero t = odd_neg (prec f) t 0 (low f)
fields_neg f (suc x) t = go (eqb (suc x) (ones f)) (eqb t 0)
  where
    go : (a b : Bool) → cond a (cond b (inf true) nan) (odd (prec f) true (hid f + t) x (low f)) ≡ neg (cond a (cond b (inf false) nan) (odd (prec f) false (hid f + t) x (low f)))
    go true true = inf_neg
    go true false = nan_neg
    go false b = odd_neg (prec f) (hid f + t) x (low f)

of_bits_is : (f : Format) (b : ℕ) → of_bits f b ≡ of_fields f (leb (top f) b) (b % top f / hid f) (b % hid f)
unfolding of_bits
of_bits_is f b = refl

-- the sign's bit, put on a pattern without it
pub signed_bits : (f : Format) (m : ℕ) → m < top f → of_bits f (top f + m) ≡ neg (of_bits f m)
signed_bits f m h =
    of_bits_is f (top f + m)
    ∙ ap (λ (s : Bool). of_fields f s ((top f + m) % top f / hid f) ((top f + m) % hid f)) (is_true (leb (top f) (top f + m)) (le→leb (top f) (top f + m) (le-add_right (top f) m)))
    ∙ ap (λ (x : ℕ). of_fields f true (x / hid f) ((top f + m) % hid f)) (rest f m h)
    ∙ ap (λ (x : ℕ). of_fields f true (m / hid f) x) (low_part f m)
    ∙ fields_neg f (m / hid f) (m % hid f)
    ∙ ap neg (sym (unsigned f m h))
  where
    rest : (f : Format) (m : ℕ) → m < top f → (top f + m) % top f ≡ m
    rest binary32 m h = omega arith
    rest binary64 m h = omega arith

    low_part : (f : Format) (m : ℕ) → (top f + m) % hid f ≡ m % hid f
    low_part binary32 m = omega arith
    low_part binary64 m = omega arith

pattern_neg : (b : ℕ) → 9223372036854775808 ≤ b → b < 18446744073709551616 → of_bits binary64 b ≡ neg (of_bits binary64 (b % 9223372036854775808))
pattern_neg b h k = ap (of_bits binary64) (parts b h k) ∙ signed_bits binary64 (b % 9223372036854775808) (mod-lt b (lit< tt))
  where
    parts : (b : ℕ) → 9223372036854775808 ≤ b → b < 18446744073709551616 → b ≡ 9223372036854775808 + b % 9223372036854775808
    parts b h k = omega arith

module _ (x : Float) (F : T (fits binary64 x)) (r : ℕ) (h : narrow_to binary32 (of_bits binary64 (to_bits binary64 x % 9223372036854775808)) ≡ of_bits binary32 r) where
  pub narrow_plus : to_bits binary64 x < 9223372036854775808 → of_bits binary32 r ≡ narrow_to binary32 x
  narrow_plus l = sym h ∙ ap (λ (b : ℕ). narrow_to binary32 (of_bits binary64 b)) (mod-eq_of_lt l) ∙ ap (narrow_to binary32) (of_bits-to_bits binary64 x F)

  pub narrow_minus : 9223372036854775808 ≤ to_bits binary64 x → neg (of_bits binary32 r) ≡ narrow_to binary32 x
  narrow_minus l =
      ap neg (sym h)
      ∙ sym (narrow_neg binary32 (of_bits binary64 (to_bits binary64 x % 9223372036854775808)))
      ∙ ap (narrow_to binary32) (sym (pattern_neg (to_bits binary64 x) l (to_bits-lt binary64 x F)) ∙ of_bits-to_bits binary64 x F)

pub no_nan_pattern : (x : Float) → T (fits binary64 x) → T (not (is_nan x)) → to_bits binary64 x % 9223372036854775808 ≤ 9218868437227405312
no_nan_pattern x F n =
    nltb→le 9218868437227405312 (to_bits binary64 x % 9223372036854775808)
    (subst (λ (b : Bool). T (not b)) (nan_bits_above binary64 (to_bits binary64 x))
    (subst (λ (b : Bool). T (not b)) (sym (nan_bits_is binary64 (to_bits binary64 x)))
    (subst (λ (y : Float). T (not (is_nan y))) (sym (of_bits-to_bits binary64 x F)) n)))

pub nan_same : (x : Float) → eq x x ≡ false → div binary32 (fin false 0 (pos 0)) (fin false 0 (pos 0)) ≡ narrow_to binary32 x
unfolding eq div narrow_to
nan_same nan h = refl
nan_same (inf true) h = absurd (true≢false h)
nan_same (inf false) h = absurd (true≢false h)
nan_same (fin s m e) h = absurd (both s (m * up e * down e) h)
  where
    both : (s : Bool) (n : ℕ) → (eqb n n && (beq s s || eqb n 0)) ≡ false → ⊥
    both s n h = go (eqb n n) (eqb_refl n) s h
      where
        go : (b : Bool) → T b → (s : Bool) → (b && (beq s s || eqb n 0)) ≡ false → ⊥
        go true t true h = true≢false h
        go true t false h = true≢false h
        go false t s h = t

-- the sign's place, from the pattern b of x
module _ (x : Float) (F : T (fits binary64 x)) (m : ℕ) (h : narrow_to binary32 (of_bits binary64 (to_bits binary64 x % 9223372036854775808)) ≡ of_bits binary32 m) (small : m ≤ 2139095040) where
  pub one_sign : to_bits binary64 x / 9223372036854775808 ≤ 1
  one_sign = go (to_bits binary64 x) (to_bits-lt binary64 x F)
    where
      go : (b : ℕ) → b < 18446744073709551616 → b / 9223372036854775808 ≤ 1
      go b h = omega arith

  pub with_sign : of_bits binary32 (to_bits binary64 x / 9223372036854775808 * 2147483648 + m) ≡ narrow_to binary32 x
  with_sign = go (ltb (to_bits binary64 x) 9223372036854775808) (ltb→lt (to_bits binary64 x) 9223372036854775808) (nltb→le (to_bits binary64 x) 9223372036854775808)
    where
      none : (b m : ℕ) → b < 9223372036854775808 → b / 9223372036854775808 * 2147483648 + m ≡ m
      none b m h = omega arith

      one : (b m : ℕ) → 9223372036854775808 ≤ b → b < 18446744073709551616 → b / 9223372036854775808 * 2147483648 + m ≡ 2147483648 + m
      one b m h k = omega arith

      go : (t : Bool) → (T t → to_bits binary64 x < 9223372036854775808) → (T (not t) → 9223372036854775808 ≤ to_bits binary64 x) → of_bits binary32 (to_bits binary64 x / 9223372036854775808 * 2147483648 + m) ≡ narrow_to binary32 x
      go true y n = ap (of_bits binary32) (none (to_bits binary64 x) m (y tt)) ∙ narrow_plus x F m h (y tt)
      go false y n = ap (of_bits binary32) (one (to_bits binary64 x) m (n tt) (to_bits-lt binary64 x F)) ∙ signed_bits binary32 m (lt_of_le_of_lt small (lit< tt)) ∙ narrow_minus x F m h (n tt)

pub signed_ok : (s m : ℕ) → s ≤ 1 → m ≤ 2139095040 → T (not (nan_bits binary32 (s * 2147483648 + m)))
signed_ok s m a b =
    subst (λ (t : Bool). T (not t)) (sym (nan_bits_above binary32 (s * 2147483648 + m)))
    (not_T (ltb 2139095040 ((s * 2147483648 + m) % 2147483648)) (λ t. go s m a b (ltb→lt 2139095040 ((s * 2147483648 + m) % 2147483648) t)))
  where
    go : (s m : ℕ) → s ≤ 1 → m ≤ 2139095040 → 2139095040 < (s * 2147483648 + m) % 2147483648 → ⊥
    go s m a b h = omega arith

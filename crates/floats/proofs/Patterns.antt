-- The number of a finite pattern without a sign, and the pattern of a value with all digits in use, over the format. Assumes nothing.
use Rattle.std.proofs.Common.{◌≡◌, ℕ, suc, ◌+◌, ◌-◌, ◌*◌, ◌/◌, ◌%◌, ◌^◌, ◌<◌, ◌≤◌, Bool, true, false, not, T, ltb, sym, ap, ◌∙◌, subst, true≢false, le_trans, le_of_eq, lt_of_le_of_lt, mul-le-mul_right, mod-eq_of_lt, not-le_of_lt, arith, ltb→lt, pow-add, ne_eqb, cond, ⊎_elim, le_refl, eq-or-lt_of_le, pow-suc, pow_pos, mul-one, zero-add, mul-div_cancel, lit<, lt→ltb, shl_lt}
use borrow.Author.Tests.{lt-leb}
use lib.Dec.{not_T}
use lib.Pow.{pow-lt, shl-shr}
use lib.Ieee.{Float, nan, inf, fin, Format, binary32, binary64, prec, hid, ones, top, low, up, down, of_bits, of_fields, nan_bits, size, odd, units, to_bits, fits, is_nan}
use lib.Ieee.Bits.{nan_bits_above, of_bits-to_bits, of_bits-fits, to_bits-of_bits}
use lib.Ieee.Back.{whole_unique}
use lib.Ieee.Exact.{HasValue, odd_sign, units_val}
use lib.Ieee.Fits.{down_pos, two, two-le_pos, odd-fits}
use lib.Ieee.Digits.{size-le}
use lib.Ieee.Scale.{overflow}
use Rattle.floats.proofs.Fractions.{revalue, size_gt, size_at}

-- a pattern up to the infinity's is no NaN's
pub pattern_ok : (f : Format) (n : ℕ) → n < top f → n ≤ ones f * hid f → T (not (nan_bits f n))
pattern_ok f n h k =
    subst (λ (b : Bool). T (not b)) (sym (nan_bits_above f n))
    (subst (λ (x : ℕ). T (not (ltb (ones f * hid f) x))) (sym (mod-eq_of_lt h)) (not_T (ltb (ones f * hid f) n) (λ t. not-le_of_lt (ltb→lt (ones f * hid f) n t) k)))

-- ---- what a pattern stands for
module _ (f : Format) (b : ℕ) (h : b < top f) where
  pub unsigned : of_bits f b ≡ of_fields f false (b / hid f) (b % hid f)
  unfolding of_bits
  unsigned = rw (lt-leb (top f) b h, mod-eq_of_lt h)

  pub value_low : b / hid f ≡ 0 → HasValue (of_bits f b) false (b % hid f * 2 ^ 0) (2 ^ low f)
  unfolding of_fields
  value_low e = rw (unsigned, e) (odd_sign (prec f) false (b % hid f) 0 (low f))

  pub value_high : (x : ℕ) → b / hid f ≡ suc x → (suc x ≡ ones f → ⊥) → HasValue (of_bits f b) false ((hid f + b % hid f) * 2 ^ x) (2 ^ low f)
  unfolding of_fields
  value_high x e n = rw (unsigned, e, ne_eqb (suc x) (ones f) n) (odd_sign (prec f) false (hid f + b % hid f) x (low f))

-- ---- a value that is q * 2 ^ k of the format's smallest values, with all digits in use: its pattern
pub bits_value : (f : Format) (v : Float) (q k : ℕ) → HasValue v false (q * 2 ^ k) (2 ^ low f) → 2 ^ (prec f - 1) ≤ q → q < 2 ^ prec f → to_bits f v ≡ k * hid f + q
unfolding to_bits
bits_value f nan q k h lo hi = absurd h
bits_value f (inf s) q k h lo hi = absurd h
bits_value f (fin true m e) q k h lo hi = absurd (true≢false h.0)
bits_value f (fin false m e) q k h lo hi =
    let p = prec f in
    let n_is : m * up e * 2 ^ low f / down e ≡ q * 2 ^ k = ap (λ (x : ℕ). x / down e) h.1 ∙ mul-div_cancel (q * 2 ^ k) (down_pos e) in
    let kk : size (q * 2 ^ k) - p ≡ k =
    size_at p k (size (q * 2 ^ k)) (two-le_pos p (two f)) (size_gt (q * 2 ^ k) (p - 1 + k) (le_trans (le_of_eq (pow-add 2 (p - 1) k)) (mul-le-mul_right (2 ^ k) lo)))
    (size-le (q * 2 ^ k) (p + k) (shl_lt p k hi)) in
    ap (λ (n : ℕ). 0 + (size n - p) * hid f + n / 2 ^ (size n - p)) n_is
    ∙ ap (λ (x : ℕ). 0 + x * hid f + q * 2 ^ k / 2 ^ x) kk
    ∙ ap (λ (x : ℕ). 0 + k * hid f + x) (shl-shr q k)
    ∙ ap (λ (x : ℕ). x + q) (zero-add (k * hid f))

pub units_fits : (f : Format) (q k : ℕ) → q ≤ 2 ^ prec f → q * 2 ^ k < overflow f → T (fits f (units f false q k))
unfolding units
units_fits f q k hi o = go (ltb (q * 2 ^ k) (overflow f)) (lt→ltb (q * 2 ^ k) (overflow f) o)
  where
    suc_lt : (p : ℕ) → p < suc p
    suc_lt p = omega arith

    go : (b : Bool) → T b → T (fits f (cond b (odd (suc (prec f)) false q k (low f)) (inf false)))
    go true t = odd-fits f (suc (prec f)) false q k (lt_of_le_of_lt hi (pow-lt (suc_lt (prec f)))) hi o
    go false t = absurd t

-- all digits 1, rounded up: one digit more, whose value has half as many units of twice the size
top_value : (f : Format) (k : ℕ) → 2 ^ prec f * 2 ^ k ≡ 2 ^ (prec f - 1) * 2 ^ suc k
top_value binary32 k = omega (arith, pow-suc 2 k)
top_value binary64 k = omega (arith, pow-suc 2 k)

top_pattern : (f : Format) (k : ℕ) → suc k * hid f + 2 ^ (prec f - 1) ≡ k * hid f + 2 ^ prec f
top_pattern binary32 k = omega arith
top_pattern binary64 k = omega arith

half_less : (f : Format) → 2 ^ (prec f - 1) < 2 ^ prec f
half_less binary32 = lit< tt
half_less binary64 = lit< tt

bits_upto : (f : Format) (v : Float) (q k : ℕ) → HasValue v false (q * 2 ^ k) (2 ^ low f) → 2 ^ (prec f - 1) ≤ q → q ≤ 2 ^ prec f → to_bits f v ≡ k * hid f + q
bits_upto f v q k h lo hi = ⊎_elim
    (λ e.
    rw e (bits_value f v (2 ^ (prec f - 1)) (suc k) (subst (λ (x : ℕ). HasValue v false x (2 ^ low f)) (ap (λ (x : ℕ). x * 2 ^ k) e ∙ top_value f k) h) (le_refl (2 ^ (prec f - 1))) (half_less f) ∙ top_pattern f k))
    (λ l. bits_value f v q k h lo l)
    (eq-or-lt_of_le hi)

-- q * 2 ^ k units, by their pattern; where q is 2 ^ prec the pattern carries by itself
pub units_bits : (f : Format) (q k : ℕ) → 2 ^ (prec f - 1) ≤ q → q ≤ 2 ^ prec f → q * 2 ^ k < overflow f → units f false q k ≡ of_bits f (k * hid f + q)
units_bits f q k lo hi o =
    let v = units f false q k in
    sym (of_bits-to_bits f v (units_fits f q k hi o)) ∙ ap (of_bits f) (bits_upto f v q k (units_val f false q k o) lo hi)

-- ---- a whole number from 2 ^ (prec - 1) on, where a format holds whole numbers only: its pattern counts up from here
abbrev pub first_whole : Format → ℕ
first_whole f = (low f + 1) * hid f

pub whole_value : (f : Format) (k : ℕ) → k < hid f → HasValue (of_bits f (first_whole f + k)) false (hid f + k) 1
whole_value f k h = subst (λ (r : ℕ). HasValue (of_bits f (first_whole f + k)) false (hid f + r) 1) (fraction f k h) (revalue _ false ((hid f + (first_whole f + k) % hid f) * 2 ^ low f) (2 ^ low f) (hid f + (first_whole f + k) % hid f) 1 (pow_pos (low f)) (sym (mul-one _)) (value_high f (first_whole f + k) (under f k h) (low f) (exponent f k h) (finite f)))
  where
    fraction : (f : Format) (k : ℕ) → k < hid f → (first_whole f + k) % hid f ≡ k
    fraction binary32 k h = omega arith
    fraction binary64 k h = omega arith

    exponent : (f : Format) (k : ℕ) → k < hid f → (first_whole f + k) / hid f ≡ suc (low f)
    exponent binary32 k h = omega arith
    exponent binary64 k h = omega arith

    under : (f : Format) (k : ℕ) → k < hid f → first_whole f + k < top f
    under binary32 k h = omega arith
    under binary64 k h = omega arith

    finite : (f : Format) → suc (low f) ≡ ones f → ⊥
    finite binary32 e = omega arith
    finite binary64 e = omega arith

pub valued : (x : Float) (s : Bool) (a c : ℕ) → HasValue x s a c → T (not (is_nan x))
unfolding is_nan
valued nan s a c h = absurd h
valued (inf t) s a c h = absurd h
valued (fin t m e) s a c h = tt

pub whole_bits : (f : Format) (x : Float) (k : ℕ) → T (fits f x) → k < hid f → HasValue x false (hid f + k) 1 → to_bits f x ≡ first_whole f + k
whole_bits f x k F h v =
    let b = first_whole f + k in
    ap (to_bits f) (whole_unique f x (of_bits f b) false (hid f + k) F (of_bits-fits f b) v (whole_value f k h))
    ∙ to_bits-of_bits f b (small f k h) (valued (of_bits f b) false (hid f + k) 1 (whole_value f k h))
  where
    small : (f : Format) (k : ℕ) → k < hid f → first_whole f + k < 2 * top f
    small binary32 k h = omega arith
    small binary64 k h = omega arith

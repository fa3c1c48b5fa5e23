-- A clamped value plus 2 ^ 23 has the nearest whole number in its pattern's low digits, and the cut is that number or one less. Assumes nothing.
use Rattle.std.proofs.Common.{◌≡◌, ℕ, suc, ◌+◌, ◌-◌, ◌*◌, ◌/◌, ◌<◌, ◌≤◌, min, true, false, not, T, pos, sym, refl, ◌∙◌, subst, zero-lt-suc, div-lt_iff_lt-mul, le-div_iff_mul-le, mul-one, arith, lit<, le→leb, ltb→lt, leb→le, nltb→le}
use native.Mathlib.Nat.{div-eq_of_lt, min-eq_left, min-eq_right}
use lib.Ieee.{Float, nan, inf, fin, binary32, up, down, lt, fits, is_nan, of_bits, to_bits, to_unsigned}
use lib.Ieee.Fits.{down_pos, add-fits}
use lib.Ieee.Positive.{num, den, den_pos}
use Rattle.floats.specs.Inner.Steps.{up_to, clamped}
use Rattle.floats.proofs.Fractions.{nought, lt_yes, lt_no}
use Rattle.floats.proofs.Clamps.{by_clamp}
use Rattle.floats.proofs.Patterns.{valued, whole_bits}
use Rattle.floats.proofs.NearestWhole as whole
use Rattle.floats.proofs.NearestWhole.{bounded_value, whole_from}

-- the literal 255.0
abbrev pub top : Float
top = fin false 255 (pos 0)

-- r is in a byte's range, and is cut to the byte that x is cut to
pub record Clamped (x r : Float) : Type 0 where
  pub inside : T (up_to 255 r)
  pub same : to_unsigned 8 r ≡ to_unsigned 8 x

-- ---- the clamp
below : (n d : ℕ) → n * 1 < 255 * 1 * d → n ≤ 255 * d
below n d h = omega arith

pub clamp_mid : (x : Float) → T (lt nought x) → T (lt x top) → Clamped x x
unfolding lt
clamp_mid nan a b = absurd a
clamp_mid (inf true) a b = absurd a
clamp_mid (inf false) a b = absurd b
clamp_mid (fin true m e) a b = absurd a
clamp_mid (fin false m e) a b = record { inside = le→leb (m * up e) (255 * down e) (below (m * up e) (down e) (ltb→lt (m * up e * 1) (255 * 1 * down e) b)); same = refl }

over : (n d : ℕ) → 255 * 1 * d ≤ n * 1 → 255 * d ≤ n
over n d h = omega arith

clamp_top : (x : Float) → T (lt nought x) → T (not (lt x top)) → Clamped x top
unfolding lt to_unsigned
clamp_top nan a b = absurd a
clamp_top (inf true) a b = absurd a
clamp_top (inf false) a b = record { inside = tt; same = refl }
clamp_top (fin true m e) a b = absurd a
clamp_top (fin false m e) a b = record {
  inside = tt;
  same = sym (min-eq_right ((le-div_iff_mul-le (down_pos e)).1 (over (m * up e) (down e) (nltb→le (m * up e * 1) (255 * 1 * down e) b))));
}

nothing : (n d : ℕ) → 0 < d → n * 1 ≤ 0 * 1 * d → n < d
nothing n d h k = omega arith

least : (a : ℕ) → a ≡ 0 → min a 255 ≡ 0
least a h = omega arith

clamp_low : (x : Float) → T (not (lt nought x)) → Clamped x nought
unfolding lt to_unsigned
clamp_low nan a = record { inside = tt; same = refl }
clamp_low (inf true) a = record { inside = tt; same = refl }
clamp_low (inf false) a = absurd a
clamp_low (fin true m e) a = record { inside = tt; same = refl }
clamp_low (fin false m e) a = record {
  inside = tt;
  same = sym (least (m * up e / down e) (div-eq_of_lt (nothing (m * up e) (down e) (down_pos e) (nltb→le (0 * 1 * down e) (m * up e * 1) a))));
}

pub clamp_byte : (x : Float) → Clamped x (clamped x (of_bits binary32 0x437f_0000))
unfolding of_bits
clamp_byte x = by_clamp (Clamped x) x top (clamp_mid x) (clamp_top x) (clamp_low x)

under : (n d : ℕ) → 0 < d → n ≤ 255 * d → n < 256 * d
under n d D h = omega arith

low : (q : ℕ) → q < 256 → q ≤ 255
low q h = omega arith

byte_cut : (z : Float) → T (up_to 255 z) → to_unsigned 8 z ≡ num z / den z
unfolding to_unsigned
byte_cut nan h = absurd h
byte_cut (inf s) h = absurd h
byte_cut (fin true m e) h = absurd h
byte_cut (fin false m e) h = min-eq_left (low (m * up e / down e) ((div-lt_iff_lt-mul (down_pos e)).1 (under (m * up e) (down e) (down_pos e) (leb→le (m * up e) (255 * down e) h))))

-- ---- the steps of `to_byte`, at a clamped z
module _ (z : Float) (h : T (up_to 255 z)) where
  abbrev k : ℕ
  k = whole.k binary32 255 (lit< tt) z h

  abbrev q : ℕ
  q = whole.q binary32 255 (lit< tt) z h

  abbrev raised : Float
  raised = whole.raised binary32 255 (lit< tt) z h

  abbrev lowered : Float
  lowered = whole.lowered binary32 255 (lit< tt) z h

  raised_fits : T (fits binary32 raised)
  raised_fits = add-fits binary32 z (whole_from binary32)

  few : k < 8388608
  few = go k (whole.k_most binary32 255 (lit< tt) z h)
    where
      go : (k : ℕ) → k ≤ 256 → k < 8388608
      go k h = omega arith

  raised_bits : to_bits binary32 raised ≡ 1258291200 + k
  raised_bits = whole_bits binary32 raised k raised_fits few (whole.raised_value binary32 255 (lit< tt) z h)

  pub no_nan : T (not (is_nan raised))
  no_nan = valued raised false (8388608 + k) 1 (whole.raised_value binary32 255 (lit< tt) z h)

  pub pattern_least : 1258291200 ≤ to_bits binary32 raised
  pattern_least = go (to_bits binary32 raised) k raised_bits
    where
      go : (b k : ℕ) → b ≡ 1258291200 + k → 1258291200 ≤ b
      go b k h = omega arith

  abbrev n : ℕ
  n = to_bits binary32 raised - 1258291200

  n_is : n ≡ k
  n_is = go (to_bits binary32 raised) k raised_bits
    where
      go : (b k : ℕ) → b ≡ 1258291200 + k → b - 1258291200 ≡ k
      go b k h = omega arith

  went_up : T (lt z lowered) → n ≡ suc q
  went_up l = n_is ∙ go k q (whole.k_hi binary32 255 (lit< tt) z h) ((div-lt_iff_lt-mul (den_pos z)).1 (subst (λ (x : ℕ). x < k * den z) (mul-one (num z)) (lt_yes z lowered (num z) (den z) k 1 (den_pos z) (zero-lt-suc 0) (bounded_value 255 z h).0 (whole.lowered_value binary32 255 (lit< tt) z h) l)))
    where
      go : (k q : ℕ) → k ≤ suc q → q < k → k ≡ suc q
      go k q a l = omega arith

  stayed : T (not (lt z lowered)) → n ≡ q
  stayed l = n_is ∙ go k q (whole.k_lo binary32 255 (lit< tt) z h) ((le-div_iff_mul-le (den_pos z)).1 (subst (λ (x : ℕ). k * den z ≤ x) (mul-one (num z)) (lt_no z lowered (num z) (den z) k 1 (bounded_value 255 z h).0 (whole.lowered_value binary32 255 (lit< tt) z h) l)))
    where
      go : (k q : ℕ) → q ≤ k → k ≤ q → k ≡ q
      go k q a l = omega arith

  cut : to_unsigned 8 z ≡ q
  cut = byte_cut z h

  pub one_at_least : T (lt z lowered) → 1 ≤ n
  one_at_least l = go n q (went_up l)
    where
      go : (n q : ℕ) → n ≡ suc q → 1 ≤ n
      go n q h = omega arith

  pub one_less : T (lt z lowered) → n - 1 ≡ to_unsigned 8 z
  one_less l = go n q (went_up l) ∙ sym cut
    where
      go : (n q : ℕ) → n ≡ suc q → n - 1 ≡ q
      go n q h = omega arith

  pub as_it_is : T (not (lt z lowered)) → n ≡ to_unsigned 8 z
  as_it_is l = stayed l ∙ sym cut

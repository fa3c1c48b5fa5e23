-- The absolute value has the pattern without the sign's bit. Assumes nothing.
use Rattle.std.proofs.Common.{◌≡◌, ℕ, zero, suc, ◌+◌, ◌/◌, ◌%◌, ◌<◌, ◌≤◌, Bool, true, false, cond, not, T, eqb, ltb, sym, refl, ap, ◌∙◌, subst, mod-lt, mod-eq_of_lt, arith, lit<, ltb→lt, nltb→le}
use lib.Ieee.{Float, nan, inf, fin, Format, binary64, prec, low, hid, ones, top, odd, of_fields, of_bits, to_bits, is_nan, nan_bits, fits, eq, ne, neg}
use lib.Ieee.Bits.{of_bits-to_bits, to_bits-lt, nan_bits_is, nan_bits_above}
use lib.Ieee.Compare.{differs_from_itself}
use Rattle.floats.specs.Absolute.{absolute}
use Rattle.floats.proofs.Patterns.{unsigned}
use Rattle.floats.proofs.NarrowedSign.{signed_bits}

-- ---- a value without a sign is its own absolute value, and the sign is cleared
odd_plain : (d q k l : ℕ) → absolute (odd d false q k l) ≡ odd d false q k l
unfolding odd absolute
odd_plain d zero k l = refl
odd_plain d (suc q) k l = refl

fields_plain : (f : Format) (x t : ℕ) → absolute (of_fields f false x t) ≡ of_fields f false x t
unfolding of_fields absolute
fields_plain f zero t = odd_plain (prec f) t 0 (low f)
fields_plain f (suc x) t = go (eqb (suc x) (ones f)) (eqb t 0)
  where
    go : (a b : Bool) → absolute (cond a (cond b (inf false) nan) (odd (prec f) false (hid f + t) x (low f))) ≡ cond a (cond b (inf false) nan) (odd (prec f) false (hid f + t) x (low f))
    go true true = refl
    go true false = refl
    go false b = odd_plain (prec f) (hid f + t) x (low f)

plain_bits : (f : Format) (b : ℕ) → b < top f → absolute (of_bits f b) ≡ of_bits f b
plain_bits f b h = ap absolute (unsigned f b h) ∙ fields_plain f (b / hid f) (b % hid f) ∙ sym (unsigned f b h)

cleared : (x : Float) → absolute (neg x) ≡ absolute x
unfolding absolute neg
cleared nan = refl
cleared (inf s) = refl
cleared (fin s m e) = refl

-- ---- the pattern of x without its sign's bit
module _ (x : Float) (F : T (fits binary64 x)) where
  b : ℕ
  b = to_bits binary64 x

  low_is : b < top binary64 → of_bits binary64 (b % top binary64) ≡ absolute x
  unfolding b
  low_is h = ap (of_bits binary64) (mod-eq_of_lt h) ∙ sym (plain_bits binary64 (to_bits binary64 x) h) ∙ ap absolute (of_bits-to_bits binary64 x F)

  high_is : top binary64 ≤ b → of_bits binary64 (b % top binary64) ≡ absolute x
  unfolding b
  high_is h =
      let n = to_bits binary64 x % 9223372036854775808 in
      let small : n < 9223372036854775808 = mod-lt (to_bits binary64 x) (lit< tt) in
      sym (plain_bits binary64 n small)
      ∙ sym (cleared (of_bits binary64 n))
      ∙ ap absolute (sym (signed_bits binary64 n small) ∙ ap (of_bits binary64) (parts (to_bits binary64 x) h (to_bits-lt binary64 x F)) ∙ of_bits-to_bits binary64 x F)
    where
      parts : (b : ℕ) → 9223372036854775808 ≤ b → b < 18446744073709551616 → 9223372036854775808 + b % 9223372036854775808 ≡ b
      parts b h l = omega arith

  pub without_sign : of_bits binary64 (to_bits binary64 x % 9223372036854775808) ≡ absolute x
  unfolding b
  without_sign = go (ltb (to_bits binary64 x) 9223372036854775808) (ltb→lt (to_bits binary64 x) 9223372036854775808) (nltb→le (to_bits binary64 x) 9223372036854775808)
    where
      go : (t : Bool) → (T t → to_bits binary64 x < 9223372036854775808) → (T (not t) → 9223372036854775808 ≤ to_bits binary64 x) → of_bits binary64 (to_bits binary64 x % 9223372036854775808) ≡ absolute x
      go true y n = low_is (y tt)
      go false y n = high_is (n tt)

  pub still_a_number : T (not (is_nan x)) → T (not (nan_bits binary64 (to_bits binary64 x % 9223372036854775808)))
  still_a_number h =
      let n = to_bits binary64 x % 9223372036854775808 in
      let same : nan_bits binary64 n ≡ is_nan x =
      nan_bits_above binary64 n
      ∙ ap (ltb 9218868437227405312) (mod-eq_of_lt (mod-lt (to_bits binary64 x) (lit< tt)))
      ∙ sym (nan_bits_above binary64 (to_bits binary64 x))
      ∙ nan_bits_is binary64 (to_bits binary64 x)
      ∙ ap is_nan (of_bits-to_bits binary64 x F) in
      subst (λ (t : Bool). T (not t)) (sym same) h

pub no_number : (x : Float) → T (not (eq x x)) → x ≡ absolute x
unfolding absolute ne
no_number x h = go x (differs_from_itself x h)
  where
    go : (x : Float) → x ≡ nan → x ≡ absolute x
    go x e = e ∙ ap absolute (sym e)

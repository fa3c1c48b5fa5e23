-- The clamp to 0..1 leads to the byte that resvg's bound leads to, and 255 times a value of 0..1 is rounded into 0..255, since rounding keeps the order. Assumes nothing.
use Rattle.std.proofs.Common.{◌≡◌, ℕ, suc, ◌+◌, ◌*◌, ◌^◌, ◌<◌, ◌≤◌, Bool, true, false, cond, not, T, ltb, ℤ, pos, sym, refl, ap, ◌∙◌, subst, zero-lt-suc, mul-pos, zero-mul, mul-one, mul_right_comm, arith, le→leb, ltb→lt, leb→le, nltb→le}
use lib.Ieee.{Float, nan, inf, fin, Format, binary32, prec, low, up, down, unlike, odd, units, round, mul, lt, le, of_bits, to_unsigned}
use lib.Ieee.Fits.{down_pos, round_is}
use lib.Ieee.Order.{drop, kept, round_mono}
use lib.Ieee.Scale.{round_same, grid, overflow, round_val}
use Rattle.floats.proofs.Away.{le_cross}
use Rattle.floats.specs.Channel.{from_normalized}
use Rattle.floats.specs.Inner.Steps.{plain, up_to, clamped}
use Rattle.floats.specs.Constants.{c255}
use Rattle.floats.proofs.Tests.{is_false}
use Rattle.floats.proofs.Fractions.{nought, lt_asym}
use Rattle.floats.proofs.Magnitudes.{zero_size, zero_neg}
use Rattle.floats.proofs.Squares.{plain_of}
use Rattle.floats.proofs.CutToByte.{top}
use Rattle.floats.proofs.Clamps.{by_clamp}

-- the literal 1.0
abbrev one : Float
one = fin false 1 (pos 0)

-- r is from 0 to 1, and 255 times r is cut to the byte of c
pub record ClampedUnit (c r : Float) : Type 0 where
  pub inside : T (up_to 1 r)
  pub same : to_unsigned 8 (mul binary32 r c255) ≡ from_normalized c

-- the byte of 255 times x
abbrev byte_of : Float → ℕ
byte_of x = to_unsigned 8 (mul binary32 x top)

-- ---- the clamp
from_bound : (c : Float) → from_normalized c ≡ byte_of (cond (lt one c) one (cond (lt c nought) nought c))
unfolding from_normalized of_bits
from_bound c = refl

scaled : (s : Bool) (m : ℕ) (e : ℤ) → mul binary32 (fin s m e) top ≡ round binary32 (unlike s false) (m * up e * (255 * 1)) (down e * 1)
unfolding mul
scaled s m e = refl

-- a finite value's byte is that of the whole number that it equals
byte_same : (s : Bool) (m : ℕ) (e : ℤ) (k : ℕ) → m * up e ≡ k * down e → byte_of (fin s m e) ≡ byte_of (fin s k (pos 0))
byte_same s m e k h =
    ap (to_unsigned 8)
    (scaled s m e
    ∙ round_same binary32 (unlike s false) (m * up e * (255 * 1)) (down e * 1) (k * 1 * (255 * 1)) (1 * 1) (mul-pos (down_pos e) (zero-lt-suc 0)) (zero-lt-suc 0) (crossed (m * up e) (down e) (k * down e) h (regroup k (down e)))
    ∙ sym (scaled s k (pos 0)))
  where
    crossed : (n d x : ℕ) → n ≡ x → k * 1 * (255 * 1) * (d * 1) ≡ x * 255 → n * (255 * 1) * (1 * 1) ≡ k * 1 * (255 * 1) * (d * 1)
    crossed n d x h e = ap (λ (z : ℕ). z * 255 * 1) h ∙ mul-one (x * 255) ∙ sym e

    regroup : (k d : ℕ) → k * 1 * (255 * 1) * (d * 1) ≡ k * d * 255
    regroup k d = ap (λ (z : ℕ). z * 255 * (d * 1)) (mul-one k) ∙ ap (λ (z : ℕ). k * 255 * z) (mul-one d) ∙ mul_right_comm k 255 d

below_one : (c : Float) → T (lt nought c) → T (lt c one) → T (up_to 1 c)
unfolding lt
below_one nan a b = absurd a
below_one (inf true) a b = absurd a
below_one (inf false) a b = absurd b
below_one (fin true m e) a b = absurd a
below_one (fin false m e) a b = le→leb (m * up e) (1 * down e) (go (m * up e) (down e) (ltb→lt (m * up e * 1) (1 * 1 * down e) b))
  where
    go : (n d : ℕ) → n * 1 < 1 * 1 * d → n ≤ 1 * d
    go n d h = omega arith

at_one : (c : Float) → T (lt nought c) → T (not (lt c one)) → T (not (lt one c)) → byte_of c ≡ byte_of one
unfolding lt
at_one nan a b h = absurd a
at_one (inf true) a b h = absurd a
at_one (inf false) a b h = absurd h
at_one (fin true m e) a b h = absurd a
at_one (fin false m e) a b h = byte_same false m e 1 (go (m * up e) (down e) (nltb→le (m * up e * 1) (1 * 1 * down e) b) (nltb→le (1 * 1 * down e) (m * up e * 1) h))
  where
    go : (n d : ℕ) → 1 * 1 * d ≤ n * 1 → n * 1 ≤ 1 * 1 * d → n ≡ 1 * d
    go n d h k = omega arith

not_above : (c : Float) → T (not (lt nought c)) → lt one c ≡ false
unfolding lt
not_above nan a = refl
not_above (inf true) a = refl
not_above (inf false) a = absurd a
not_above (fin true m e) a = refl
not_above (fin false m e) a = sym (is_false (ltb (1 * 1 * down e) (m * up e * 1)) (λ t. go (m * up e) (down e) (nltb→le (0 * 1 * down e) (m * up e * 1) a) (ltb→lt (1 * 1 * down e) (m * up e * 1) t)))
  where
    go : (n d : ℕ) → n * 1 ≤ 0 * 1 * d → 1 * 1 * d < n * 1 → ⊥
    go n d h k = omega arith

at_zero : (c : Float) → T (not (lt nought c)) → T (not (lt c nought)) → byte_of c ≡ byte_of nought
unfolding lt mul to_unsigned
at_zero nan a h = refl
at_zero (inf true) a h = absurd h
at_zero (inf false) a h = absurd a
at_zero (fin true m e) a h = byte_same true m e 0 (zero_neg (m * up e) (down e) (nltb→le 0 (m * up e * 1 + 0 * 1 * down e) h) ∙ sym (zero-mul (down e)))
at_zero (fin false m e) a h = byte_same false m e 0 (zero_size (m * up e) (down e) (nltb→le (0 * 1 * down e) (m * up e * 1) a) ∙ sym (zero-mul (down e)))

clamp_mid : (c : Float) → T (lt nought c) → T (lt c one) → ClampedUnit c c
unfolding of_bits
clamp_mid c a b = record {
  inside = below_one c a b;
  same = sym (from_bound c ∙ ap (λ (p : Bool). byte_of (cond p one (cond (lt c nought) nought c))) (lt_asym c one b) ∙ ap (λ (q : Bool). byte_of (cond q nought c)) (lt_asym nought c a));
}

clamp_top : (c : Float) → T (lt nought c) → T (not (lt c one)) → ClampedUnit c one
unfolding of_bits
clamp_top c a b = record {
  inside = tt;
  same = sym (from_bound c ∙ ap (λ (q : Bool). byte_of (cond (lt one c) one (cond q nought c))) (lt_asym nought c a) ∙ go (lt one c) (at_one c a b));
}
  where
    go : (p : Bool) → (T (not p) → byte_of c ≡ byte_of one) → byte_of (cond p one c) ≡ byte_of one
    go true h = refl
    go false h = h tt

clamp_low : (c : Float) → T (not (lt nought c)) → ClampedUnit c nought
unfolding of_bits
clamp_low c a = record {
  inside = tt;
  same = sym (from_bound c ∙ ap (λ (p : Bool). byte_of (cond p one (cond (lt c nought) nought c))) (not_above c a) ∙ go (lt c nought) (at_zero c a));
}
  where
    go : (q : Bool) → (T (not q) → byte_of c ≡ byte_of nought) → byte_of (cond q nought c) ≡ byte_of nought
    go true h = refl
    go false h = h tt

pub clamp_unit : (c : Float) → ClampedUnit c (clamped c (of_bits binary32 0x3f80_0000))
unfolding of_bits
clamp_unit c = by_clamp (ClampedUnit c) c one (clamp_mid c) (clamp_top c) (clamp_low c)

-- ---- 255 times a value from 0 to 1
up_to_lem : (x : Float) → T (plain x) → T (le x top) → T (up_to 255 x)
unfolding le
up_to_lem nan p h = absurd p
up_to_lem (inf s) p h = absurd p
up_to_lem (fin true m e) p h = absurd p
up_to_lem (fin false m e) p h = le→leb (m * up e) (255 * down e) (go (m * up e) (down e) (le_cross (m * up e * 1) (255 * 1 * down e) true h))
  where
    go : (n d : ℕ) → n * 1 ≤ 255 * 1 * d → n ≤ 255 * d
    go n d h = omega arith

infinite_above : T (le (inf false) top) → ⊥
unfolding le
infinite_above t = t

units_under : (f : Format) (q k : ℕ) → T (le (units f false q k) top) → q * 2 ^ k < overflow f
unfolding units
units_under f q k = go (ltb (q * 2 ^ k) (overflow f)) (ltb→lt (q * 2 ^ k) (overflow f))
  where
    go : (b : Bool) → (T b → q * 2 ^ k < overflow f) → T (le (cond b (odd (suc (prec f)) false q k (low f)) (inf false)) top) → q * 2 ^ k < overflow f
    go true h t = h tt
    go false h t = absurd (infinite_above t)

-- a fraction that rounds to 255 at most
rounded_plain : (f : Format) (a c : ℕ) → T (le (round f false a c) top) → T (plain (round f false a c))
rounded_plain f a c h =
    plain_of (round f false a c) (grid f a c) (2 ^ low f)
    (round_val f a c (units_under f (kept (prec f) (a * 2 ^ low f) c) (drop (prec f) (a * 2 ^ low f) c) (subst (λ (z : Float). T (le z top)) (round_is f false a c) h)))

top_rounded : round binary32 false 255 1 ≡ top
unfolding round
top_rounded = refl

pub scaled_inside : (r : Float) → T (up_to 1 r) → T (up_to 255 (mul binary32 r top))
scaled_inside nan h = absurd h
scaled_inside (inf s) h = absurd h
scaled_inside (fin true m e) h = absurd h
scaled_inside (fin false m e) h =
    let a = m * up e * (255 * 1) in
    let c = down e * 1 in
    let most : T (le (round binary32 false a c) top) = subst (λ (z : Float). T (le (round binary32 false a c) z)) top_rounded (round_mono binary32 a c 255 1 (mul-pos (down_pos e) (zero-lt-suc 0)) (zero-lt-suc 0) (go (m * up e) (down e) (leb→le (m * up e) (1 * down e) h))) in
    subst (λ (z : Float). T (up_to 255 z)) (sym (scaled false m e)) (up_to_lem (round binary32 false a c) (rounded_plain binary32 a c most) most)
  where
    go : (n d : ℕ) → n ≤ 1 * d → n * (255 * 1) * 1 ≤ 255 * (d * 1)
    go n d h = omega arith

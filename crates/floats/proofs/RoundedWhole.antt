-- The whole number to which a rounded fraction is rounded, a half away from zero: it keeps the sign, and is within 3 / 4 of the fraction. Assumes nothing.
use Rattle.std.proofs.Common.{◌≡◌, ℕ, suc, ◌+◌, ◌-◌, ◌*◌, ◌%◌, ◌^◌, ◌<◌, ◌≤◌, min, Bool, true, false, cond, T, ℤ, pos, neg_ℤ, ap, ◌∙◌, mul-le-mul_right, mod-lt, lt_of_mul-lt-mul_right, mul-pos, div-add-mod', le_of_mul-le-mul_right, arith, lit≤, pow_pos}
use lib.Ieee.{Float, nan, inf, fin, Format, binary32, binary64, prec, low, up, down, round}
use lib.Ieee.Fits.{down_pos}
use lib.Ieee.Scale.{finite}
use Rattle.floats.specs.Round.{away, round_to}
use Rattle.floats.proofs.Away.{twice_pos}
use Rattle.floats.proofs.RoundingErrors.{Near, round_near}

away_half : (n d : ℕ) → 0 < d → (2 * (away n d * d) ≤ 2 * n + d) × (2 * n ≤ 2 * (away n d * d) + d)
away_half n d D = go (away n d) ((2 * n + d) % (2 * d)) (div-add-mod' (2 * n + d) (2 * d)) (mod-lt (2 * n + d) (twice_pos d D))
  where
    go : (q r : ℕ) → q * (2 * d) + r ≡ 2 * n + d → r < 2 * d → (2 * (q * d) ≤ 2 * n + d) × (2 * n ≤ 2 * (q * d) + d)
    go q r e h = (omega arith, omega arith)

-- the whole number of the size q, negative where s is true
abbrev pub signed : Bool → ℕ → ℤ
signed s q = cond s (neg_ℤ (pos q)) (pos q)

-- r is finite and rounds, inside the range of h bits and a sign, to a whole number with the sign s within 3 / 4 of a / c
pub record RoundsTo (h : ℕ) (s : Bool) (a c : ℕ) (r : Float) : Type 0 where
  pub number : T (finite r)
  pub q : ℕ
  pub is : round_to h r ≡ signed s q
  pub over : 4 * (q * c) ≤ 4 * a + 3 * c
  pub under : 4 * a ≤ 4 * (q * c) + 3 * c

pub rounds_to : (f : Format) (h : ℕ) (s : Bool) (a c b : ℕ) → 0 < c → a * 2 < 2 ^ prec f * c → a ≤ b * c → b < 2 ^ h → RoundsTo h s a c (round f s a c)
unfolding round_to
rounds_to f h s a c b C k most top = go (round f s a c) (round_near f 1 s a c C (one f) k)
  where
    one : (f : Format) → 1 ≤ low f
    one binary32 = lit≤ tt
    one binary64 = lit≤ tt

    hi : (z l x p q : ℕ) → 0 < l → 0 < p → x * l ≡ z * p → 2 * (z * c * 2) ≤ 2 * (a * l * 2) + c * l → 2 * (q * p) ≤ 2 * x + p → 4 * (q * c) ≤ 4 * a + 3 * c
    hi z l x p q L P e o k =
        let m : 2 * (q * p) * (c * l) ≤ (2 * x + p) * (c * l) = mul-le-mul_right (c * l) k in
        let n : 2 * (z * c * 2) * p ≤ (2 * (a * l * 2) + c * l) * p = mul-le-mul_right p o in
        let d : x * l * c ≡ z * p * c = ap (λ (v : ℕ). v * c) e in
        le_of_mul-le-mul_right {k = p * l} (omega arith) (mul-pos P L)

    lo : (z l x p q : ℕ) → 0 < l → 0 < p → x * l ≡ z * p → 2 * (a * l * 2) ≤ 2 * (z * c * 2) + c * l → 2 * x ≤ 2 * (q * p) + p → 4 * a ≤ 4 * (q * c) + 3 * c
    lo z l x p q L P e o k =
        let m : 2 * x * (c * l) ≤ (2 * (q * p) + p) * (c * l) = mul-le-mul_right (c * l) k in
        let n : 2 * (a * l * 2) * p ≤ (2 * (z * c * 2) + c * l) * p = mul-le-mul_right p o in
        let d : x * l * c ≡ z * p * c = ap (λ (v : ℕ). v * c) e in
        le_of_mul-le-mul_right {k = p * l} (omega arith) (mul-pos P L)

    inside : (q : ℕ) → 4 * (q * c) ≤ 4 * a + 3 * c → q < suc b
    inside q o = lt_of_mul-lt-mul_right c (omega arith)

    free : (t : Bool) (q w : ℕ) → t ≡ s → q < suc b → b < w → cond t (neg_ℤ (pos (min q w))) (pos (min q (w - 1))) ≡ signed s q
    free true q w e l v = let g : min q w ≡ q = omega arith in ap (λ (x : ℕ). neg_ℤ (pos x)) g ∙ ap (λ (u : Bool). signed u q) e
    free false q w e l v = let g : min q (w - 1) ≡ q = omega arith in ap pos g ∙ ap (λ (u : Bool). signed u q) e

    go : (r : Float) → Near f 1 s a c r → RoundsTo h s a c r
    go nan n = absurd n.value
    go (inf t) n = absurd n.value
    go (fin t m e) n =
        let x = m * up e in
        let q = away x (down e) in
        let half = away_half x (down e) (down_pos e) in
        let o = hi n.z (2 ^ low f) x (down e) q (pow_pos (low f)) (down_pos e) n.value.1 n.over half.0 in
        record {
          number = tt;
          q = q;
          is = free t q (2 ^ h) n.value.0 (inside q o) top;
          over = o;
          under = lo n.z (2 ^ low f) x (down e) q (pow_pos (low f)) (down_pos e) n.value.1 n.under half.1;
        }

-- What rounding costs, in any format: a fraction below 2 ^ (prec - i) is rounded by at most 2 ^ -(i + 1), whatever its sign. So a bound of two sizes goes through a product and a sum. Assumes
-- nothing.
use Rattle.std.proofs.Common.{◌≡◌, ℕ, ◌+◌, ◌-◌, ◌*◌, ◌/◌, ◌%◌, ◌^◌, ◌<◌, ◌≤◌, Bool, true, false, cond, ◌&&◌, ◌||◌, T, eqb, ltb, ℤ, sym, refl, ap, ◌∙◌, subst, le_trans, le_of_eq, lt_of_lt_of_le, lt_of_le_of_lt, le_of_lt, mul-le-mul_right, mul_assoc, mul_comm, div-lt_iff_lt-mul, mul-le-mul, lt_of_mul-lt-mul_right, mul-le-mul_left, mul-lt-mul_of_pos_right, mul-pos, mul_right_comm, le_of_mul-le-mul_right, arith, eqb→eq, ltb→lt, pow_pos, pow_mono, pow-add}
use Prim.Native.Nat.{compare}
use native.Mathlib.Nat.{mul-mul-mul_comm, div-div-eq-div-mul}
use mathlib.Core.Bool.{beq}
use lib.Pow.{pow-lt}
use lib.Ieee.{Float, nan, inf, fin, Format, prec, low, up, down, size, unlike, round, sum, add, mul, le, lt, eq}
use lib.Ieee.Digits.{size-le, back}
use lib.Ieee.Fits.{down_pos, nearest-le, kept-lt, round_is}
use lib.Ieee.Exact.{HasValue, units_val}
use lib.Ieee.Nearest.{closest}
use lib.Ieee.Order.{drop}
use lib.Ieee.Scale.{overflow, finite}
use lib.Ieee.Positive.{num, den, through}
use Rattle.floats.specs.Order.{within}
use Rattle.floats.proofs.Away.{le_cross}
use Rattle.floats.proofs.Fractions.{reaches}
use Rattle.floats.proofs.Closest.{closest_half}

-- ---- the error law
-- r, with the sign s, is within 2 ^ -(i + 1) of a / c
pub record Near (f : Format) (i : ℕ) (s : Bool) (a c : ℕ) (r : Float) : Type 0 where
  pub z : ℕ
  pub value : HasValue r s z (2 ^ low f)
  pub over : 2 * (z * c * 2 ^ i) ≤ 2 * (a * 2 ^ low f * 2 ^ i) + c * 2 ^ low f
  pub under : 2 * (a * 2 ^ low f * 2 ^ i) ≤ 2 * (z * c * 2 ^ i) + c * 2 ^ low f

pub round_near : (f : Format) (i : ℕ) (s : Bool) (a c : ℕ) → 0 < c → i ≤ low f → a * 2 ^ i < 2 ^ prec f * c → Near f i s a c (round f s a c)
round_near f i s a c C I h =
    let p = prec f in
    let l = low f in
    let n = a * 2 ^ l in
    let j = l - i in
    let k = drop p n c in
    let K : k ≤ j = less (size (n / c)) p j (size-le (n / c) (p + j) ((div-lt_iff_lt-mul C).1 (lt_of_le_of_lt (le_of_eq parted) (lt_of_lt_of_le (mul-lt-mul_of_pos_right h (pow_pos j)) (le_of_eq (mul_right_comm (2 ^ p) c (2 ^ j) ∙ ap (λ (x : ℕ). x * c) (sym (pow-add 2 p j)))))))) in
    let u = c * 2 ^ k in
    let N = closest n u in
    let N-le : N ≤ 2 ^ p = le_trans (nearest-le (n / u) (compare (n % u * 2) u)) (lt_of_le_of_lt (le_of_eq (sym (div-div-eq-div-mul n c (2 ^ k)))) (kept-lt p (n / c))) in
    let top : N * 2 ^ k < overflow f =
    lt_of_le_of_lt (mul-le-mul N-le (pow_mono (le_trans K (fewer l i)))) (lt_of_le_of_lt (le_of_eq (sym (pow-add 2 p l))) (pow-lt (reaches f))) in
    let half : (2 * (N * 2 ^ k * c) ≤ 2 * n + u) × (2 * n ≤ 2 * (N * 2 ^ k * c) + u) =
    subst (λ (x : ℕ). (2 * x ≤ 2 * n + u) × (2 * n ≤ 2 * x + u)) (ap (λ (x : ℕ). N * x) (mul_comm c (2 ^ k)) ∙ sym (mul_assoc N (2 ^ k) c)) (closest_half n u (mul-pos C (pow_pos k))) in
    let U : u * 2 ^ i ≤ c * 2 ^ l = le_trans (mul-le-mul_right (2 ^ i) (mul-le-mul_left c (pow_mono K))) (le_of_eq (mul_assoc c (2 ^ j) (2 ^ i) ∙ ap (λ (x : ℕ). c * x) (sym (pow-add 2 j i) ∙ ap (λ (x : ℕ). 2 ^ x) (back l i I)))) in
    record {
      z = N * 2 ^ k;
      value = subst (λ (x : Float). HasValue x s (N * 2 ^ k) (2 ^ l)) (sym (round_is f s a c)) (units_val f s N k top);
      over = scaled (N * 2 ^ k * c) n u (2 ^ i) (c * 2 ^ l) half.0 U;
      under = scaled n (N * 2 ^ k * c) u (2 ^ i) (c * 2 ^ l) half.1 U;
    }
  where
    less : (z p j : ℕ) → z ≤ p + j → z - p ≤ j
    less z p j h = omega arith

    fewer : (l i : ℕ) → l - i ≤ l
    fewer l i = omega arith

    parted : a * 2 ^ low f ≡ a * 2 ^ i * 2 ^ (low f - i)
    parted = ap (λ (x : ℕ). a * 2 ^ x) (sym (back (low f) i I)) ∙ ap (λ (x : ℕ). a * x) (pow-add 2 (low f - i) i ∙ mul_comm (2 ^ (low f - i)) (2 ^ i)) ∙ sym (mul_assoc a (2 ^ i) (2 ^ (low f - i)))

    scaled : (x y u w v : ℕ) → 2 * x ≤ 2 * y + u → u * w ≤ v → 2 * (x * w) ≤ 2 * (y * w) + v
    scaled x y u w v h k = let m : 2 * x * w ≤ (2 * y + u) * w = mul-le-mul_right w h in omega arith

-- ---- bounds of a size
-- |x| ≤ a / c
pub record AtMost (x : Float) (a c : ℕ) : Type 0 where
  pub number : T (finite x)
  pub bound : num x * c ≤ a * den x

pub at_most_own : (x : Float) → T (finite x) → AtMost x (num x) (den x)
at_most_own x h = record { number = h; bound = le_of_eq refl }

pub at_most_value : (x : Float) (s : Bool) (a c : ℕ) → HasValue x s a c → AtMost x a c
at_most_value nan s a c h = absurd h
at_most_value (inf t) s a c h = absurd h
at_most_value (fin t m e) s a c h = record { number = tt; bound = le_of_eq h.1 }

pub at_most_more : (x : Float) (a c b d : ℕ) → 0 < c → a * d ≤ b * c → AtMost x a c → AtMost x b d
at_most_more x a c b d C h k = record { number = k.number; bound = through (num x) a b (den x) c d C k.bound h }

-- a / c ≤ b / d
pub round_at_most : (f : Format) (i : ℕ) (s : Bool) (a c b d : ℕ) → 0 < c → 0 < d → i ≤ low f → a * d ≤ b * c → b * 2 ^ i < 2 ^ prec f * d
    → AtMost (round f s a c) (2 * (b * 2 ^ i) + d) (2 * (d * 2 ^ i))
round_at_most f i s a c b d C D I h k =
    let r = round_near f i s a c C I (below (2 ^ i) (2 ^ prec f) k) in
    at_most_more (round f s a c) r.z (2 ^ low f) (2 * (b * 2 ^ i) + d) (2 * (d * 2 ^ i)) (pow_pos (low f)) (le_of_mul-le-mul_right (go r.z (2 ^ i) (2 ^ low f) r.over) C) (at_most_value (round f s a c) s r.z (2 ^ low f) r.value)
  where
    below : (w p : ℕ) → b * w < p * d → a * w < p * c
    below w p k =
        lt_of_mul-lt-mul_right d
        (lt_of_le_of_lt (le_trans (le_of_eq (mul_right_comm a w d)) (le_trans (mul-le-mul_right w h) (le_of_eq (mul_right_comm b c w))))
        (lt_of_lt_of_le (mul-lt-mul_of_pos_right k C) (le_of_eq (mul_right_comm p d c))))

    go : (z w l : ℕ) → 2 * (z * c * w) ≤ 2 * (a * l * w) + c * l → z * (2 * (d * w)) * c ≤ (2 * (b * w) + d) * l * c
    go z w l o =
        let m : 2 * (z * c * w) * d ≤ (2 * (a * l * w) + c * l) * d = mul-le-mul_right d o in
        let n : a * d * (l * w) ≤ b * c * (l * w) = mul-le-mul_right (l * w) h in
        omega arith

pub mul_at_most : (f : Format) (i : ℕ) (x y : Float) (a c b d : ℕ) → 0 < c → 0 < d → i ≤ low f → AtMost x a c → AtMost y b d → a * b * 2 ^ i < 2 ^ prec f * (c * d)
    → AtMost (mul f x y) (2 * (a * b * 2 ^ i) + c * d) (2 * (c * d * 2 ^ i))
unfolding mul
mul_at_most f i nan y a c b d C D I h k l = absurd h.number
mul_at_most f i (inf s) y a c b d C D I h k l = absurd h.number
mul_at_most f i (fin s m e) nan a c b d C D I h k l = absurd k.number
mul_at_most f i (fin s m e) (inf t) a c b d C D I h k l = absurd k.number
mul_at_most f i (fin s m e) (fin t n g) a c b d C D I h k l =
    round_at_most f i (unlike s t) (m * up e * (n * up g)) (down e * down g) (a * b) (c * d) (mul-pos (down_pos e) (down_pos g)) (mul-pos C D) I
    (le_trans (le_of_eq (mul-mul-mul_comm (m * up e) (n * up g) c d)) (le_trans (mul-le-mul h.bound k.bound) (le_of_eq (mul-mul-mul_comm a (down e) b (down g))))) l

pub add_at_most : (f : Format) (i : ℕ) (x y : Float) (a c b d : ℕ) → 0 < c → 0 < d → i ≤ low f → AtMost x a c → AtMost y b d → (a * d + b * c) * 2 ^ i < 2 ^ prec f * (c * d)
    → AtMost (add f x y) (2 * ((a * d + b * c) * 2 ^ i) + c * d) (2 * (c * d * 2 ^ i))
unfolding add sum
add_at_most f i nan y a c b d C D I h k l = absurd h.number
add_at_most f i (inf s) y a c b d C D I h k l = absurd h.number
add_at_most f i (fin s m e) nan a c b d C D I h k l = absurd k.number
add_at_most f i (fin s m e) (inf t) a c b d C D I h k l = absurd k.number
add_at_most f i (fin s m e) (fin t n g) a c b d C D I h k l = go (beq s t) (ltb X Y) (s && ltb Y X)
  where
    X : ℕ
    X = m * up e * down g

    Y : ℕ
    Y = n * up g * down e

    Z : ℕ
    Z = down e * down g

    both : (x y p q : ℕ) → x * c ≤ a * p → y * d ≤ b * q → (x * q + y * p) * (c * d) ≤ (a * d + b * c) * (p * q)
    both x y p q h k = omega (arith, mul-le-mul_right (q * d) h, mul-le-mul_right (p * c) k)

    part : (v : ℕ) (u : Bool) → v ≤ X + Y → AtMost (round f u v Z) (2 * ((a * d + b * c) * 2 ^ i) + c * d) (2 * (c * d * 2 ^ i))
    part v u w = round_at_most f i u v Z (a * d + b * c) (c * d) (mul-pos (down_pos e) (down_pos g)) (mul-pos C D) I (le_trans (mul-le-mul_right (c * d) w) (both (m * up e) (n * up g) (down e) (down g) h.bound k.bound)) l

    go : (p q r : Bool) → AtMost (cond p (round f s (X + Y) Z) (cond q (round f t (Y - X) Z) (round f r (X - Y) Z))) (2 * ((a * d + b * c) * 2 ^ i) + c * d) (2 * (c * d * 2 ^ i))
    go true q r = part (X + Y) s (omega arith)
    go false true r = part (Y - X) t (omega arith)
    go false false r = part (X - Y) r (omega arith)

-- ---- a bound from a range
pub within_at_most : (m : ℕ) (e : ℤ) (x : Float) → T (within (fin true m e) x (fin false m e)) → AtMost x (m * up e) (down e)
unfolding le lt eq
within_at_most m e nan h = absurd h
within_at_most m e (inf true) h = absurd h
within_at_most m e (inf false) h = absurd h
within_at_most m e (fin false n g) h = record { number = tt; bound = le_cross (n * up g * down e) (m * up e * down g) true (second (le (fin true m e) (fin false n g)) (le (fin false n g) (fin false m e)) h) }
  where
    second : (p q : Bool) → T (cond p q false) → T q
    second true q h = h
    second false q h = absurd h
within_at_most m e (fin true n g) h = record { number = tt; bound = cross (n * up g * down e) (m * up e * down g) (first (le (fin true m e) (fin true n g)) (le (fin true n g) (fin false m e)) h) }
  where
    first : (p q : Bool) → T (cond p q false) → T p
    first true q h = tt
    first false q h = absurd h

    cross : (p q : ℕ) → T (ltb p q || (eqb q p && true)) → p ≤ q
    cross p q t = go (ltb p q) (eqb q p) (ltb→lt p q) (eqb→eq q p) t
      where
        go : (u v : Bool) → (T u → p < q) → (T v → q ≡ p) → T (u || (v && true)) → p ≤ q
        go true v f g t = le_of_lt (f tt)
        go false true f g t = le_of_eq (sym (g tt))
        go false false f g t = absurd t

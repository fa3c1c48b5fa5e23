-- Sums, differences, orders and roundings of floats, by any fractions that they equal, in any format. Assumes nothing.
use Rattle.std.proofs.Common.{◌≡◌, ℕ, suc, ◌+◌, ◌-◌, ◌*◌, ◌/◌, ◌%◌, ◌^◌, ◌<◌, ◌≤◌, Bool, true, false, cond, not, T, ltb, sym, refl, ap, ◌∙◌, true≢false, le_trans, le_of_eq, lt_of_lt_of_le, lt_of_le_of_lt, mul-le-mul_right, mul_assoc, mul_comm, div-lt_iff_lt-mul, add-mul, mul-lt-mul_of_pos_right, mul-pos, lt_of_not-le, le-div_iff_mul-le, mul-one, mul_right_comm, not-le_of_lt, mul_left_comm, le_of_mul-le-mul_right, lt_of_mul-lt-mul_right, arith, lit<, ltb→lt, nltb→le, pow_pos, pow_mono, pow-add}
use Prim.Native.Nat.{compare}
use native.Mathlib.Nat.{eq_of_mul-eq-mul_right}
use lib.Pow.{pow-lt}
use lib.Ieee.{Float, nan, inf, fin, Format, binary32, binary64, prec, emax, low, up, down, size, round, units, sum, add, sub, below, lt}
use lib.Ieee.Digits.{size-lt, size-le}
use lib.Ieee.Fits.{down_pos, nearest-le, two, two-le_pos, round_is}
use lib.Ieee.Exact.{HasValue, units_val}
use lib.Ieee.Nearest.{closest, closest_same}
use lib.Ieee.Order.{drop, transfer}
use lib.Ieee.Scale.{round_same, overflow}
use Rattle.floats.proofs.Tests.{is_false, sub_mul}

-- the literal 0.0
abbrev pub nought : Float
nought = fin false 0 (lib.IntN.pos 0)

-- ---- one value, two fractions
pub revalue : (x : Float) (s : Bool) (w l num den : ℕ) → 0 < l → num * l ≡ w * den → HasValue x s w l → HasValue x s num den
revalue nan s w l num den p h v = v
revalue (inf t) s w l num den p h v = v
revalue (fin t m e) s w l num den p h v = (
  v.0,
  eq_of_mul-eq-mul_right l p (m * up e * den) (num * down e)
      (mul_right_comm (m * up e) den l ∙ ap (λ (x : ℕ). x * den) v.1 ∙ mul_right_comm w (down e) den ∙ ap (λ (x : ℕ). x * down e) (sym h) ∙ mul_right_comm num l (down e)),
)

-- ---- X / E is a / c and Y / D is b / d
module _ (X E Y D a c b d : ℕ) (p : X * c ≡ a * E) (q : Y * d ≡ b * D) where
  pub left : X * D * (c * d) ≡ a * d * (E * D)
  left = simp (mul_assoc, mul_comm, mul_left_comm) (simp (mul_assoc, mul_comm, mul_left_comm) at (ap (λ (z : ℕ). z * (D * d)) p))

  pub right : Y * E * (c * d) ≡ b * c * (E * D)
  right = simp (mul_assoc, mul_comm, mul_left_comm) (simp (mul_assoc, mul_comm, mul_left_comm) at (ap (λ (z : ℕ). z * (E * c)) q))

  cross_sum : (X * D + Y * E) * (c * d) ≡ (a * d + b * c) * (E * D)
  cross_sum = add-mul (X * D) (Y * E) (c * d) ∙ ap (λ (z : ℕ). z + Y * E * (c * d)) left ∙ ap (λ (z : ℕ). a * d * (E * D) + z) right ∙ sym (add-mul (a * d) (b * c) (E * D))

cross_diff : (X E Y D a c b d : ℕ) → X * c ≡ a * E → Y * d ≡ b * D → (X * D - Y * E) * (c * d) ≡ (a * d - b * c) * (E * D)
cross_diff X E Y D a c b d p q =
    sub_mul (X * D) (Y * E) (c * d)
    ∙ ap (λ (z : ℕ). z - Y * E * (c * d)) (left X E Y D a c b d p q)
    ∙ ap (λ (z : ℕ). a * d * (E * D) - z) (right X E Y D a c b d p q)
    ∙ sym (sub_mul (a * d) (b * c) (E * D))

pub add_at : (f : Format) (x y : Float) (a c b d : ℕ) → 0 < c → 0 < d → HasValue x false a c → HasValue y false b d → add f x y ≡ round f false (a * d + b * c) (c * d)
unfolding add sum
add_at f nan y a c b d C D h k = absurd h
add_at f (inf s) y a c b d C D h k = absurd h
add_at f (fin s m e) nan a c b d C D h k = absurd k
add_at f (fin s m e) (inf t) a c b d C D h k = absurd k
add_at f (fin true m e) (fin t n g) a c b d C D h k = absurd (true≢false h.0)
add_at f (fin false m e) (fin true n g) a c b d C D h k = absurd (true≢false k.0)
add_at f (fin false m e) (fin false n g) a c b d C D h k =
    round_same f false (m * up e * down g + n * up g * down e) (down e * down g) (a * d + b * c) (c * d) (mul-pos (down_pos e) (down_pos g)) (mul-pos C D)
    (cross_sum (m * up e) (down e) (n * up g) (down g) a c b d h.1 k.1)

pick : (f : Format) (a b c : ℕ) → b ≤ a → sum f false a true b c ≡ round f false (a - b) c
unfolding sum
pick f a b c h = go (ltb a b) (ltb→lt a b)
  where
    go : (t : Bool) → (T t → a < b) → cond t (round f true (b - a) c) (round f false (a - b) c) ≡ round f false (a - b) c
    go true k = absurd (not-le_of_lt (k tt) h)
    go false k = refl

opened : (f : Format) (m : ℕ) (e : lib.IntN.ℤ) (n : ℕ) (d : lib.IntN.ℤ) → sub f (fin false m e) (fin false n d) ≡ sum f false (m * up e * down d) true (n * up d * down e) (down e * down d)
unfolding sub
opened f m e n d = refl

pub sub_at : (f : Format) (x y : Float) (a c b d : ℕ) → 0 < c → 0 < d → HasValue x false a c → HasValue y false b d → b * c ≤ a * d → sub f x y ≡ round f false (a * d - b * c) (c * d)
sub_at f nan y a c b d C D h k l = absurd h
sub_at f (inf s) y a c b d C D h k l = absurd h
sub_at f (fin s m e) nan a c b d C D h k l = absurd k
sub_at f (fin s m e) (inf t) a c b d C D h k l = absurd k
sub_at f (fin true m e) (fin t n g) a c b d C D h k l = absurd (true≢false h.0)
sub_at f (fin false m e) (fin true n g) a c b d C D h k l = absurd (true≢false k.0)
sub_at f (fin false m e) (fin false n g) a c b d C D h k l =
    opened f m e n g
    ∙ pick f (m * up e * down g) (n * up g * down e) (down e * down g) (transfer (n * up g) (m * up e) (down g) (down e) b a d c D C k.1 h.1 l)
    ∙ round_same f false (m * up e * down g - n * up g * down e) (down e * down g) (a * d - b * c) (c * d) (mul-pos (down_pos e) (down_pos g)) (mul-pos C D)
    (cross_diff (m * up e) (down e) (n * up g) (down g) a c b d h.1 k.1)

-- ---- the order
pub lt_yes : (x y : Float) (a c b d : ℕ) → 0 < c → 0 < d → HasValue x false a c → HasValue y false b d → T (lt x y) → a * d < b * c
unfolding lt
lt_yes nan y a c b d C D h k l = absurd h
lt_yes (inf s) y a c b d C D h k l = absurd h
lt_yes (fin s m e) nan a c b d C D h k l = absurd k
lt_yes (fin s m e) (inf t) a c b d C D h k l = absurd k
lt_yes (fin true m e) (fin t n g) a c b d C D h k l = absurd (true≢false h.0)
lt_yes (fin false m e) (fin true n g) a c b d C D h k l = absurd (true≢false k.0)
lt_yes (fin false m e) (fin false n g) a c b d C D h k l =
    lt_of_not-le (λ (z : b * c ≤ a * d). not-le_of_lt (ltb→lt (m * up e * down g) (n * up g * down e) l) (transfer (n * up g) (m * up e) (down g) (down e) b a d c D C k.1 h.1 z))

pub lt_no : (x y : Float) (a c b d : ℕ) → HasValue x false a c → HasValue y false b d → T (not (lt x y)) → b * c ≤ a * d
unfolding lt
lt_no nan y a c b d h k l = absurd h
lt_no (inf s) y a c b d h k l = absurd h
lt_no (fin s m e) nan a c b d h k l = absurd k
lt_no (fin s m e) (inf t) a c b d h k l = absurd k
lt_no (fin true m e) (fin t n g) a c b d h k l = absurd (true≢false h.0)
lt_no (fin false m e) (fin true n g) a c b d h k l = absurd (true≢false k.0)
lt_no (fin false m e) (fin false n g) a c b d h k l =
    transfer b a d c (n * up g) (m * up e) (down g) (down e) (down_pos g) (down_pos e) (sym k.1) (sym h.1) (nltb→le (m * up e * down g) (n * up g * down e) l)

lt_asymm : {a b : ℕ} → a < b → b < a → ⊥
lt_asymm h k = omega arith

below_asym : (s : Bool) (a : ℕ) (t : Bool) (b : ℕ) → T (below s a t b) → below t b s a ≡ false
below_asym true a true b h = sym (is_false (ltb a b) (λ l. lt_asymm (ltb→lt a b l) (ltb→lt b a h)))
below_asym true a false b h = refl
below_asym false a true b h = absurd h
below_asym false a false b h = sym (is_false (ltb b a) (λ l. lt_asymm (ltb→lt b a l) (ltb→lt a b h)))

pub lt_asym : (x y : Float) → T (lt x y) → lt y x ≡ false
unfolding lt
lt_asym nan y h = absurd h
lt_asym (inf s) nan h = absurd h
lt_asym (inf true) (inf true) h = absurd h
lt_asym (inf true) (inf false) h = refl
lt_asym (inf false) (inf t) h = absurd h
lt_asym (inf true) (fin t n g) h = refl
lt_asym (inf false) (fin t n g) h = absurd h
lt_asym (fin s m e) nan h = absurd h
lt_asym (fin s m e) (inf true) h = absurd h
lt_asym (fin s m e) (inf false) h = refl
lt_asym (fin s m e) (fin t n g) h = below_asym s (m * up e * down g) t (n * up g * down e) h

-- ---- `round`, of M / D * 2 ^ k units with all digits in use
pub size_gt : (n j : ℕ) → 2 ^ j ≤ n → j < size n
size_gt n j h = lt_of_not-le (λ (g : size n ≤ j). not-le_of_lt (lt_of_lt_of_le (size-lt n) (pow_mono g)) h)

pub size_at : (p l z : ℕ) → 0 < p → p - 1 + l < z → z ≤ p + l → z - p ≡ l
size_at p l z P a b = omega arith

pub reaches : (f : Format) → prec f + low f < low f + suc (emax f)
reaches binary32 = lit< tt
reaches binary64 = lit< tt

pub round_at : (f : Format) (s : Bool) (num den M D k : ℕ) → 0 < den → 0 < D → num * 2 ^ low f * D ≡ M * 2 ^ k * den → 2 ^ (prec f - 1) * D ≤ M → M < 2 ^ prec f * D
    → round f s num den ≡ units f s (closest M D) k
round_at f s num den M D k dp Dp e lo hi =
    let p = prec f in
    let n = num * 2 ^ low f in
    let u = 2 ^ k in
    let lo' : 2 ^ (p - 1 + k) * den ≤ n =
    le_of_mul-le-mul_right
    (le_trans (le_of_eq (ap (λ (x : ℕ). x * den * D) (pow-add 2 (p - 1) k) ∙ shuffle (2 ^ (p - 1)) u den D))
    (le_trans (mul-le-mul_right (u * den) lo) (le_of_eq (sym (mul_assoc M u den) ∙ sym e)))) Dp in
    let hi' : n < 2 ^ (p + k) * den =
    lt_of_mul-lt-mul_right D
    (lt_of_le_of_lt (le_of_eq (e ∙ mul_assoc M u den))
    (lt_of_lt_of_le (mul-lt-mul_of_pos_right hi (mul-pos (pow_pos k) dp)) (le_of_eq (sym (ap (λ (x : ℕ). x * den * D) (pow-add 2 p k) ∙ shuffle (2 ^ p) u den D))))) in
    let kk : drop p n den ≡ k = size_at p k (size (n / den)) (two-le_pos p (two f)) (size_gt (n / den) (p - 1 + k) ((le-div_iff_mul-le dp).1 lo')) (size-le (n / den) (p + k) ((div-lt_iff_lt-mul dp).1 hi')) in
    round_is f s num den
    ∙ ap (λ (x : ℕ). units f s (closest n (den * 2 ^ x)) x) kk
    ∙ ap (λ (x : ℕ). units f s x k) (closest_same n (den * u) M D (mul-pos dp (pow_pos k)) Dp (e ∙ mul_assoc M u den ∙ ap (λ (x : ℕ). M * x) (mul_comm u den)))
  where
    shuffle : (a u d D : ℕ) → a * u * d * D ≡ a * D * (u * d)
    shuffle a u d D = mul_right_comm (a * u) d D ∙ ap (λ (x : ℕ). x * d) (mul_right_comm a u D) ∙ mul_assoc (a * D) u d

-- ---- a fraction from 2 ^ (prec - 1) up and below 2 ^ prec is rounded to a whole number
pub round_near_whole : (f : Format) (num den : ℕ) → 0 < den → 2 ^ (prec f - 1) * den ≤ num → num < 2 ^ prec f * den → HasValue (round f false num den) false (closest num den) 1
round_near_whole f num den D lo hi =
    let p = prec f in
    let l = low f in
    let N = closest num den in
    let N-le : N ≤ 2 ^ p = le_trans (nearest-le (num / den) (compare (num % den * 2) den)) ((div-lt_iff_lt-mul D).1 hi) in
    let under : N * 2 ^ l < overflow f = lt_of_le_of_lt (le_trans (mul-le-mul_right (2 ^ l) N-le) (le_of_eq (sym (pow-add 2 p l)))) (pow-lt (reaches f)) in
    rw (round_at f false num den num den l D D refl lo hi) (revalue (units f false N l) false (N * 2 ^ l) (2 ^ l) N 1 (pow_pos l) (sym (mul-one (N * 2 ^ l))) (units_val f false N l under))

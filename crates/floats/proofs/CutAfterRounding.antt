-- A fraction that stays 2 ^ -t below the next whole number is cut to the same whole number after rounding, since both ends are values of the format and rounding keeps the order.
use Rattle.std.proofs.Common.{◌≡◌, ℕ, suc, ◌+◌, ◌-◌, ◌*◌, ◌/◌, ◌^◌, ◌<◌, ◌≤◌, min, Bool, true, false, cond, T, ltb, sym, ap, ◌∙◌, subst, true≢false, le_trans, le_of_eq, lt_of_lt_of_le, lt_of_le_of_lt, zero-lt-suc, mul_assoc, div-lt_iff_lt-mul, lt_of_mul-lt-mul_right, mul-le-mul_left, mul-lt-mul_of_pos_right, le-div_iff_mul-le, mul-one, add-one, arith, ltb→lt, pow_pos, pow_mono, pow-add}
use lib.Ieee.{Float, nan, inf, fin, Format, prec, emax, low, up, down, odd, units, round, le}
use lib.Ieee.Fits.{down_pos, round_is, reach}
use lib.Ieee.Exact.{HasValue, round_exact}
use lib.Ieee.Nearest.{div_same}
use lib.Ieee.Back.{round_whole}
use lib.Ieee.Order.{drop, kept, round_mono}
use lib.Ieee.Scale.{grid, overflow, round_val}
use Rattle.floats.specs.Floor.{floor_to}
use Rattle.floats.proofs.Tests.{T_false}
use Rattle.floats.proofs.Fractions.{lt_no}
use Rattle.floats.proofs.NotAbove.{le_not_gt}

-- ---- a fraction between two values is rounded to a value between them
infinite_above : (y : Float) (b d : ℕ) → HasValue y false b d → T (le (inf false) y) → ⊥
unfolding le
infinite_above nan b d h t = h
infinite_above (inf s) b d h t = h
infinite_above (fin s m e) b d h t = t

units_under : (f : Format) (q k : ℕ) (y : Float) (b d : ℕ) → HasValue y false b d → T (le (units f false q k) y) → q * 2 ^ k < overflow f
unfolding units
units_under f q k y b d h = go (ltb (q * 2 ^ k) (overflow f)) (ltb→lt (q * 2 ^ k) (overflow f))
  where
    go : (t : Bool) → (T t → q * 2 ^ k < overflow f) → T (le (cond t (odd (suc (prec f)) false q k (low f)) (inf false)) y) → q * 2 ^ k < overflow f
    go true l u = l tt
    go false l u = absurd (infinite_above y b d h u)

pub record Between (f : Format) (lo l hi h : ℕ) (x : Float) : Type 0 where
  pub units : ℕ
  pub value : HasValue x false units (2 ^ low f)
  pub from : lo * 2 ^ low f ≤ units * l
  pub to : units * h ≤ hi * 2 ^ low f

pub round_between : (f : Format) (lo l a c hi h : ℕ) → 0 < l → 0 < c → 0 < h → HasValue (round f false lo l) false lo l → HasValue (round f false hi h) false hi h → lo * c ≤ a * l → a * h ≤ hi * c → Between f lo l hi h (round f false a c)
round_between f lo l a c hi h L C H v w below above =
    let x = round f false lo l in
    let y = round f false a c in
    let z = round f false hi h in
    let more : T (le x y) = round_mono f lo l a c L C below in
    let less : T (le y z) = round_mono f a c hi h C H above in
    let under = units_under f (kept (prec f) (a * 2 ^ low f) c) (drop (prec f) (a * 2 ^ low f) c) z hi h w (subst (λ (u : Float). T (le u z)) (round_is f false a c) less) in
    let value = round_val f a c under in
    record {
      units = grid f a c;
      value = value;
      from = lt_no y x (grid f a c) (2 ^ low f) lo l value v (T_false (le_not_gt x y more));
      to = lt_no z y hi h (grid f a c) (2 ^ low f) w value (T_false (le_not_gt y z less));
    }

-- ---- the cut
pub floor_value : (w : ℕ) (x : Float) (a c : ℕ) → 0 < c → HasValue x false a c → floor_to w x ≡ min (a / c) (2 ^ w - 1)
unfolding floor_to
floor_value w nan a c C h = absurd h
floor_value w (inf s) a c C h = absurd h
floor_value w (fin true m e) a c C h = absurd (true≢false h.0)
floor_value w (fin false m e) a c C h = ap (λ (q : ℕ). min q (2 ^ w - 1)) (div_same (m * up e) (down e) a c (down_pos e) C h.1)

-- y / 2 ^ t is a value of the format
fine_value : (f : Format) (y t : ℕ) → t ≤ low f → y < 2 ^ prec f → HasValue (round f false y (2 ^ t)) false y (2 ^ t)
fine_value f y t h small =
    round_exact f false y (2 ^ t) y (low f - t) (pow_pos t) small
    (lt_of_le_of_lt (mul-le-mul_left y (pow_mono (less (low f) t)))
    (lt_of_lt_of_le (mul-lt-mul_of_pos_right small (pow_pos (low f)))
    (le_trans (le_of_eq (sym (pow-add 2 (prec f) (low f)))) (pow_mono (swap (prec f) (low f) (suc (emax f)) (reach f))))))
    (ap (λ (z : ℕ). y * z) (ap (λ (z : ℕ). 2 ^ z) (back (low f) t h) ∙ pow-add 2 (low f - t) t) ∙ sym (mul_assoc y (2 ^ (low f - t)) (2 ^ t)))
  where
    less : (a b : ℕ) → a - b ≤ a
    less a b = omega arith

    swap : (p l e : ℕ) → p ≤ e → p + l ≤ l + e
    swap p l e h = omega arith

    back : (a b : ℕ) → b ≤ a → a ≡ a - b + b
    back a b h = omega arith

-- G / L is below q + 1, since it is at most Y / T, which is one part in T below q + 1
below_next : (G T Y L q : ℕ) → 0 < L → Y + 1 ≡ (q + 1) * T → G * T ≤ Y * L → G < (q + 1) * L
below_next G T Y L q P e h =
    let m : (Y + 1) * L ≡ (q + 1) * T * L = ap (λ (z : ℕ). z * L) e in
    lt_of_mul-lt-mul_right T (let z : G * T < (q + 1) * L * T = omega arith in z)

-- a / d is q, or more by less than 1 - 2 ^ -t
pub cut_after_rounding : (f : Format) (w t a d q : ℕ) → 0 < d → t ≤ low f → (q + 1) * 2 ^ t ≤ 2 ^ prec f → q < 2 ^ w → q * d ≤ a → a * 2 ^ t + d ≤ (q + 1) * 2 ^ t * d → floor_to w (round f false a d) ≡ q
cut_after_rounding f w t a d q D h small room below above =
    let T = 2 ^ t in
    let L = 2 ^ low f in
    let Y = (q + 1) * T - 1 in
    let one_more : Y + 1 ≡ (q + 1) * T = go q T (pow_pos t) in
    let b =
    round_between f q 1 a d Y T (zero-lt-suc 0) D (pow_pos t)
    (round_whole f false q (le_trans (small_whole q T (pow_pos t)) small))
    (fine_value f Y t h (lt_of_lt_of_le (le_of_eq (sym (add-one Y) ∙ one_more)) small))
    (le_trans below (le_of_eq (sym (mul-one a))))
    (over a T Y d (q + 1) one_more above) in
    floor_value w (round f false a d) b.units L (pow_pos (low f)) b.value
    ∙ cut (b.units / L) q (2 ^ w) room
    ((le-div_iff_mul-le (pow_pos (low f))).1 (le_trans b.from (le_of_eq (mul-one b.units))))
    ((div-lt_iff_lt-mul (pow_pos (low f))).1 (below_next b.units T Y L q (pow_pos (low f)) one_more b.to))
  where
    go : (q T : ℕ) → 0 < T → (q + 1) * T - 1 + 1 ≡ (q + 1) * T
    go q T h = omega arith

    small_whole : (q T : ℕ) → 0 < T → q ≤ (q + 1) * T
    small_whole q T h = let z = mul-le-mul_left (q + 1) h in omega arith

    over : (a T Y d n : ℕ) → Y + 1 ≡ n * T → a * T + d ≤ n * T * d → a * T ≤ Y * d
    over a T Y d n e h = let m : (Y + 1) * d ≡ n * T * d = ap (λ (z : ℕ). z * d) e in omega arith

    cut : (g q s : ℕ) → q < s → q ≤ g → g < q + 1 → min g (s - 1) ≡ q
    cut g q s r h k = omega arith

-- From a quarter on, a square has so few digits below 2 ^ -49 that what it leaves of 1023 / 1024 or 1025 / 1024 is exact. Assumes nothing.
use Rattle.std.proofs.Common.{◌≡◌, ℕ, ◌+◌, ◌-◌, ◌*◌, ◌^◌, ◌<◌, ◌≤◌, Bool, true, false, not, ◌&&◌, T, leb, negsuc, sym, refl, ap, ◌∙◌, subst, le_trans, lt_of_lt_of_le, lt_of_le_of_lt, le_of_lt, mul-le-mul_right, mul_assoc, add-mul, not-le_of_lt, le_of_mul-le-mul_right, arith, lit≤, le→leb, leb→le, pow_pos, pow_mono, pow-add, shl_lt}
use lib.Dec.{nleb→lt}
use lib.Pow.{pow-lt}
use lib.Ieee.{Float, fin, binary64, sub, le, lt, fits}
use lib.Ieee.Fits.{and_l, and_i}
use lib.Ieee.Exact.{HasValue}
use Rattle.floats.specs.Unit.{in_units, about_one}
use Rattle.floats.specs.Inner.Steps.{plain, FewDigits}
use Rattle.floats.proofs.Tests.{is_false, same_test, sub_mul}
use Rattle.floats.proofs.Units.{in_units_lem, sub_exact}
use Rattle.floats.proofs.SumTests.{le_value, le_same, lt_value, not_lt_value, plain_finite, units_are}
use Rattle.floats.proofs.Squares.{plain_of}

-- ---- 1025 / 1024 and 1023 / 1024 less a square of 1 / 4 at least: exact
high_digits : (q j : ℕ) → q < 2 ^ 48 → 2 ^ 1072 ≤ q * 2 ^ j → 1025 ≤ j
high_digits q j h k = not_lt j 1025 (λ (l : j < 1025). not-le_of_lt (lt_of_lt_of_le (shl_lt 48 j h) (pow_mono (go j l))) k)
  where
    not_lt : (x y : ℕ) → (x < y → ⊥) → y ≤ x
    not_lt x y h = omega arith

    go : (j : ℕ) → j < 1025 → 48 + j ≤ 1072
    go j h = omega arith

less_square : (x b : Float) (k U q j : ℕ) → HasValue b false (k * 2 ^ 1064) (2 ^ 1074) → k ≤ 1025 → HasValue x false U (2 ^ 1074) → U ≡ q * 2 ^ j → q < 2 ^ 48 → 2 ^ 1072 ≤ U → U ≤ k * 2 ^ 1064
    → HasValue (sub binary64 b x) false (k * 2 ^ 1064 - U) (2 ^ 1074)
less_square x b k U q j hb kk hx e few lo hi =
    let wide : k ≤ 2048 = le_trans kk (lit≤ tt) in
    let J : 1025 ≤ j = high_digits q j few (subst (λ (z : ℕ). 2 ^ 1072 ≤ z) e lo) in
    let i = j - 1025 in
    let parts : U ≡ q * 2 ^ i * 2 ^ 1025 = e ∙ ap (λ (z : ℕ). q * 2 ^ z) (sym (back j 1025 J)) ∙ ap (λ (z : ℕ). q * z) (pow-add 2 i 1025) ∙ sym (mul_assoc q (2 ^ i) (2 ^ 1025)) in
    let diff : k * 2 ^ 1064 - U ≡ (k * 2 ^ 39 - q * 2 ^ i) * 2 ^ 1025 = ap (λ (z : ℕ). k * 2 ^ 1064 - z) parts ∙ ap (λ (z : ℕ). z - q * 2 ^ i * 2 ^ 1025) (sym (mul_assoc k (2 ^ 39) (2 ^ 1025))) ∙ sym (sub_mul (k * 2 ^ 39) (q * 2 ^ i) (2 ^ 1025)) in
    sub_exact binary64 b x (k * 2 ^ 1064) U (k * 2 ^ 39 - q * 2 ^ i) 1025 hb hx hi
    (lt_of_le_of_lt (mul-le-mul_right (2 ^ 1064) wide) (pow-lt {i = 1075} {j = 2098} (lit≤ tt)))
    diff
    (lt_of_le_of_lt (le_trans (less (k * 2 ^ 39) (q * 2 ^ i)) (mul-le-mul_right (2 ^ 39) wide)) (pow-lt {i = 50} {j = 53} (lit≤ tt)))
  where
    back : (a l : ℕ) → l ≤ a → a - l + l ≡ a
    back a l h = omega arith

    less : (a b : ℕ) → a - b ≤ a
    less a b = omega arith

-- ---- `about_one`, over a unit K of 1 / 1024
module _ (K h m l : ℕ) (a : l ≤ m) (b : m ≤ h) where
  false_and : (p q : Bool) → (T p → ⊥) → false ≡ (p && q)
  false_and true q n = absurd (n tt)
  false_and false q n = refl

  and_off : (p q : Bool) → (T q → ⊥) → false ≡ (p && q)
  and_off true q n = is_false q n
  and_off false q n = refl

  both_on : (p q : Bool) → T p → T q → true ≡ (p && q)
  both_on true true x y = refl
  both_on true false x y = absurd y
  both_on false q x y = absurd x

  pub too_small : h < 256 * K → false ≡ about_one K (h + (m + l))
  too_small s = false_and (leb (1023 * K) (h + (m + l))) (leb (h + (m + l)) (1025 * K)) (λ t. go (leb→le (1023 * K) (h + (m + l)) t))
    where
      go : 1023 * K ≤ h + (m + l) → ⊥
      go t = omega arith

  pub too_big : 1025 * K < h → false ≡ about_one K (h + (m + l))
  too_big s = and_off (leb (1023 * K) (h + (m + l))) (leb (h + (m + l)) (1025 * K)) (λ t. go (leb→le (h + (m + l)) (1025 * K) t))
    where
      go : h + (m + l) ≤ 1025 * K → ⊥
      go t = omega arith

  pub sum_too_big : h ≤ 1025 * K → T (not (leb (m + l) (1025 * K - h))) → false ≡ about_one K (h + (m + l))
  sum_too_big s n = and_off (leb (1023 * K) (h + (m + l))) (leb (h + (m + l)) (1025 * K)) (λ t. go (leb→le (h + (m + l)) (1025 * K) t) (nleb→lt (m + l) (1025 * K - h) n))
    where
      go : h + (m + l) ≤ 1025 * K → 1025 * K - h < m + l → ⊥
      go t n = omega arith

  pub sum_fine : h ≤ 1025 * K → T (leb (m + l) (1025 * K - h)) → 1023 * K < h → true ≡ about_one K (h + (m + l))
  sum_fine s t n = both_on (leb (1023 * K) (h + (m + l))) (leb (h + (m + l)) (1025 * K)) (le→leb (1023 * K) (h + (m + l)) go1) (le→leb (h + (m + l)) (1025 * K) (go2 (leb→le (m + l) (1025 * K - h) t)))
    where
      go1 : 1023 * K ≤ h + (m + l)
      go1 = omega arith

      go2 : m + l ≤ 1025 * K - h → h + (m + l) ≤ 1025 * K
      go2 t = omega arith

  pub sum_asked : h ≤ 1025 * K → T (leb (m + l) (1025 * K - h)) → h ≤ 1023 * K → leb (1023 * K - h) (m + l) ≡ about_one K (h + (m + l))
  sum_asked s t n =
      same_test (leb (1023 * K - h) (m + l)) (about_one K (h + (m + l)))
      (λ y. and_i (leb (1023 * K) (h + (m + l))) (leb (h + (m + l)) (1025 * K)) (le→leb (1023 * K) (h + (m + l)) (go1 (leb→le (1023 * K - h) (m + l) y))) (le→leb (h + (m + l)) (1025 * K) (go2 (leb→le (m + l) (1025 * K - h) t))))
      (λ y. le→leb (1023 * K - h) (m + l) (go3 (leb→le (1023 * K) (h + (m + l)) (and_l (leb (1023 * K) (h + (m + l))) (leb (h + (m + l)) (1025 * K)) y))))
    where
      go1 : 1023 * K - h ≤ m + l → 1023 * K ≤ h + (m + l)
      go1 t = omega arith

      go2 : m + l ≤ 1025 * K - h → h + (m + l) ≤ 1025 * K
      go2 t = omega arith

      go3 : 1023 * K ≤ h + (m + l) → 1023 * K - h ≤ m + l
      go3 t = omega arith

plain_value : (x : Float) → T (fits binary64 x) → T (plain x) → HasValue x false (in_units binary64 x) (2 ^ 1074)
plain_value x F h =
    let u = in_units_lem binary64 false x F (plain_finite x h) in
    subst (λ (z : ℕ). HasValue x false z (2 ^ 1074)) (sym (units_are binary64 x false (u.q * 2 ^ u.j) u.value)) u.value

abbrev pub upper : Float
upper = fin false 1025 (negsuc 9)

abbrev pub lower : Float
lower = fin false 1023 (negsuc 9)

abbrev pub quarter : Float
quarter = fin false 1 (negsuc 1)

upper_value : HasValue upper false (1025 * 2 ^ 1064) (2 ^ 1074)
upper_value = (refl, refl)

lower_value : HasValue lower false (1023 * 2 ^ 1064) (2 ^ 1074)
lower_value = (refl, refl)

quarter_value : HasValue quarter false (256 * 2 ^ 1064) (2 ^ 1074)
quarter_value = (refl, refl)

module _ (hi : Float) (F : T (fits binary64 hi)) (d : FewDigits hi) where
  abbrev Uh : ℕ
  Uh = in_units binary64 hi

  hv : HasValue hi false Uh (2 ^ 1074)
  hv = plain_value hi F d.flat

  pub in_upper : T (le hi upper) → Uh ≤ 1025 * 2 ^ 1064
  in_upper t = le_value hi upper Uh (1025 * 2 ^ 1064) (2 ^ 1074) (pow_pos 1074) hv upper_value t

  pub past_upper : T (not (le hi upper)) → 1025 * 2 ^ 1064 < Uh
  past_upper t = nleb→lt Uh (1025 * 2 ^ 1064) (subst (λ (b : Bool). T (not b)) (le_same hi upper Uh (1025 * 2 ^ 1064) (2 ^ 1074) (pow_pos 1074) hv upper_value) t)

  pub in_lower : T (le hi lower) → Uh ≤ 1023 * 2 ^ 1064
  in_lower t = le_value hi lower Uh (1023 * 2 ^ 1064) (2 ^ 1074) (pow_pos 1074) hv lower_value t

  pub past_lower : T (not (le hi lower)) → 1023 * 2 ^ 1064 < Uh
  past_lower t = nleb→lt Uh (1023 * 2 ^ 1064) (subst (λ (b : Bool). T (not b)) (le_same hi lower Uh (1023 * 2 ^ 1064) (2 ^ 1074) (pow_pos 1074) hv lower_value) t)

  pub in_quarter : T (lt hi quarter) → Uh < 256 * 2 ^ 1064
  in_quarter t = lt_value hi quarter Uh (256 * 2 ^ 1064) (2 ^ 1074) (pow_pos 1074) hv quarter_value t

  past_quarter : T (not (lt hi quarter)) → 256 * 2 ^ 1064 ≤ Uh
  past_quarter t = not_lt_value hi quarter Uh (256 * 2 ^ 1064) (2 ^ 1074) (pow_pos 1074) hv quarter_value t

  pub record Left (k : ℕ) (r : Float) : Type 0 where
    pub flat : T (plain r)
    pub is : in_units binary64 r ≡ k * 2 ^ 1064 - Uh

  pub upper_less : T (not (lt hi quarter)) → T (le hi upper) → Left 1025 (sub binary64 upper hi)
  upper_less n t =
      let v = less_square hi upper 1025 Uh d.q d.j upper_value (lit≤ tt) hv d.at d.few (past_quarter n) (in_upper t) in
      record { flat = plain_of (sub binary64 upper hi) (1025 * 2 ^ 1064 - Uh) (2 ^ 1074) v; is = units_are binary64 (sub binary64 upper hi) false (1025 * 2 ^ 1064 - Uh) v }

  pub lower_less : T (not (lt hi quarter)) → T (le hi lower) → Left 1023 (sub binary64 lower hi)
  lower_less n t =
      let v = less_square hi lower 1023 Uh d.q d.j lower_value (lit≤ tt) hv d.at d.few (past_quarter n) (in_lower t) in
      record { flat = plain_of (sub binary64 lower hi) (1023 * 2 ^ 1064 - Uh) (2 ^ 1074) v; is = units_are binary64 (sub binary64 lower hi) false (1023 * 2 ^ 1064 - Uh) v }

-- ---- the three squares
pub order_yes : (x y : Float) → T (fits binary64 x) → T (fits binary64 y) → T (plain x) → T (plain y) → T (le x y) → in_units binary64 x ≤ in_units binary64 y
order_yes x y F G p q t = le_value x y (in_units binary64 x) (in_units binary64 y) (2 ^ 1074) (pow_pos 1074) (plain_value x F p) (plain_value y G q) t

pub order_no : (x y : Float) → T (fits binary64 x) → T (fits binary64 y) → T (plain x) → T (plain y) → T (not (le x y)) → in_units binary64 y ≤ in_units binary64 x
order_no x y F G p q t =
    le_of_lt (nleb→lt (in_units binary64 x) (in_units binary64 y) (subst (λ (b : Bool). T (not b)) (le_same x y (in_units binary64 x) (in_units binary64 y) (2 ^ 1074) (pow_pos 1074) (plain_value x F p) (plain_value y G q)) t))

leb_scaled : (a b W : ℕ) → 0 < W → leb (a * W) (b * W) ≡ leb a b
leb_scaled a b W w = same_test (leb (a * W) (b * W)) (leb a b) (λ t. le→leb a b (le_of_mul-le-mul_right (leb→le (a * W) (b * W) t) w)) (λ t. le→leb (a * W) (b * W) (mul-le-mul_right W (leb→le a b t)))

pub one_unit : (n N : ℕ) → n ≡ N * 2 ^ 776 → about_one (2 ^ 1064) n ≡ about_one (2 ^ 288) N
one_unit n N e =
    ap (λ (z : ℕ). leb (1023 * 2 ^ 1064) z && leb z (1025 * 2 ^ 1064)) e
    ∙ ap (λ (b : Bool). b && leb (N * 2 ^ 776) (1025 * 2 ^ 1064)) (leb_scaled (1023 * 2 ^ 288) N (2 ^ 776) (pow_pos 776))
    ∙ ap (λ (b : Bool). leb (1023 * 2 ^ 288) N && b) (leb_scaled N (1025 * 2 ^ 288) (2 ^ 776) (pow_pos 776))

pub spread : (X Y Z W : ℕ) → X * W + Y * W + Z * W ≡ (X + Y + Z) * W
spread X Y Z W = sym (add-mul (X + Y) Z W ∙ ap (λ (z : ℕ). z + Z * W) (add-mul X Y W))

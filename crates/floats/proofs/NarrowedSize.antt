-- An `f64` without a sign rounded to an `f32`, by its pattern. Assumes nothing.
use Rattle.std.proofs.Common.{◌≡◌, ℕ, suc, ◌+◌, ◌-◌, ◌*◌, ◌/◌, ◌%◌, ◌^◌, ◌<◌, ◌≤◌, Bool, true, false, cond, not, T, ltb, ◌⊎◌, negsuc, sym, refl, ap, ◌∙◌, subst, inl, inr, true≢false, le_trans, le_of_eq, lt_of_lt_of_le, lt_of_le_of_lt, le_of_lt, mul-le-mul_right, mod-eq_of_lt, mul_assoc, mul_comm, div-lt_iff_lt-mul, add-mul, le_antisymm, eq-or-lt_of_le, mul-lt-mul_of_pos_right, mul-pos, one-mul, mul-one, not-le_of_lt, mul-div_cancel, mul_left_comm, arith, lit<, lit≤, ltb→lt, nltb→le, pow_pos, pow_mono, pow-add, shl_lt}
use Prim.Native.Nat.{compare, Ordering}
use native.Mathlib.Nat.{add-mul-div_right, add-mul-mod_self_right}
use lib.Pow.{pow-lt}
use lib.Ieee.{Float, nan, inf, fin, Format, binary32, binary64, prec, low, up, down, size, nearest, odd, units, round, add, is_nan, of_bits, to_bits}
use lib.Ieee.Digits.{size-le}
use lib.Ieee.Fits.{down_pos, nearest-le, round_is}
use lib.Ieee.Bits.{of_bits-to_bits}
use lib.Ieee.Exact.{HasValue, units_val}
use lib.Ieee.Nearest.{closest, closest_same, nearest-ge}
use lib.Ieee.Order.{drop}
use lib.Ieee.Scale.{overflow, round_same}
use Rattle.floats.specs.Narrow.{narrow_to}
use Rattle.floats.proofs.Fractions.{add_at, round_at}
use Rattle.floats.proofs.Patterns.{bits_value, units_bits, units_fits}
use Rattle.floats.proofs.Closest.{Cmp, cmp}
use Rattle.floats.proofs.Patterns.{value_low, value_high}

-- ---- `round`, of n / den units with no more digits than the format has
pub round_low : (f : Format) (s : Bool) (num den : ℕ) → 0 < den → num * 2 ^ low f < 2 ^ prec f * den → round f s num den ≡ units f s (closest (num * 2 ^ low f) den) 0
round_low f s num den dp hi =
    let n = num * 2 ^ low f in
    let kk : drop (prec f) n den ≡ 0 = none (size (n / den)) (prec f) (size-le (n / den) (prec f) ((div-lt_iff_lt-mul dp).1 hi)) in
    round_is f s num den ∙ ap (λ (x : ℕ). units f s (closest n (den * 2 ^ x)) x) kk ∙ ap (λ (x : ℕ). units f s (closest n x) 0) (mul-one den)
  where
    none : (z p : ℕ) → z ≤ p → z - p ≡ 0
    none z p h = omega arith

-- ---- an even number more
nearest_shift : (q j : ℕ) (o : Ordering) → nearest (q + 2 * j) o ≡ nearest q o + 2 * j
nearest_shift q j Ordering.lt = refl
nearest_shift q j Ordering.eq = go q j
  where
    go : (q j : ℕ) → q + 2 * j + (q + 2 * j) % 2 ≡ q + q % 2 + 2 * j
    go q j = omega arith
nearest_shift q j Ordering.gt = go q j
  where
    go : (q j : ℕ) → suc (q + 2 * j) ≡ suc q + 2 * j
    go q j = omega arith

pub closest_shift : (m d j : ℕ) → 0 < d → closest (m + 2 * j * d) d ≡ closest m d + 2 * j
closest_shift m d j D =
    ap (λ (x : ℕ). nearest x (compare ((m + 2 * j * d) % d * 2) d)) (add-mul-div_right m (2 * j) D)
    ∙ ap (λ (x : ℕ). nearest (m / d + 2 * j) (compare (x * 2) d)) (add-mul-mod_self_right m (2 * j) d)
    ∙ nearest_shift (m / d) j (compare (m % d * 2) d)

-- ---- to the nearest multiple of 2 ^ 29, as the code has it
pub closest_29 : (a : ℕ) → closest a 536870912 ≡ (a + 268435455 + a / 536870912 % 2) / 536870912
closest_29 a = go (compare (a % 536870912 * 2) 536870912) (cmp (a % 536870912 * 2) 536870912)
  where
    go : (o : Ordering) → Cmp o (a % 536870912 * 2) 536870912 → nearest (a / 536870912) o ≡ (a + 268435455 + a / 536870912 % 2) / 536870912
    go Ordering.lt c = omega arith
    go Ordering.eq c = omega arith
    go Ordering.gt c = omega arith

-- ---- a binary32 result's pattern
low_pattern : (v : Float) (q : ℕ) → HasValue v false q (2 ^ 149) → q < 16777216 → to_bits binary32 v ≡ q
unfolding to_bits
low_pattern nan q h hi = absurd h
low_pattern (inf s) q h hi = absurd h
low_pattern (fin true m e) q h hi = absurd (true≢false h.0)
low_pattern (fin false m e) q h hi =
    let n_is : m * up e * 2 ^ 149 / down e ≡ q = ap (λ (x : ℕ). x / down e) h.1 ∙ mul-div_cancel q (down_pos e) in
    let kk : size q - 24 ≡ 0 = none (size q) (size-le q 24 hi) in
    ap (λ (n : ℕ). 0 + (size n - 24) * 8388608 + n / 2 ^ (size n - 24)) n_is ∙ ap (λ (x : ℕ). 0 + x * 8388608 + q / 2 ^ x) kk ∙ tidy q
  where
    none : (z : ℕ) → z ≤ 24 → z - 24 ≡ 0
    none z h = omega arith

    tidy : (q : ℕ) → 0 + 0 * 8388608 + q / 1 ≡ q
    tidy q = omega arith

-- no digit dropped
pub units_low : (q : ℕ) → q < 16777216 → units binary32 false q 0 ≡ of_bits binary32 q
units_low q h =
    let v = units binary32 false q 0 in
    let o : q * 2 ^ 0 < overflow binary32 = lt_of_le_of_lt (le_of_eq (mul-one q)) (lt_of_lt_of_le h (pow_mono {i = 24} {j = 277} (lit≤ tt))) in
    sym (of_bits-to_bits binary32 v (units_fits binary32 q 0 (le_of_lt h) o))
    ∙ ap (of_bits binary32) (low_pattern v q (subst (λ (x : ℕ). HasValue v false x (2 ^ 149)) (mul-one q) (units_val binary32 false q 0 o)) h)

-- all digits in use, or the next power of two
over : (q k : ℕ) → overflow binary32 ≤ q * 2 ^ k → units binary32 false q k ≡ inf false
unfolding units
over q k h = go (ltb (q * 2 ^ k) (overflow binary32)) (ltb→lt (q * 2 ^ k) (overflow binary32))
  where
    go : (b : Bool) → (T b → q * 2 ^ k < overflow binary32) → cond b (odd 25 false q k 149) (inf false) ≡ inf false
    go true y = absurd (not-le_of_lt (y tt) h)
    go false y = refl

inf_pattern : of_bits binary32 2139095040 ≡ inf false
unfolding of_bits
inf_pattern = refl

pub units_pattern : (q k : ℕ) → 8388608 ≤ q → q ≤ 16777216 → k < 254 → units binary32 false q k ≡ of_bits binary32 (k * 8388608 + q)
units_pattern q k lo hi h = go (ltb (q * 2 ^ k) (overflow binary32)) (ltb→lt (q * 2 ^ k) (overflow binary32)) (nltb→le (q * 2 ^ k) (overflow binary32))
  where
    room : (k : ℕ) → k < 254 → k < 253 → 24 + k < 277
    room k a b = omega arith

    last : (k : ℕ) → k < 254 → 253 ≤ k → k ≡ 253
    last k a b = omega arith

    less : (q k : ℕ) → k < 254 → q < 16777216 → q * 2 ^ k < overflow binary32
    less q k h l = lt_of_lt_of_le (shl_lt 24 k l) (pow_mono (most k h))
      where
        most : (k : ℕ) → k < 254 → 24 + k ≤ 277
        most k h = omega arith

    full : overflow binary32 ≤ q * 2 ^ k → q ≡ 16777216
    full o = le_antisymm hi (le_of_not_lt 16777216 q (λ (l : q < 16777216). not-le_of_lt (less q k h l) o))
      where
        le_of_not_lt : (x y : ℕ) → (y < x → ⊥) → x ≤ y
        le_of_not_lt x y h = omega arith

    highest : overflow binary32 ≤ 16777216 * 2 ^ k → k ≡ 253
    highest o = last k h (le_of_not_lt 253 k (λ (l : k < 253). not-le_of_lt (lt_of_le_of_lt (le_of_eq (sym (pow-add 2 24 k))) (pow-lt (room k h l))) o))
      where
        le_of_not_lt : (x y : ℕ) → (y < x → ⊥) → x ≤ y
        le_of_not_lt x y h = omega arith

    go : (t : Bool) → (T t → q * 2 ^ k < overflow binary32) → (T (not t) → overflow binary32 ≤ q * 2 ^ k) → units binary32 false q k ≡ of_bits binary32 (k * 8388608 + q)
    go true y n = units_bits binary32 q k lo hi (y tt)
    go false y n =
        let e : q ≡ 16777216 = full (n tt) in
        let f : k ≡ 253 = highest (subst (λ (x : ℕ). overflow binary32 ≤ x * 2 ^ k) e (n tt)) in
        over q k (n tt) ∙ sym inf_pattern ∙ ap (of_bits binary32) (sym (ap (λ (x : ℕ). x * 8388608 + q) f ∙ ap (λ (x : ℕ). 253 * 8388608 + x) e))

pub units_over : (q k : ℕ) → 8388608 ≤ q → 254 ≤ k → units binary32 false q k ≡ inf false
units_over q k lo h = over q k (le_trans (pow_mono (room k h)) (le_trans (le_of_eq (pow-add 2 23 k)) (mul-le-mul_right (2 ^ k) lo)))
  where
    room : (k : ℕ) → 254 ≤ k → 277 ≤ 23 + k
    room k h = omega arith

-- ---- the number that a pattern of binary64 stands for, in units of 2 ^ -1074
value_0 : (a : ℕ) → a < 4503599627370496 → HasValue (of_bits binary64 a) false a (2 ^ 1074)
value_0 a h = subst (λ (x : ℕ). HasValue (of_bits binary64 a) false x (2 ^ 1074)) (mul-one (a % 4503599627370496) ∙ mod-eq_of_lt h) (value_low binary64 a (omega arith) (omega arith))

abbrev field : ℕ → ℕ
field a = a / 4503599627370496

abbrev digits : ℕ → ℕ
digits a = 4503599627370496 + a % 4503599627370496

value_1 : (a : ℕ) → 4503599627370496 ≤ a → a < 9218868437227405312 → HasValue (of_bits binary64 a) false (digits a * 2 ^ (field a - 1)) (2 ^ 1074)
value_1 a h k = value_high binary64 a (omega arith) (field a - 1) (omega arith) (omega arith)

pub narrow_at : (f : Format) (x : Float) (A C : ℕ) → 0 < C → HasValue x false A C → narrow_to f x ≡ round f false A C
unfolding narrow_to
narrow_at f nan A C c h = absurd h
narrow_at f (inf s) A C c h = absurd h
narrow_at f (fin true m e) A C c h = absurd (true≢false h.0)
narrow_at f (fin false m e) A C c h = round_same f false (m * up e) (down e) A C (down_pos e) c h.1

-- ---- from 2 ^ -126 on: the pattern to the nearest multiple of 2 ^ 29
module _ (a : ℕ) (lo : 4039728865751334912 ≤ a) (hi : a < 9218868437227405312) where
  abbrev M : ℕ
  M = digits a

  abbrev k : ℕ
  k = field a - 897

  kept_here : ℕ
  kept_here = closest M 536870912

  big_is : narrow_to binary32 (of_bits binary64 a) ≡ units binary32 false kept_here k
  unfolding kept_here
  big_is =
      narrow_at binary32 (of_bits binary64 a) (M * 2 ^ (field a - 1)) (2 ^ 1074) (pow_pos 1074) (value_1 a (le_trans (lit≤ tt) lo) hi)
      ∙ round_at binary32 false (M * 2 ^ (field a - 1)) (2 ^ 1074) M 536870912 k (pow_pos 1074) (lit< tt) same (some a) (most a)
    where
      some : (a : ℕ) → 4503599627370496 ≤ 4503599627370496 + a % 4503599627370496
      some a = omega arith

      most : (a : ℕ) → 4503599627370496 + a % 4503599627370496 < 9007199254740992
      most a = omega arith

      exps : (a : ℕ) → 4039728865751334912 ≤ a → a / 4503599627370496 - 1 + 178 ≡ a / 4503599627370496 - 897 + 1074
      exps a h = omega arith

      same : M * 2 ^ (field a - 1) * 2 ^ 149 * 2 ^ 29 ≡ M * 2 ^ k * 2 ^ 1074
      same =
          mul_assoc (M * 2 ^ (field a - 1)) (2 ^ 149) (2 ^ 29)
          ∙ mul_assoc M (2 ^ (field a - 1)) (2 ^ 178)
          ∙ ap (λ (x : ℕ). M * x) (sym (pow-add 2 (field a - 1) 178) ∙ ap (λ (x : ℕ). 2 ^ x) (exps a lo) ∙ pow-add 2 k 1074)
          ∙ sym (mul_assoc M (2 ^ k) (2 ^ 1074))

  kept_lo : 8388608 ≤ kept_here
  unfolding kept_here
  kept_lo = le_trans (go a) (nearest-ge (M / 536870912) (compare (M % 536870912 * 2) 536870912))
    where
      go : (a : ℕ) → 8388608 ≤ (4503599627370496 + a % 4503599627370496) / 536870912
      go a = omega arith

  kept_hi : kept_here ≤ 16777216
  unfolding kept_here
  kept_hi = le_trans (nearest-le (M / 536870912) (compare (M % 536870912 * 2) 536870912)) (go a)
    where
      go : (a : ℕ) → suc ((4503599627370496 + a % 4503599627370496) / 536870912) ≤ 16777216
      go a = omega arith

  -- what the code computes
  whole : closest a 536870912 ≡ kept_here + 2 * ((field a - 1) * 4194304)
  unfolding kept_here
  whole = ap (λ (x : ℕ). closest x 536870912) (parts a lo) ∙ closest_shift M 536870912 ((field a - 1) * 4194304) (lit< tt)
    where
      parts : (a : ℕ) → 4039728865751334912 ≤ a → a ≡ 4503599627370496 + a % 4503599627370496 + 2 * ((a / 4503599627370496 - 1) * 4194304) * 536870912
      parts a h = omega arith

  shifted : (a + 268435455 + a / 536870912 % 2) / 536870912 ≡ k * 8388608 + kept_here + 7516192768
  shifted = sym (closest_29 a) ∙ whole ∙ go a kept_here lo
    where
      go : (a c : ℕ) → 4039728865751334912 ≤ a → c + 2 * ((a / 4503599627370496 - 1) * 4194304) ≡ (a / 4503599627370496 - 897) * 8388608 + c + 7516192768
      go a c h = omega arith

  pub big_pattern : a < 5183643171103440896 → narrow_to binary32 (of_bits binary64 a) ≡ of_bits binary32 ((a + 268435455 + a / 536870912 % 2) / 536870912 - 7516192768)
  big_pattern h =
      big_is ∙ units_pattern kept_here k kept_lo kept_hi (go a h) ∙ ap (of_bits binary32) (sym (ap (λ (x : ℕ). x - 7516192768) shifted ∙ back (k * 8388608 + kept_here)))
    where
      go : (a : ℕ) → a < 5183643171103440896 → a / 4503599627370496 - 897 < 254
      go a h = omega arith

      back : (x : ℕ) → x + 7516192768 - 7516192768 ≡ x
      back x = omega arith

  pub big_small : a < 5183643171103440896 → (a + 268435455 + a / 536870912 % 2) / 536870912 - 7516192768 ≤ 2139095040
  big_small h = le_trans (le_of_eq (ap (λ (x : ℕ). x - 7516192768) shifted)) (go a kept_here h kept_hi)
    where
      go : (a c : ℕ) → a < 5183643171103440896 → c ≤ 16777216 → (a / 4503599627370496 - 897) * 8388608 + c + 7516192768 - 7516192768 ≤ 2139095040
      go a c h l = omega arith

  pub big_over : 5183643171103440896 ≤ a → narrow_to binary32 (of_bits binary64 a) ≡ of_bits binary32 2139095040
  big_over h = big_is ∙ units_over kept_here k kept_lo (go a h) ∙ sym inf_pattern
    where
      go : (a : ℕ) → 5183643171103440896 ≤ a → 254 ≤ a / 4503599627370496 - 897
      go a h = omega arith

-- ---- below 2 ^ -126: a sum with 2 ^ -97, whose last digit is 2 ^ -149
abbrev pub lift : Float
lift = fin false 1 (negsuc 96)

pub small_value : (a : ℕ) → a < 4039728865751334912 → (A : ℕ) × HasValue (of_bits binary64 a) false A (2 ^ 1074) × (A < 2 ^ 948)
small_value a h = go (ltb a 4503599627370496) (ltb→lt a 4503599627370496) (nltb→le a 4503599627370496)
  where
    most : (a : ℕ) → 4503599627370496 + a % 4503599627370496 < 9007199254740992
    most a = omega arith

    few : (a : ℕ) → a < 4039728865751334912 → 53 + (a / 4503599627370496 - 1) ≤ 948
    few a h = omega arith

    go : (t : Bool) → (T t → a < 4503599627370496) → (T (not t) → 4503599627370496 ≤ a) → (A : ℕ) × HasValue (of_bits binary64 a) false A (2 ^ 1074) × (A < 2 ^ 948)
    go true y n = (a, value_0 a (y tt), lt_of_lt_of_le (y tt) (pow_mono {i = 52} {j = 948} (lit≤ tt)))
    go false y n = (digits a * 2 ^ (field a - 1), value_1 a (n tt) (lt_of_lt_of_le h (lit≤ tt)), lt_of_lt_of_le (shl_lt 53 (field a - 1) (most a)) (pow_mono (few a h)))

-- over variables: `omega` takes no number of more than 38 digits
raised : (A P Q D E : ℕ) → Q ≡ E * D * P → (A * P + 1 * Q) * Q * D ≡ (A + E * D) * D * (Q * P)
raised A P Q D E e =
    ap (λ (z : ℕ). (A * P + z) * Q * D) (one-mul Q ∙ e) ∙ ap (λ (z : ℕ). z * Q * D) (sym (add-mul A (E * D) P)) ∙ shuffle (A + E * D) P Q D
  where
    shuffle : (S P Q D : ℕ) → S * P * Q * D ≡ S * D * (Q * P)
    shuffle S P Q D = simp (mul_assoc, mul_comm, mul_left_comm)

more : (A B : ℕ) → B ≤ A + B
more A B = omega arith

under_twice : (A B : ℕ) → A < B → A + B < 2 * B
under_twice A B h = omega arith

valued : (x : Float) (s : Bool) (a c : ℕ) → HasValue x s a c → T (not (is_nan x))
unfolding is_nan
valued nan s a c h = absurd h
valued (inf t) s a c h = absurd h
valued (fin t m e) s a c h = tt

module _ (x : Float) (A : ℕ) (v : HasValue x false A (2 ^ 1074)) (small : A < 2 ^ 948) where
  abbrev t : Float
  t = add binary64 x lift

  n : ℕ
  n = closest A (2 ^ 925)

  n_small : n ≤ 8388608
  unfolding n
  n_small = le_trans (nearest-le (A / 2 ^ 925) (compare (A % 2 ^ 925 * 2) (2 ^ 925))) ((div-lt_iff_lt-mul (pow_pos 925)).1 small)

  abbrev M' : ℕ
  M' = A + 2 * 2 ^ 51 * 2 ^ 925

  t_is : t ≡ units binary64 false (n + 4503599627370496) 925
  unfolding n
  t_is =
      add_at binary64 x lift A (2 ^ 1074) 1 (2 ^ 97) (pow_pos 1074) (pow_pos 97) v (refl, refl)
      ∙ round_at binary64 false (A * 2 ^ 97 + 1 * 2 ^ 1074) (2 ^ 1074 * 2 ^ 97) M' (2 ^ 925) 925 (mul-pos (pow_pos 1074) (pow_pos 97)) (pow_pos 925) (same A) (lo A) (hi A small)
      ∙ ap (λ (z : ℕ). units binary64 false z 925) (closest_shift A (2 ^ 925) (2 ^ 51) (pow_pos 925))
    where
      same : (A : ℕ) → (A * 2 ^ 97 + 1 * 2 ^ 1074) * 2 ^ 1074 * 2 ^ 925 ≡ (A + 2 * 2 ^ 51 * 2 ^ 925) * 2 ^ 925 * (2 ^ 1074 * 2 ^ 97)
      same A = raised A (2 ^ 97) (2 ^ 1074) (2 ^ 925) (2 * 2 ^ 51) refl

      lo : (A : ℕ) → 2 ^ 52 * 2 ^ 925 ≤ A + 2 * 2 ^ 51 * 2 ^ 925
      lo A = more A (2 ^ 977)

      hi : (A : ℕ) → A < 2 ^ 948 → A + 2 * 2 ^ 51 * 2 ^ 925 < 2 ^ 53 * 2 ^ 925
      hi A h = under_twice A (2 ^ 977) (lt_of_lt_of_le h (pow_mono {i = 948} {j = 977} (lit≤ tt)))

  t_value : HasValue t false ((n + 4503599627370496) * 2 ^ 925) (2 ^ 1074)
  t_value = subst (λ (z : Float). HasValue z false ((n + 4503599627370496) * 2 ^ 925) (2 ^ 1074)) (sym t_is) (units_val binary64 false (n + 4503599627370496) 925 (lt_of_lt_of_le (shl_lt 53 925 (hi n n_small)) (pow_mono {i = 978} {j = 2098} (lit≤ tt))))
    where
      hi : (n : ℕ) → n ≤ 8388608 → n + 4503599627370496 < 9007199254740992
      hi n h = omega arith

  t_bits : to_bits binary64 t ≡ 4170333254945079296 + n
  t_bits =
      bits_value binary64 t (n + 4503599627370496) 925 t_value (lo n) (hi n n_small)
      ∙ tidy n
    where
      lo : (n : ℕ) → 4503599627370496 ≤ n + 4503599627370496
      lo n = omega arith

      hi : (n : ℕ) → n ≤ 8388608 → n + 4503599627370496 < 9007199254740992
      hi n h = omega arith

      tidy : (n : ℕ) → 925 * 4503599627370496 + (n + 4503599627370496) ≡ 4170333254945079296 + n
      tidy n = omega arith

  pub no_nan : T (not (is_nan t))
  no_nan = valued t false ((n + 4503599627370496) * 2 ^ 925) (2 ^ 1074) t_value

  pub small_some : 4170333254945079296 ≤ to_bits binary64 t
  small_some = go (to_bits binary64 t) n t_bits
    where
      go : (b n : ℕ) → b ≡ 4170333254945079296 + n → 4170333254945079296 ≤ b
      go b n h = omega arith

  left : to_bits binary64 t - 4170333254945079296 ≡ n
  left = go (to_bits binary64 t) n t_bits
    where
      go : (b n : ℕ) → b ≡ 4170333254945079296 + n → b - 4170333254945079296 ≡ n
      go b n h = omega arith

  pub small_few : to_bits binary64 t - 4170333254945079296 ≤ 8388608
  small_few = le_trans (le_of_eq left) n_small

  pub small_pattern : narrow_to binary32 x ≡ of_bits binary32 (to_bits binary64 t - 4170333254945079296)
  unfolding n
  small_pattern =
      narrow_at binary32 x A (2 ^ 1074) (pow_pos 1074) v
      ∙ round_low binary32 false A (2 ^ 1074) (pow_pos 1074) (hi A small)
      ∙ ap (λ (z : ℕ). units binary32 false z 0) (closest_same (A * 2 ^ 149) (2 ^ 1074) A (2 ^ 925) (pow_pos 1074) (pow_pos 925) (mul_assoc A (2 ^ 149) (2 ^ 925)))
      ∙ units_low (closest A (2 ^ 925)) (lt_of_le_of_lt n_small (lit< tt))
      ∙ ap (of_bits binary32) (sym left)
    where
      hi : (A : ℕ) → A < 2 ^ 948 → A * 2 ^ 149 < 2 ^ 24 * 2 ^ 1074
      hi A h = lt_of_lt_of_le (mul-lt-mul_of_pos_right h (pow_pos 149)) (pow_mono {i = 1097} {j = 1098} (lit≤ tt))

-- ---- the infinity
pub infinite : narrow_to binary32 (of_bits binary64 9218868437227405312) ≡ of_bits binary32 2139095040
unfolding narrow_to of_bits
infinite = refl

pub top_pattern : (a : ℕ) → a ≤ 9218868437227405312 → 5183643171103440896 ≤ a → narrow_to binary32 (of_bits binary64 a) ≡ of_bits binary32 2139095040
top_pattern a h k = go (eq-or-lt_of_le h)
  where
    go : (a ≡ 9218868437227405312) ⊎ (a < 9218868437227405312) → narrow_to binary32 (of_bits binary64 a) ≡ of_bits binary32 2139095040
    go (inl e) = subst (λ (x : ℕ). narrow_to binary32 (of_bits binary64 x) ≡ of_bits binary32 2139095040) (sym e) infinite
    go (inr l) = big_over a (le_trans (lit≤ tt) k) l k

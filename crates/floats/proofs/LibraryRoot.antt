-- The library's square root, which is taken to so many binary places that nothing lies between it and what is rounded, is the one that compares squares. Assumes nothing.
use Rattle.std.proofs.Common.{◌≡◌, ℕ, zero, suc, ◌+◌, ◌-◌, ◌*◌, ◌/◌, ◌%◌, ◌^◌, ◌<◌, ◌≤◌, Bool, true, false, cond, T, eqb, sym, refl, ap, ◌∙◌, subst, le_trans, le_of_eq, lt_of_lt_of_le, lt_of_le_of_lt, mul-le-mul_right, mul_assoc, mul_comm, mul_left_comm, mul-lt-mul_of_pos_right, mul-pos, mul-div_cancel, div-add-mod', eqb→eq, add-one, add-mul, one-mul, zero-lt-suc, lit≤, pow-suc, ℤ, pos, negsuc, le_antisymm, le_of_suc-le-suc, div-lt_iff_lt-mul, le-div_iff_mul-le, mul_right_comm, arith, pow_pos, pow-add}
use Rattle.std.proofs.Math.Nat.{div-div-eq-div-mul}
use Prim.Native.Nat.{compare, Ordering}
use native.Mathlib.Nat.{mul-mul-mul_comm}
use lib.Dec.{eqb_refl}
use lib.Ieee.{Float, nan, inf, fin, Format, binary32, binary64, prec, low, up, down, size, nearest, units, round, fits, root_twice, root_below, hid, odd, of_bits, to_bits}
use lib.Ieee.Digits.{size-lt, size-le}
use lib.Ieee.Fits.{up_pos, down_pos, two, two-le_pos}
use lib.Ieee.Nearest.{closest}
use lib.Ieee.Root.{whole_part}
use Rattle.floats.specs.Root.{root, round_root, sqrt_of}
use Rattle.floats.proofs.Closest.{Cmp, cmp}
use Rattle.floats.proofs.RoundedRoot.{sq_suc, sq_le, sq_lt_back, four, Root, root_is, cmp_cancel, core, round_root_is}
use Rattle.floats.proofs.Fractions.{size_gt, round_at}
use Rattle.floats.proofs.Units.{in_units_lem}
use lib.Ieee as Ieee

-- ---- `compare`
cmp_same : (o : Ordering) (a b : ℕ) → Cmp o a b → compare a b ≡ o
cmp_same o a b c = go (compare a b) o (cmp a b) c
  where
    go : (p o : Ordering) → Cmp p a b → Cmp o a b → p ≡ o
    go Ordering.lt Ordering.lt h k = refl
    go Ordering.lt Ordering.eq h k = absurd (omega arith)
    go Ordering.lt Ordering.gt h k = absurd (omega arith)
    go Ordering.eq Ordering.lt h k = absurd (omega arith)
    go Ordering.eq Ordering.eq h k = refl
    go Ordering.eq Ordering.gt h k = absurd (omega arith)
    go Ordering.gt Ordering.lt h k = absurd (omega arith)
    go Ordering.gt Ordering.eq h k = absurd (omega arith)
    go Ordering.gt Ordering.gt h k = refl

cmp_times : (o : Ordering) (a b z : ℕ) → 0 < z → Cmp o a b → Cmp o (a * z) (b * z)
cmp_times Ordering.lt a b z Z c = mul-lt-mul_of_pos_right c Z
cmp_times Ordering.eq a b z Z c = ap (λ (x : ℕ). x * z) c
cmp_times Ordering.gt a b z Z c = mul-lt-mul_of_pos_right c Z

-- ---- twice the root of n, with half a place more where it goes on
abbrev twice : ℕ → ℕ → ℕ
twice n r = 2 * r + cond (eqb (r * r) n) 0 1

twice_is : (n : ℕ) → root_twice n ≡ twice n (root_below (size n) n)
unfolding root_twice
twice_is n = refl

whole : (n : ℕ) → Root n (root_below (size n) n)
whole n = let h = whole_part n in (h.0, subst (λ (x : ℕ). n < x * x) (add-one (root_below (size n) n)) h.1)

twice_low : (n r : ℕ) → 2 * r ≤ twice n r
twice_low n r = omega arith

twice_high : (n r : ℕ) → twice n r ≤ 2 * r + 1
twice_high n r = go (eqb (r * r) n)
  where
    go : (b : Bool) → 2 * r + cond b 0 1 ≤ 2 * r + 1
    go true = omega arith
    go false = omega arith

sq_lt : {a b : ℕ} → a < b → a * a < b * b
sq_lt {a} {b} h = let m = sq_le h in let e = sq_suc a in omega arith

not_lt : {a b : ℕ} → (a < b → ⊥) → b ≤ a
not_lt h = omega arith

-- it is above, at or below a whole number as the root is
module _ (n r t : ℕ) (h : Root n r) where
  at_most : t * t < suc r * suc r → t ≤ r
  at_most l = let m = sq_lt_back t (suc r) l in omega arith

  tested : (o : Ordering) → Cmp o n (t * t) → Cmp o (twice n r) (2 * t)
  tested Ordering.lt c =
      let l : r < t = sq_lt_back r t (lt_of_le_of_lt h.0 c) in
      let m = twice_high n r in
      omega arith
  tested Ordering.eq c = go (eqb (r * r) n) (λ e. subst (λ (x : ℕ). T (eqb x n)) (sym e) (eqb_refl n))
    where
      least : t ≤ r
      least = at_most (subst (λ (x : ℕ). x < suc r * suc r) c h.1)

      most : r ≤ t
      most = not_lt (λ (l : t < r). let m = sq_lt l in let k = h.0 in let e : n ≡ t * t = c in omega arith)

      same : r ≡ t
      same = le_antisymm most least

      go : (b : Bool) → (r * r ≡ n → T b) → 2 * r + cond b 0 1 ≡ 2 * t
      go true f = let e = same in omega arith
      go false f = absurd (f (ap (λ (x : ℕ). x * x) same ∙ sym c))
  tested Ordering.gt c = go (eqb (r * r) n) (eqb→eq (r * r) n)
    where
      least : t ≤ r
      least = at_most (lt_of_lt_of_le c (let l = h.1 in omega arith))

      go : (b : Bool) → (T b → r * r ≡ n) → 2 * t < 2 * r + cond b 0 1
      go true f = let l : t < r = sq_lt_back t r (subst (λ (x : ℕ). t * t < x) (sym (f tt)) c) in omega arith
      go false f = let l = least in omega arith

four_i : (a i : ℕ) → a * (4 * i) ≡ 2 * (a * (2 * i))
four_i a i = simp mul_left_comm (omega arith)

-- ---- n is V (2 i)², and w is the whole part of √V
module _ (V i r : ℕ) (I : 0 < i) (h : Root (V * (2 * i * (2 * i))) r) where
  abbrev n : ℕ
  n = V * (2 * i * (2 * i))

  asked : (o : Ordering) (E : ℕ) → Cmp o (4 * V) (E * E) → Cmp o (twice n r) (2 * (E * i))
  asked o E c = tested n r (E * i) h o (subst2 (cmp_times o (4 * V) (E * E) (i * i) (mul-pos I I) c))
    where
      left : 4 * V * (i * i) ≡ n
      left = go (i * i) refl
        where
          go : (s : ℕ) → s ≡ i * i → 4 * V * s ≡ V * (2 * i * (2 * i))
          go s e = ap (λ (x : ℕ). 4 * V * x) e ∙ simp (mul_assoc, mul_left_comm) (omega arith)

      subst2 : Cmp o (4 * V * (i * i)) (E * E * (i * i)) → Cmp o n (E * i * (E * i))
      subst2 c = subst (λ (x : ℕ). Cmp o n x) (mul-mul-mul_comm E E i i) (subst (λ (x : ℕ). Cmp o x (E * E * (i * i))) left c)

  module _ (w : ℕ) (g : Root V w) where
    low_part : w * (4 * i) ≤ twice n r
    low_part =
        let a : w * (2 * i) * (w * (2 * i)) ≤ n = le_trans (le_of_eq (mul-mul-mul_comm w (2 * i) w (2 * i))) (mul-le-mul_right (2 * i * (2 * i)) g.0) in
        let b : w * (2 * i) < suc r = sq_lt_back (w * (2 * i)) (suc r) (lt_of_le_of_lt a h.1) in
        let c = twice_low n r in
        let d : w * (4 * i) ≡ 2 * (w * (2 * i)) = four_i w i in
        omega arith

    high_part : twice n r < suc w * (4 * i)
    high_part =
        let a : n < suc w * (2 * i) * (suc w * (2 * i)) = lt_of_lt_of_le (mul-lt-mul_of_pos_right g.1 (mul-pos (twice_pos I) (twice_pos I))) (le_of_eq (sym (mul-mul-mul_comm (suc w) (2 * i) (suc w) (2 * i)))) in
        let b : r < suc w * (2 * i) = sq_lt_back r (suc w * (2 * i)) (lt_of_le_of_lt h.0 a) in
        let c = twice_high n r in
        let d : suc w * (4 * i) ≡ 2 * (suc w * (2 * i)) = four_i (suc w) i in
        omega arith
      where
        twice_pos : {i : ℕ} → 0 < i → 0 < 2 * i
        twice_pos h = omega arith

div_between : (a b w : ℕ) → 0 < b → w * b ≤ a → a < suc w * b → a / b ≡ w
div_between a b w B l h = le_antisymm (le_of_suc-le-suc ((div-lt_iff_lt-mul B).1 h)) ((le-div_iff_mul-le B).1 l)

half : (o : Ordering) (a q u r z : ℕ) → q * u + r ≡ a → 2 * z ≡ 2 * (q * u) + u → Cmp o a z → Cmp o (r * 2) u
half Ordering.lt a q u r z e t c = let l : a < z = c in omega arith
half Ordering.eq a q u r z e t c = let l : a ≡ z = c in omega arith
half Ordering.gt a q u r z e t c = let l : z < a = c in omega arith

-- ---- half of the places that the library's root has past the format's
abbrev places : Format → ℕ
places f = 2 ^ (2270 - low f)

all_places : (f : Format) → 2 ^ 4542 ≡ 4 ^ low f * (2 * places f * (2 * places f))
all_places binary32 = refl
all_places binary64 = refl

more_places : (f : Format) → 2 ^ 2272 ≡ 2 ^ low f * (4 * places f)
more_places binary32 = refl
more_places binary64 = refl

-- num / den is V in units of the format's smallest value, squared
module _ (f : Format) (num den V : ℕ) (D : 0 < den) (g : num * 4 ^ low f ≡ V * den) (some : 2 ^ (prec f - 1) * 2 ^ (prec f - 1) ≤ V) where
  abbrev p : ℕ
  p = prec f

  abbrev i : ℕ
  i = places f

  abbrev N : ℕ
  N = V * (2 * i * (2 * i))

  abbrev r : ℕ
  r = root_below (size N) N

  abbrev w : ℕ
  w = root V

  abbrev k : ℕ
  k = size w - p

  abbrev u : ℕ
  u = 2 ^ k

  abbrev q : ℕ
  q = w / u

  abbrev U : ℕ
  U = 4 * i * u

  I : 0 < i
  I = pow_pos (2270 - low f)

  four_pos : 0 < 4 * i
  four_pos = go i I
    where
      go : (i : ℕ) → 0 < i → 0 < 4 * i
      go i h = omega arith

  taken : root_twice (num * 2 ^ 4542 / den) ≡ twice N r
  taken =
      ap root_twice
      (ap (λ (x : ℕ). x / den)
      (ap (λ (x : ℕ). num * x) (all_places f) ∙ sym (mul_assoc num (4 ^ low f) (2 * i * (2 * i))) ∙ ap (λ (x : ℕ). x * (2 * i * (2 * i))) g ∙ mul_right_comm V den (2 * i * (2 * i)))
      ∙ mul-div_cancel N D)
      ∙ twice_is N

  -- w has p + k digits
  w_some : 2 ^ (p - 1) < suc w
  w_some = sq_lt_back (2 ^ (p - 1)) (suc w) (lt_of_le_of_lt some (root_is V).1)

  digits : p + k ≡ size w
  digits = go p (size w) (two-le_pos p (two f)) (size_gt w (p - 1) (le_of_suc-le-suc w_some))
    where
      go : (p z : ℕ) → 0 < p → p - 1 < z → p + (z - p) ≡ z
      go p z h l = omega arith

  w_low : 2 ^ (p - 1) * u ≤ w
  w_low = le_trans (le_of_eq (sym (pow-add 2 (p - 1) k))) (not_lt (λ (l : w < 2 ^ (p - 1 + k)). no p k (size w) (two-le_pos p (two f)) digits (size-le w (p - 1 + k) l)))
    where
      no : (p k z : ℕ) → 0 < p → p + k ≡ z → z ≤ p - 1 + k → ⊥
      no p k z h e l = omega arith

  w_high : w < 2 ^ p * u
  w_high = lt_of_lt_of_le (size-lt w) (le_of_eq (ap (λ (x : ℕ). 2 ^ x) (sym digits) ∙ pow-add 2 p k))

  turned : (a : ℕ) → a * u * (4 * i) ≡ a * U
  turned a = mul_assoc a u (4 * i) ∙ ap (λ (x : ℕ). a * x) (mul_comm u (4 * i))

  least : 2 ^ (p - 1) * U ≤ twice N r
  least = le_trans (le_of_eq (sym (turned (2 ^ (p - 1))))) (le_trans (mul-le-mul_right (4 * i) w_low) (low_part V i r I (whole N) w (root_is V)))

  most : twice N r < 2 ^ p * U
  most = lt_of_lt_of_le (high_part V i r I (whole N) w (root_is V)) (le_trans (mul-le-mul_right (4 * i) w_high) (le_of_eq (turned (2 ^ p))))

  rounded : round f false (twice N r) (2 ^ 2272) ≡ units f false (closest (twice N r) U) k
  rounded = round_at f false (twice N r) (2 ^ 2272) (twice N r) U k (pow_pos 2272) (mul-pos four_pos (pow_pos k)) (shuffle (twice N r) (2 ^ low f) (4 * i) u ∙ ap (λ (x : ℕ). twice N r * u * x) (sym (more_places f))) least most
    where
      shuffle : (t a b c : ℕ) → t * a * (b * c) ≡ t * c * (a * b)
      shuffle t a b c = simp (mul_assoc, mul_comm, mul_left_comm)

  q_is : twice N r / U ≡ q
  q_is = sym (div-div-eq-div-mul (twice N r) (4 * i) u) ∙ ap (λ (x : ℕ). x / u) (div_between (twice N r) (4 * i) w four_pos (low_part V i r I (whole N) w (root_is V)) (high_part V i r I (whole N) w (root_is V)))

  abbrev S : ℕ
  S = (2 * q + 1) * (2 * q + 1)

  abbrev o : Ordering
  o = compare (4 * (num * 4 ^ low f)) (S * 4 ^ k * den)

  order : Cmp o (twice N r % U * 2) U
  order =
      let c0 : Cmp o (4 * (num * 4 ^ low f)) (S * 4 ^ k * den) = cmp (4 * (num * 4 ^ low f)) (S * 4 ^ k * den) in
      let c1 : Cmp o (4 * V * den) (S * 4 ^ k * den) = subst (λ (x : ℕ). Cmp o x (S * 4 ^ k * den)) (ap (λ (x : ℕ). 4 * x) g ∙ sym (mul_assoc 4 V den)) c0 in
      let c2 : Cmp o (4 * V) (S * 4 ^ k) = cmp_cancel o (4 * V) (S * 4 ^ k) den D c1 in
      let c3 : Cmp o (4 * V) ((2 * q + 1) * u * ((2 * q + 1) * u)) = subst (λ (x : ℕ). Cmp o (4 * V) x) (ap (λ (x : ℕ). S * x) (four k) ∙ sym (mul-mul-mul_comm (2 * q + 1) u (2 * q + 1) u)) c2 in
      half o (twice N r) q U (twice N r % U) (2 * ((2 * q + 1) * u * i)) (ap (λ (x : ℕ). x * U + twice N r % U) (sym q_is) ∙ div-add-mod' (twice N r) U) (doubled q u i) (asked V i r I (whole N) o ((2 * q + 1) * u) c3)
    where
      doubled : (q u i : ℕ) → 2 * (2 * ((2 * q + 1) * u * i)) ≡ 2 * (q * (4 * i * u)) + 4 * i * u
      doubled q u i =
          let a : (2 * q + 1) * u * i ≡ 2 * (q * (u * i)) + u * i = mul_assoc (2 * q + 1) u i ∙ add-mul (2 * q) 1 (u * i) ∙ ap (λ (x : ℕ). x + 1 * (u * i)) (mul_assoc 2 q (u * i)) ∙ ap (λ (x : ℕ). 2 * (q * (u * i)) + x) (one-mul (u * i)) in
          let b : 4 * i * u ≡ 4 * (u * i) = mul_assoc 4 i u ∙ ap (λ (x : ℕ). 4 * x) (mul_comm i u) in
          let c : q * (4 * i * u) ≡ 4 * (q * (u * i)) = ap (λ (x : ℕ). q * x) b ∙ mul_left_comm q 4 (u * i) in
          omega arith

  agree : round f false (root_twice (num * 2 ^ 4542 / den)) (2 ^ 2272) ≡ round_root f num den
  agree =
      ap (λ (x : ℕ). round f false x (2 ^ 2272)) taken
      ∙ rounded
      ∙ ap (λ (x : ℕ). units f false (nearest x (compare (twice N r % U * 2) U)) k) q_is
      ∙ ap (λ (x : Ordering). units f false (nearest q x) k) (cmp_same o _ _ order)
      ∙ sym (round_root_is f num den ∙ ap (λ (v : ℕ). core f (num * 4 ^ low f) den (root v) (size (root v) - p)) (ap (λ (x : ℕ). x / den) g ∙ mul-div_cancel V D))

pos_of : (a b : ℕ) → 0 < a * b → 0 < a
pos_of zero b h = absurd (no b h)
  where
    no : (b : ℕ) → 0 < 0 * b → ⊥
    no b h = omega arith
pos_of (suc a) b h = zero-lt-suc a

enough : (f : Format) → 2 ^ (prec f - 1) * 2 ^ (prec f - 1) ≤ 2 ^ low f
enough binary32 = lit≤ tt
enough binary64 = lit≤ tt

zero_exponent : (e : ℤ) → up e * down e ≡ 1 → pos 0 ≡ e
zero_exponent (pos zero) h = refl
zero_exponent (pos (suc n)) h = absurd (no (2 ^ n) (2 ^ suc n) (pow-suc 2 n) h)
  where
    no : (a b : ℕ) → b ≡ a * 2 → b * 1 ≡ 1 → ⊥
    no a b e h = omega arith
zero_exponent (negsuc n) h = absurd (no (2 ^ n) (2 ^ suc n) (pow-suc 2 n) h)
  where
    no : (a b : ℕ) → b ≡ a * 2 → 1 * b ≡ 1 → ⊥
    no a b e h = omega arith

pub library_root : (f : Format) (x : Float) → T (fits f x) → Ieee.sqrt f x ≡ sqrt_of f x
unfolding Ieee.sqrt sqrt_of fits
library_root f nan F = refl
library_root f (inf true) F = refl
library_root f (inf false) F = refl
library_root f (fin s zero e) F = ap (fin s 0) (zero_exponent e (eqb→eq (up e * down e) 1 F))
library_root f (fin true (suc m) e) F = refl
library_root f (fin false (suc m) e) F =
    let x = in_units_lem f false (fin false (suc m) e) F refl in
    let units_pos : 0 < x.q * 2 ^ x.j = pos_of (x.q * 2 ^ x.j) (down e) (subst (λ (n : ℕ). 0 < n) x.value.1 (mul-pos (mul-pos (zero-lt-suc m) (up_pos e)) (pow_pos (low f)))) in
    agree f (suc m * up e) (down e) (x.q * 2 ^ x.j * 2 ^ low f) (down_pos e)
    (ap (λ (n : ℕ). suc m * up e * n) (four (low f)) ∙ sym (mul_assoc (suc m * up e) (2 ^ low f) (2 ^ low f)) ∙ ap (λ (n : ℕ). n * 2 ^ low f) x.value.1 ∙ mul_right_comm (x.q * 2 ^ x.j) (down e) (2 ^ low f))
    (le_trans (enough f) (le_trans (le_of_eq (sym (one-mul (2 ^ low f)))) (mul-le-mul_right (2 ^ low f) units_pos)))

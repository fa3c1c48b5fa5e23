-- Order goes through a product, a sum and a cut: of two numbers up to 1, the larger makes the larger byte, a half added or not. Assumes nothing.
use Prim.Native.Nat.{ℕ, zero, suc, ◌+◌, ◌-◌, ◌*◌, ◌/◌, ◌%◌, ◌^◌, ◌≤◌, ◌<◌, zero-le, min, compare}
use mathlib.Core.Path.{◌≡◌, refl, sym, ap}
use mathlib.Core.Bool.{Bool, true, false, not, cond, ◌&&◌, ◌||◌, true≢false}
use native.Mathlib.Nat.{le_refl, mul-pos, mul-le-mul_right, le_of_mul-le-mul_right}
use native.Mathlib.Omega.{arith}
use lib.Dec.{T, ltb, eqb, ltb→lt, eqb→eq, nltb→le, lit<}
use lib.Pow.{pow_pos}
use lib.IntN.{ℤ, pos}
use lib.Count.{count_trailing_zeros}
use lib.Ieee.{Float, nan, inf, fin, binary32, low, up, down, minus, size, nearest, units, odd, round, sum, add, mul, lt, le, eq, of_bits, to_unsigned}
use lib.Ieee.Fits.{down_pos, and_l, and_r}
use lib.Ieee.Exact.{HasValue}
use lib.Ieee.Nearest.{div_mono}
use lib.Ieee.Order.{round_mono}
use Rattle.floats.specs.Constants.{c0, c1, c255}
use Rattle.floats.specs.Operators.{◌⊕◌, ◌⊗◌}
use Rattle.floats.proofs.Tests.{T_true, T_false}
use Rattle.floats.proofs.Fractions.{add_at, lt_no}
use Rattle.floats.proofs.NotAbove.{le_not_gt}
use Rattle.floats.proofs.Products.{times_at}
use Rattle.floats.proofs.CutAfterRounding.{Between, round_between}

-- ---- the cut
whole_part : (a b c d : ℕ) → 0 < b → 0 < d → a * d ≤ c * b → min (a / b) 255 ≤ min (c / d) 255
whole_part a b c d B D h = let z = div_mono a b c d B D h in omega arith

level_zero : (a d : ℕ) → 0 < d → a * d ≡ 0 → a ≡ 0
level_zero zero d h e = refl
level_zero (suc a) d h e = let z = mul-pos {m = suc a} {n = d} (let o : 0 < suc a = omega arith in o) h in let n : ⊥ = omega arith in absurd n

at_most : (a b : ℕ) (Q t : Bool) → (T t → a < b) → (T Q → a ≡ b) → T (t || Q) → a ≤ b
at_most a b Q true p q h = let z = p tt in omega arith
at_most a b Q false p q h = let z = q h in omega arith

pub cut_in_order : (x y : Float) → T (le x y) → to_unsigned 8 x ≤ to_unsigned 8 y
unfolding le lt eq to_unsigned
cut_in_order nan y h = absurd h
cut_in_order (inf true) y h = zero-le
cut_in_order (inf false) nan h = absurd h
cut_in_order (inf false) (inf true) h = absurd h
cut_in_order (inf false) (inf false) h = le_refl 255
cut_in_order (inf false) (fin s n d) h = absurd h
cut_in_order (fin true m e) y h = zero-le
cut_in_order (fin false m e) nan h = absurd h
cut_in_order (fin false m e) (inf true) h = absurd h
cut_in_order (fin false m e) (inf false) h = go (m * up e / down e)
  where
    go : (q : ℕ) → min q 255 ≤ 255
    go q = omega arith
cut_in_order (fin false m e) (fin true n d) h =
    let a = m * up e * down d in
    let b = n * up d * down e in
    let z : m * up e ≡ 0 = level_zero (m * up e) (down d) (down_pos d) (eqb→eq a 0 (and_r (eqb a b) (eqb a 0) h)) in
    let l : min (m * up e / down e) 255 ≤ min (0 / 1) 255 = whole_part (m * up e) (down e) 0 1 (down_pos e) (lit< tt) (let y = ap (λ (k : ℕ). k * 1) z in omega arith) in
    l
cut_in_order (fin false m e) (fin false n d) h =
    let a = m * up e * down d in
    let b = n * up d * down e in
    whole_part (m * up e) (down e) (n * up d) (down d) (down_pos e) (down_pos d) (at_most a b _ (ltb a b) (ltb→lt a b) (λ t. eqb→eq a b (and_l (eqb a b) _ t)) h)

-- ---- a number up to 1, times 255, and a half more
abbrev half : Float
half = of_bits binary32 0x3f00_0000

abbrev L : ℕ
L = 2 ^ low binary32

top_value : HasValue c255 false 255 1
unfolding of_bits
top_value = (refl, refl)

half_value : HasValue half false 1 2
unfolding of_bits
half_value = (refl, refl)

whole_255 : HasValue (round binary32 false 255 1) false 255 1
unfolding round
whole_255 = (refl, refl)

whole_0 : HasValue (round binary32 false 0 1) false 0 1
unfolding round
whole_0 = (refl, refl)

scaled : (x : Float) (a c : ℕ) → 0 < c → HasValue x false a c → a ≤ c → Between binary32 0 1 255 1 (x ⊗ c255)
scaled x a c C h l =
    rw (times_at binary32 x c255 a c 255 1 C (lit< tt) h top_value)
    (round_between binary32 0 1 (a * 255) (c * 1) 255 1 (lit< tt) (omega arith) (lit< tt) whole_0 whole_255 (omega arith) (omega arith))

two_units : 0 < L * 2
two_units = mul-pos {m = L} {n = 2} (pow_pos (low binary32)) (lit< tt)

bytes_of_values : (x y : Float) (a c b d : ℕ) → 0 < c → 0 < d → HasValue x false a c → HasValue y false b d → a * d ≤ b * c → b ≤ d → a ≤ c → to_unsigned 8 (x ⊗ c255 ⊕ half) ≤ to_unsigned 8 (y ⊗ c255 ⊕ half)
bytes_of_values x y a c b d C D h k l m n =
    let p = scaled x a c C h n in
    let q = scaled y b d D k m in
    let order : T (le (round binary32 false (a * 255) (c * 1)) (round binary32 false (b * 255) (d * 1))) = round_mono binary32 (a * 255) (c * 1) (b * 255) (d * 1) (omega arith) (omega arith) (let z = mul-le-mul_right 255 l in omega arith) in
    let order' : T (le (x ⊗ c255) (y ⊗ c255)) = rw (times_at binary32 x c255 a c 255 1 C (lit< tt) h top_value, times_at binary32 y c255 b d 255 1 D (lit< tt) k top_value) order in
    let u : p.units * L ≤ q.units * L = lt_no (y ⊗ c255) (x ⊗ c255) q.units L p.units L q.value p.value (T_false (le_not_gt (x ⊗ c255) (y ⊗ c255) order')) in
    cut_in_order (x ⊗ c255 ⊕ half) (y ⊗ c255 ⊕ half)
    (rw (add_at binary32 (x ⊗ c255) half p.units L 1 2 (pow_pos (low binary32)) (lit< tt) p.value half_value, add_at binary32 (y ⊗ c255) half q.units L 1 2 (pow_pos (low binary32)) (lit< tt) q.value half_value)
    (round_mono binary32 (p.units * 2 + 1 * L) (L * 2) (q.units * 2 + 1 * L) (L * 2) two_units two_units (mul-le-mul_right (L * 2) (over p.units q.units L (pow_pos (low binary32)) u))))
  where
    over : (p q l : ℕ) → 0 < l → p * l ≤ q * l → p * 2 + 1 * l ≤ q * 2 + 1 * l
    over p q k h l = let z = le_of_mul-le-mul_right l h in omega arith

-- ---- what is not above 0 makes the byte 0
-- what is rounded with the negative sign has it, or is minus infinity
pub rounded_negative : (P : Float → Type 0) → P (inf true) → ((m : ℕ) (e : ℤ) → P (fin true m e)) → (a c : ℕ) → P (round binary32 true a c)
unfolding round units odd
rounded_negative P i f a c = go (size (a * 2 ^ low binary32 / c) - 24)
  where
    finite : (q k : ℕ) → P (odd 25 true q k 149)
    finite zero k = f 0 (pos 0)
    finite (suc q) k = f (suc q / 2 ^ count_trailing_zeros 25 (suc q)) (minus (k + count_trailing_zeros 25 (suc q)) 149)

    either_way : (t : Bool) (q k : ℕ) → P (cond t (odd 25 true q k 149) (inf true))
    either_way true q k = finite q k
    either_way false q k = i

    go : (k : ℕ) → P (units binary32 true (nearest (a * 2 ^ low binary32 / (c * 2 ^ k)) (compare (a * 2 ^ low binary32 % (c * 2 ^ k) * 2) (c * 2 ^ k))) k)
    go k = either_way (ltb (nearest (a * 2 ^ low binary32 / (c * 2 ^ k)) (compare (a * 2 ^ low binary32 % (c * 2 ^ k) * 2) (c * 2 ^ k)) * 2 ^ k) (2 ^ (low binary32 + 128))) (nearest (a * 2 ^ low binary32 / (c * 2 ^ k)) (compare (a * 2 ^ low binary32 % (c * 2 ^ k) * 2) (c * 2 ^ k))) k

cut_negative : (a c : ℕ) → to_unsigned 8 (round binary32 true a c) ≡ 0
unfolding to_unsigned
cut_negative = rounded_negative (λ x. to_unsigned 8 x ≡ 0) refl (λ m e. refl)

half_cut : to_unsigned 8 (round binary32 false 1 2) ≡ 0
unfolding round to_unsigned
half_cut = refl

-- a half and less
below_half : (a c : ℕ) → 0 < c → a * 2 ≤ 1 * c → to_unsigned 8 (round binary32 false a c) ≡ 0
below_half a c C h = let z = cut_in_order (round binary32 false a c) (round binary32 false 1 2) (round_mono binary32 a c 1 2 C (lit< tt) h) in let e = half_cut in omega arith

less_than_half : (x d : ℕ) → 0 < d → to_unsigned 8 (sum binary32 true x false (1 * 1 * d) (d * 2)) ≡ 0
unfolding sum
less_than_half x d D = go (ltb x (1 * 1 * d)) (ltb (1 * 1 * d) x) (ltb→lt x (1 * 1 * d)) (nltb→le x (1 * 1 * d)) (nltb→le (1 * 1 * d) x)
  where
    go : (p q : Bool) → (T p → x < 1 * 1 * d) → (T (not p) → 1 * 1 * d ≤ x) → (T (not q) → x ≤ 1 * 1 * d) → to_unsigned 8 (cond p (round binary32 false (1 * 1 * d - x) (d * 2)) (round binary32 (true && q) (x - 1 * 1 * d) (d * 2))) ≡ 0
    go true q l n r = below_half (1 * 1 * d - x) (d * 2) (omega arith) (omega arith)
    go false true l n r = cut_negative (x - 1 * 1 * d) (d * 2)
    go false false l n r = let z = r tt in below_half (x - 1 * 1 * d) (d * 2) (omega arith) (omega arith)

negative_sum : (m : ℕ) (e : ℤ) → to_unsigned 8 (fin true m e ⊕ half) ≡ 0
unfolding add of_bits
negative_sum m e = less_than_half (m * up e * 2) (down e) (down_pos e)

minus_sum : to_unsigned 8 (inf true ⊕ half) ≡ 0
unfolding add of_bits to_unsigned
minus_sum = refl

negative_rounded : (a c : ℕ) → to_unsigned 8 (round binary32 true a c ⊕ half) ≡ 0
negative_rounded = rounded_negative (λ x. to_unsigned 8 (x ⊕ half) ≡ 0) minus_sum negative_sum

abbrev byte : Float → ℕ
byte x = to_unsigned 8 (x ⊗ c255 ⊕ half)

zero_value : HasValue c0 false 0 1
unfolding of_bits
zero_value = (refl, refl)

one_value : HasValue c1 false 1 1
unfolding of_bits
one_value = (refl, refl)

pub zero_byte : byte c0 ≡ 0
unfolding mul add of_bits to_unsigned
zero_byte = refl

pub nan_byte : byte nan ≡ 0
unfolding mul add to_unsigned
nan_byte = refl

minus_byte : byte (inf true) ≡ 0
unfolding mul add of_bits to_unsigned
minus_byte = refl

pub not_above_zero : (x : Float) → lt c0 x ≡ false → byte x ≡ 0
unfolding lt mul of_bits
not_above_zero nan h = nan_byte
not_above_zero (inf true) h = minus_byte
not_above_zero (inf false) h = absurd (true≢false h)
not_above_zero (fin true m e) h = negative_rounded (m * up e * 255) (down e * 1)
not_above_zero (fin false m e) h =
    let z : m * up e * 1 ≤ 0 * 1 * down e = nltb→le (0 * 1 * down e) (m * up e * 1) (T_false h) in
    let l = bytes_of_values (fin false m e) c0 (m * up e) (down e) 0 1 (down_pos e) (lit< tt) (refl, refl) zero_value (omega arith) (omega arith) (omega arith) in
    let q = zero_byte in
    omega arith

-- ---- of two numbers up to 1 the larger makes the larger byte; a NaN makes 0
module _ (x y : Float) (h : lt y x ≡ false) (l : lt c1 y ≡ false) (n : y ≡ nan → ⊥) where
  shorter : (a c b d : ℕ) → 0 < d → a * d ≤ b * c → b ≤ d → a ≤ c
  shorter a c b d D p q = le_of_mul-le-mul_right {k = d} (let z = mul-le-mul_right c q in omega arith) D

  by_values : (m : ℕ) (e : ℤ) (k : ℕ) (d : ℤ) → x ≡ fin false m e → y ≡ fin false k d → byte x ≤ byte y
  by_values m e k d p q =
      let hx : HasValue x false (m * up e) (down e) = rw p (refl, refl) in
      let hy : HasValue y false (k * up d) (down d) = rw q (refl, refl) in
      let a = lt_no y x (k * up d) (down d) (m * up e) (down e) hy hx (T_false h) in
      let b = lt_no c1 y 1 1 (k * up d) (down d) one_value hy (T_false l) in
      bytes_of_values x y (m * up e) (down e) (k * up d) (down d) (down_pos e) (down_pos d) hx hy a (omega arith) (shorter (m * up e) (down e) (k * up d) (down d) (down_pos d) a (omega arith))

  above_zero : (x' y' : Float) → x ≡ x' → y ≡ y' → lt c0 x' ≡ true → lt y' x' ≡ false → lt c1 y' ≡ false → byte x ≤ byte y
  unfolding lt of_bits
  above_zero nan y' p q t u v = absurd (true≢false (sym t))
  above_zero (inf true) y' p q t u v = absurd (true≢false (sym t))
  above_zero (inf false) nan p q t u v = absurd (n q)
  above_zero (inf false) (inf true) p q t u v = absurd (true≢false u)
  above_zero (inf false) (inf false) p q t u v = absurd (true≢false v)
  above_zero (inf false) (fin s k d) p q t u v = absurd (true≢false u)
  above_zero (fin true m e) y' p q t u v = absurd (true≢false (sym t))
  above_zero (fin false m e) nan p q t u v = absurd (n q)
  above_zero (fin false m e) (inf true) p q t u v = absurd (true≢false u)
  above_zero (fin false m e) (inf false) p q t u v = absurd (true≢false v)
  above_zero (fin false m e) (fin true k d) p q t u v =
      let a : 0 * 1 * down e < m * up e * 1 = ltb→lt (0 * 1 * down e) (m * up e * 1) (T_true t) in
      let b : k * up d * down e + m * up e * down d ≤ 0 = nltb→le 0 (k * up d * down e + m * up e * down d) (T_false u) in
      let z = mul-pos {m = m * up e} {n = down d} (omega arith) (down_pos d) in
      let no : ⊥ = omega arith in
      absurd no
  above_zero (fin false m e) (fin false k d) p q t u v = by_values m e k d p q

  pub bytes_in_order : byte x ≤ byte y
  bytes_in_order = go (lt c0 x) refl
    where
      go : (t : Bool) → lt c0 x ≡ t → byte x ≤ byte y
      go true e = above_zero x y refl refl e h l
      go false e = let z = not_above_zero x e in omega arith

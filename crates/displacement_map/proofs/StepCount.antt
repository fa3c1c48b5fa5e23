-- The steps of a place, by its value: its product with 2 ^ 25 is exact, and either whole, or so small that the place rounds to 0. Assumes nothing.
use Rattle.std.proofs.Common.{◌≡◌, ℕ, zero, suc, ◌+◌, ◌-◌, ◌*◌, ◌/◌, ◌%◌, ◌^◌, ◌<◌, ◌≤◌, Bool, true, false, cond, not, T, ltb, ◌⊎◌, ℤ, pos, neg_ℤ, sym, refl, ap, ◌∙◌, subst, inl, inr, ⊎_elim, le_trans, le_of_eq, lt_of_lt_of_le, lt_of_le_of_lt, mul-le-mul_right, zero-lt-suc, mul_assoc, lt_of_mul-lt-mul_right, mul-le-mul_left, mul-lt-mul_of_pos_right, mul-one, mul_right_comm, arith, lit<, lit≤, lt→ltb, pow_pos, pow_mono, pow-add}
use native.Mathlib.Nat.{eq_of_mul-eq-mul_right, div-eq_of_lt, min-eq_left}
use native.Mathlib.Decide.{dec_le}
use lib.Ieee.{Float, nan, inf, fin, binary32, binary64, up, down, round, sum, add, mul, fits, is_nan, to_bits}
use lib.Ieee.Digits.{back}
use lib.Ieee.Exact.{HasValue, round_exact}
use lib.Ieee.Fits.{down_pos, add-fits}
use lib.Ieee.Nearest.{div_same}
use lib.Ieee.Scale.{overflow}
use Rattle.floats.specs.Round.{away, round_to}
use Rattle.floats.proofs.Away.{away_le, twice_pos}
use Rattle.floats.proofs.Tests.{is_true}
use Rattle.floats.proofs.Units.{in_units_lem}
use Rattle.floats.proofs.SignedSums.{add_signed}
use Rattle.floats.proofs.WholePatterns.{Counts, counts}
use Rattle.displacement_map.specs.Inner.Moving.{Small, Steps}

-- the literals 2 ^ 25 and 3 * 2 ^ 51
abbrev pub steps : Float
steps = fin false 1 (pos 25)

abbrev pub base : Float
base = fin false 3 (pos 51)

abbrev pub raised : Float → Float
raised z = add binary64 (mul binary64 z steps) base

-- ---- the product is exact
module _ (n d q j : ℕ) (D : 0 < d) (small : q < 2 ^ 24) (fine : q * 2 ^ j < overflow binary32) (value : n * 2 ^ 149 ≡ q * 2 ^ j * d) where
  power : q * 2 ^ (j + 950) ≡ q * 2 ^ j * 2 ^ 950
  power = ap (λ (x : ℕ). q * x) (pow-add 2 j 950) ∙ sym (mul_assoc q (2 ^ j) (2 ^ 950))

  same : n * 33554432 * 2 ^ 1074 ≡ q * 2 ^ (j + 950) * (d * 1)
  same =
      mul_assoc n 33554432 (2 ^ 1074) ∙ sym (mul_assoc n (2 ^ 149) (2 ^ 950))
      ∙ ap (λ (x : ℕ). x * 2 ^ 950) value
      ∙ mul_right_comm (q * 2 ^ j) d (2 ^ 950)
      ∙ ap (λ (x : ℕ). x * d) (sym power)
      ∙ ap (λ (x : ℕ). q * 2 ^ (j + 950) * x) (sym (mul-one d))

  exact : (s : Bool) → HasValue (round binary64 s (n * 33554432) (d * 1)) s (n * 33554432) (d * 1)
  exact s =
      round_exact binary64 s (n * 33554432) (d * 1) q (j + 950) (rw (mul-one d) D) (lt_of_lt_of_le small (lit≤ tt))
      (lt_of_le_of_lt (le_of_eq power) (lt_of_lt_of_le (mul-lt-mul_of_pos_right fine (pow_pos 950)) (lit≤ tt))) same

  -- a whole number of steps, or less than a quarter of a pixel
  few_steps : ((y : ℕ) × (n * 33554432 ≡ y * d)) ⊎ (n * 33554432 < 8388608 * d)
  few_steps = go (dec_le 124 j)
    where
      split : n * 33554432 * 2 ^ 124 ≡ q * 2 ^ j * d
      split = mul_assoc n 33554432 (2 ^ 124) ∙ value

      go : Dec (124 ≤ j) → ((y : ℕ) × (n * 33554432 ≡ y * d)) ⊎ (n * 33554432 < 8388608 * d)
      go (yes h) =
          inl (
            q * 2 ^ (j - 124),
            eq_of_mul-eq-mul_right (2 ^ 124) (pow_pos 124) (n * 33554432) (q * 2 ^ (j - 124) * d)
                (split
                ∙ ap (λ (x : ℕ). q * x * d) (sym (ap (λ (i : ℕ). 2 ^ i) (back j 124 h)) ∙ pow-add 2 (j - 124) 124)
                ∙ ap (λ (x : ℕ). x * d) (sym (mul_assoc q (2 ^ (j - 124)) (2 ^ 124)))
                ∙ mul_right_comm (q * 2 ^ (j - 124)) (2 ^ 124) d),
          )
      go (no h) =
          inr
          (lt_of_mul-lt-mul_right (2 ^ 124)
          (lt_of_le_of_lt (le_of_eq split)
          (lt_of_lt_of_le (mul-lt-mul_of_pos_right (lt_of_lt_of_le (mul-lt-mul_of_pos_right small (pow_pos j)) (mul-le-mul_left (2 ^ 24) (pow_mono (fewer h)))) D)
          (le_of_eq (ap (λ (x : ℕ). x * d) eight ∙ mul_right_comm 8388608 (2 ^ 124) d)))))
        where
          fewer : (124 ≤ j → ⊥) → j ≤ 123
          fewer h = omega arith

          eight : 2 ^ 24 * 2 ^ 123 ≡ 8388608 * 2 ^ 124
          eight = refl

-- ---- the count
-- a whole number next to a whole number is that number
near_whole : (N W c : ℕ) → 2 * (N * c) ≤ 2 * (W * c) + c → 2 * (W * c) ≤ 2 * (N * c) + c → 0 < c → N ≡ W
near_whole N W c a b C =
    let p : N < suc W = lt_of_mul-lt-mul_right c (omega arith) in
    let q : W < suc N = lt_of_mul-lt-mul_right c (omega arith) in
    omega arith

-- n / d pixels are y steps
away_steps : (n d y : ℕ) → 0 < d → n * 33554432 ≡ y * d → away n d ≡ (y + 16777216) / 33554432
away_steps n d y D e = div_same (2 * n + d) (2 * d) (y + 16777216) 33554432 (twice_pos d D) (lit< tt) (omega arith)

-- less than a quarter of a pixel is none
away_none : (n d : ℕ) → n * 33554432 < 8388608 * d → away n d ≡ 0
away_none n d h = div-eq_of_lt (omega arith)

-- r is what wraps round to a pattern, less 0x4337ffffff000001
abbrev Wraps : ℕ → ℕ → Type 0
Wraps r k = (r + 4843621399220191233) % 18446744073709551616 ≡ 4841369599423283200 + k

wraps_up : (r k t : ℕ) → r < 18446744073709551616 → t ≤ 2199023255552 → Wraps r k → 4503599627370496 + k ≡ 6755399441055744 + t → r + 1 ≡ t + 16777216
wraps_up r k t R T w e = omega arith

wraps_down : (r k t : ℕ) → r < 18446744073709551616 → Wraps r k → 4503599627370496 + k + t ≡ 6755399441055744 → t < 16777216 → r + 1 + t ≡ 16777216
wraps_down r k t R w e l = omega arith

wraps_past : (r k t : ℕ) → r < 18446744073709551616 → Wraps r k → 4503599627370496 + k + t ≡ 6755399441055744 → 16777216 ≤ t → t ≤ 2199023255552 → 2199023255552 ≤ r
wraps_past r k t R w e l m = omega arith

wraps_none : (r k : ℕ) → r < 18446744073709551616 → Wraps r k → 4503599627370496 + k ≤ 6755399441055744 + 8388608 → 6755399441055744 ≤ 4503599627370496 + k + 8388608 → r + 1 < 33554432
wraps_none r k R w a b = omega arith

none : (r : ℕ) → r + 1 < 33554432 → Steps (pos 0) r
none r h = (div-eq_of_lt h, omega arith)

-- n / d, of the sign s, where x is the raised place
module _ (n d : ℕ) (D : 0 < d) (most : n ≤ 65536 * d) (r : ℕ) (R : r < 18446744073709551616) where
  abbrev a : ℕ
  a = n * 33554432

  abbrev q : ℕ
  q = away n d

  q_most : q ≤ 65536
  q_most = away_le n d 65536 D most

  y_most : (y : ℕ) → a ≡ y * d → y ≤ 2199023255552
  y_most y e = let z : y < 2199023255553 = lt_of_mul-lt-mul_right d (omega arith) in omega arith

  small_up : (k : ℕ) → Wraps r k → a < 8388608 * d → 2 * ((4503599627370496 + k) * (d * 1)) ≤ 2 * (a * 1 + 6755399441055744 * d) + d * 1 → 2 * (a * 1 + 6755399441055744 * d) ≤ 2 * ((4503599627370496 + k) * (d * 1)) + d * 1 → Steps (pos q) r
  small_up k w h o u =
      let hi : 4503599627370496 + k < 6755399441055744 + 8388608 + 1 = lt_of_mul-lt-mul_right d (omega arith) in
      let lo : 6755399441055744 < 4503599627370496 + k + 1 = lt_of_mul-lt-mul_right d (omega arith) in
      rw (away_none n d h) (none r (wraps_none r k R w (omega arith) (omega arith)))

  whole_up : (k y : ℕ) → Wraps r k → a ≡ y * d → 2 * ((4503599627370496 + k) * (d * 1)) ≤ 2 * (a * 1 + 6755399441055744 * d) + d * 1 → 2 * (a * 1 + 6755399441055744 * d) ≤ 2 * ((4503599627370496 + k) * (d * 1)) + d * 1 → Steps (pos q) r
  whole_up k y w e o u =
      let m = y_most y e in
      let N : 4503599627370496 + k ≡ 6755399441055744 + y = near_whole (4503599627370496 + k) (6755399441055744 + y) d (omega arith) (omega arith) D in
      let c = wraps_up r k y R m w N in
      (ap (λ (i : ℕ). i / 33554432) c ∙ sym (away_steps n d y D e), omega arith)

  small_down : (k : ℕ) → Wraps r k → a < 8388608 * d → 2 * ((4503599627370496 + k) * (d * 1)) ≤ 2 * (6755399441055744 * d - a * 1) + d * 1 → 2 * (6755399441055744 * d - a * 1) ≤ 2 * ((4503599627370496 + k) * (d * 1)) + d * 1 → Steps (neg_ℤ (pos q)) r
  small_down k w h o u =
      let hi : 4503599627370496 + k < 6755399441055744 + 1 = lt_of_mul-lt-mul_right d (omega arith) in
      let lo : 6755399441055744 < 4503599627370496 + k + 8388608 + 1 = lt_of_mul-lt-mul_right d (omega arith) in
      rw (away_none n d h) (none r (wraps_none r k R w (omega arith) (omega arith)))

  whole_down : (k y : ℕ) → Wraps r k → a ≡ y * d → 2 * ((4503599627370496 + k) * (d * 1)) ≤ 2 * (6755399441055744 * d - a * 1) + d * 1 → 2 * (6755399441055744 * d - a * 1) ≤ 2 * ((4503599627370496 + k) * (d * 1)) + d * 1 → Steps (neg_ℤ (pos q)) r
  whole_down k y w e o u = rw (away_steps n d y D e) (go (dec_le 16777216 y))
    where
      m : y ≤ 2199023255552
      m = y_most y e

      N : 4503599627370496 + k + y ≡ 6755399441055744
      N = near_whole (4503599627370496 + k + y) 6755399441055744 d (omega (arith, mul-le-mul_right d m)) (omega (arith, mul-le-mul_right d m)) D

      past : (p : ℕ) → 0 < p → 2199023255552 ≤ r → Steps (neg_ℤ (pos p)) r
      past (suc p) l h = h
      past zero l h = absurd (omega arith)

      go : Dec (16777216 ≤ y) → Steps (neg_ℤ (pos ((y + 16777216) / 33554432))) r
      go (yes l) = past ((y + 16777216) / 33554432) (omega arith) (wraps_past r k y R w N l m)
      go (no l) =
          let z : (y + 16777216) / 33554432 ≡ 0 = omega arith in
          let c = wraps_down r k y R w N (omega arith) in
          rw z (none r (omega arith))

-- ---- a place's steps
rounded : (s : Bool) (m : ℕ) (e : ℤ) → away (m * up e) (down e) ≤ 65536 → round_to 31 (fin s m e) ≡ cond s (neg_ℤ (pos (away (m * up e) (down e)))) (pos (away (m * up e) (down e)))
unfolding round_to
rounded true m e h = ap (λ (x : ℕ). neg_ℤ (pos x)) (min-eq_left (le_trans h (lit≤ tt)))
rounded false m e h = ap pos (min-eq_left (le_trans h (lit≤ tt)))

module _ (m : ℕ) (e : ℤ) (most : m * up e ≤ 65536 * down e) where
  positive : 0 < down e * 1 * 1
  positive = let z = down_pos e in omega arith

  product : (s : Bool) → T (fits binary32 (fin s m e)) → HasValue (mul binary64 (fin s m e) steps) s (m * up e * 33554432) (down e * 1)
  unfolding mul
  product true F = let u = in_units_lem binary32 true (fin true m e) F refl in exact (m * up e) (down e) u.q u.j (down_pos e) u.small u.fine u.value.1 true
  product false F = let u = in_units_lem binary32 false (fin false m e) F refl in exact (m * up e) (down e) u.q u.j (down_pos e) u.small u.fine u.value.1 false

  either : (s : Bool) → T (fits binary32 (fin s m e)) → ((y : ℕ) × (m * up e * 33554432 ≡ y * down e)) ⊎ (m * up e * 33554432 < 8388608 * down e)
  either s F = let u = in_units_lem binary32 s (fin s m e) F refl in few_steps (m * up e) (down e) u.q u.j (down_pos e) u.small u.fine u.value.1

  summed : (s : Bool) → T (fits binary32 (fin s m e)) → raised (fin s m e) ≡ sum binary64 s (m * up e * 33554432 * 1) false (6755399441055744 * (down e * 1)) (down e * 1 * 1)
  summed s F = add_signed binary64 (mul binary64 (fin s m e) steps) base s false (m * up e * 33554432) (down e * 1) 6755399441055744 1 (let z = down_pos e in omega arith) (zero-lt-suc 0) (product s F) (refl, refl)

  raised_up : T (fits binary32 (fin false m e)) → Counts (m * up e * 33554432 * 1 + 6755399441055744 * (down e * 1)) (down e * 1 * 1) (raised (fin false m e))
  unfolding sum
  raised_up F = counts (raised (fin false m e)) (m * up e * 33554432 * 1 + 6755399441055744 * (down e * 1)) (down e * 1 * 1) positive (add-fits binary64 _ _) (summed false F) (omega arith) (omega arith)

  raised_down : T (fits binary32 (fin true m e)) → Counts (6755399441055744 * (down e * 1) - m * up e * 33554432 * 1) (down e * 1 * 1) (raised (fin true m e))
  unfolding sum
  raised_down F =
      let p = down_pos e in
      let l : m * up e * 33554432 * 1 < 6755399441055744 * (down e * 1) = omega arith in
      let t : ltb (m * up e * 33554432 * 1) (6755399441055744 * (down e * 1)) ≡ true = sym (is_true _ (lt→ltb _ _ l)) in
      counts (raised (fin true m e)) (6755399441055744 * (down e * 1) - m * up e * 33554432 * 1) (down e * 1 * 1) positive (add-fits binary64 _ _) (rw t at (summed true F)) (omega arith) (omega arith)

pub raised_number : (z : Float) → T (fits binary32 z) → Small z → T (not (is_nan (raised z)))
raised_number nan F h = absurd h.0
raised_number (inf s) F h = absurd h.0
raised_number (fin true m e) F h = (raised_down m e h.1 F).number
raised_number (fin false m e) F h = (raised_up m e h.1 F).number

-- what wraps round to the pattern of the raised place, less 0x4337ffffff000001
pub steps_count : (z : Float) (r : ℕ) → T (fits binary32 z) → Small z → r < 18446744073709551616 → (r + 4843621399220191233) % 18446744073709551616 ≡ to_bits binary64 (raised z) → Steps (round_to 31 z) r
steps_count nan r F h R w = absurd h.0
steps_count (inf s) r F h R w = absurd h.0
steps_count (fin true m e) r F h R w =
    let c = raised_down m e h.1 F in
    let D = down_pos e in
    let o = c.over in
    let u = c.under in
    subst (λ (z : ℤ). Steps z r) (sym (rounded true m e (q_most (m * up e) (down e) D h.1 r R)))
    (⊎_elim
    (λ y. whole_down (m * up e) (down e) D h.1 r R c.k y.0 (w ∙ c.bits) y.1 (omega arith) (omega arith))
    (λ l. small_down (m * up e) (down e) D h.1 r R c.k (w ∙ c.bits) l (omega arith) (omega arith))
    (either m e h.1 true F))
steps_count (fin false m e) r F h R w =
    let c = raised_up m e h.1 F in
    let D = down_pos e in
    let o = c.over in
    let u = c.under in
    subst (λ (z : ℤ). Steps z r) (sym (rounded false m e (q_most (m * up e) (down e) D h.1 r R)))
    (⊎_elim
    (λ y. whole_up (m * up e) (down e) D h.1 r R c.k y.0 (w ∙ c.bits) y.1 (omega arith) (omega arith))
    (λ l. small_up (m * up e) (down e) D h.1 r R c.k (w ∙ c.bits) l (omega arith) (omega arith))
    (either m e h.1 false F))

-- A position that is raised by 2 ^ 52 has the nearest whole number in its pattern: that is the whole part, or one more.
use Prim.Native.Nat.{ℕ, suc, ◌+◌, ◌-◌, ◌*◌, ◌/◌, ◌%◌, ◌^◌, ◌≤◌, ◌<◌}
use mathlib.Core.Path.{◌≡◌, refl, sym, ap, ◌∙◌, subst}
use mathlib.Core.Bool.{true, false, not}
use native.Mathlib.Nat.{zero-lt-suc, le_trans, mul-one, div-lt_iff_lt-mul, le-div_iff_mul-le, min-eq_left}
use native.Mathlib.Omega.{arith}
use lib.IntN.{pos}
use lib.Dec.{T, ltb→lt, leb→le, le→leb, lit≤, lit<}
use lib.Ieee.{Float, nan, inf, fin, binary64, up, down, round, sub, lt, is_nan, of_bits, of_int, to_bits, to_signed}
use lib.Ieee.Fits.{down_pos, add-fits, round-fits}
use lib.Ieee.Back.{round_whole, whole_unique}
use lib.Ieee.Positive.{num, den, den_pos}
use Rattle.floats.specs.Operators.{◌⊟◌}
use Rattle.floats.specs.Inner.Steps.{up_to}
use Rattle.floats.proofs.Fractions.{nought, sub_at, lt_yes, lt_no}
use Rattle.floats.proofs.HalfAway.{of_int_is}
use Rattle.floats.proofs.NearestWhole as whole
use Rattle.floats.proofs.NearestWhole.{bounded_value, whole_from}
use Rattle.floats.proofs.WholePatterns.{Counts, counts}
use Rattle.turbulence.specs.Constants.{d1}
use Rattle.turbulence.specs.Noise.{cell, fraction}
use Rattle.turbulence.specs.Inner.Places.{Placed}

-- the literal 2147483647.0
abbrev end : Float
end = fin false 2147483647 (pos 0)

pub up_to_end : (t : Float) → T (lt nought t) → T (lt t end) → T (up_to 2147483647 t)
unfolding lt
up_to_end nan a b = absurd a
up_to_end (inf true) a b = absurd a
up_to_end (inf false) a b = absurd b
up_to_end (fin true m e) a b = absurd a
up_to_end (fin false m e) a b = le→leb (m * up e) (2147483647 * down e) (below (m * up e) (down e) (ltb→lt (m * up e * 1) (2147483647 * 1 * down e) b))
  where
    below : (n d : ℕ) → n * 1 < 2147483647 * 1 * d → n ≤ 2147483647 * d
    below n d h = omega arith

-- cut toward zero, in an `i32` and in what is wider
whole_part : (h : ℕ) (t : Float) → 2147483647 ≤ 2 ^ h - 1 → T (up_to 2147483647 t) → to_signed h t ≡ pos (num t / den t)
unfolding to_signed
whole_part h nan l u = absurd u
whole_part h (inf s) l u = absurd u
whole_part h (fin true m e) l u = absurd u
whole_part h (fin false m e) l u =
    ap pos (min-eq_left (le_trans (most (m * up e / down e) ((div-lt_iff_lt-mul (down_pos e)).1 (next (m * up e) (down e) (down_pos e) (leb→le (m * up e) (2147483647 * down e) u)))) l))
  where
    next : (n d : ℕ) → 0 < d → n ≤ 2147483647 * d → n < 2147483648 * d
    next n d D h = omega arith

    most : (q : ℕ) → q < 2147483648 → q ≤ 2147483647
    most q h = omega arith

module _ (t : Float) (h : T (up_to 2147483647 t)) where
  abbrev k : ℕ
  k = whole.k binary64 2147483647 (lit< tt) t h

  abbrev q : ℕ
  q = num t / den t

  abbrev raised : Float
  raised = whole.raised binary64 2147483647 (lit< tt) t h

  abbrev nearest : Float
  nearest = whole.lowered binary64 2147483647 (lit< tt) t h

  k_few : k ≤ 2147483648
  k_few = whole.k_most binary64 2147483647 (lit< tt) t h

  counted : Counts (4503599627370496 + k) 1 raised
  counted =
      counts raised (4503599627370496 + k) 1 (zero-lt-suc 0) (add-fits binary64 t (whole_from binary64))
      (whole_unique binary64 raised (round binary64 false (4503599627370496 + k) 1) false (4503599627370496 + k) (add-fits binary64 t (whole_from binary64)) (round-fits binary64 false (4503599627370496 + k) 1)
      (whole.raised_value binary64 2147483647 (lit< tt) t h) (round_whole binary64 false (4503599627370496 + k) (room k k_few)))
      (least k) (most k k_few)
    where
      room : (k : ℕ) → k ≤ 2147483648 → 4503599627370496 + k ≤ 9007199254740992
      room k h = omega arith

      least : (k : ℕ) → 4503599627370496 * 1 ≤ 4503599627370496 + k
      least k = omega arith

      most : (k : ℕ) → k ≤ 2147483648 → 4503599627370496 + k ≤ 9007199254740990 * 1
      most k h = omega arith

  pub no_nan : T (not (is_nan raised))
  no_nan = counted.number

  pattern : to_bits binary64 raised ≡ 4841369599423283200 + k
  pattern = go counted.k counted.bits counted.over counted.under
    where
      go : (j : ℕ) → to_bits binary64 raised ≡ 4841369599423283200 + j → 2 * ((4503599627370496 + j) * 1) ≤ 2 * (4503599627370496 + k) + 1 → 2 * (4503599627370496 + k) ≤ 2 * ((4503599627370496 + j) * 1) + 1 → to_bits binary64 raised ≡ 4841369599423283200 + k
      go j e a b = let same : j ≡ k = omega arith in rw (e, same)

  pub pattern_least : 4841369599423283200 ≤ to_bits binary64 raised
  pattern_least = let e = pattern in omega arith

  abbrev n : ℕ
  n = to_bits binary64 raised - 4841369599423283200

  n_is : n ≡ k
  n_is = let e = pattern in omega arith

  -- the nearest whole number is the whole part, or one more
  above_it : T (lt t nearest) → k ≡ suc q
  above_it l = go k q (whole.k_hi binary64 2147483647 (lit< tt) t h) ((div-lt_iff_lt-mul (den_pos t)).1 (subst (λ (x : ℕ). x < k * den t) (mul-one (num t)) (lt_yes t nearest (num t) (den t) k 1 (den_pos t) (zero-lt-suc 0) (bounded_value 2147483647 t h).0 (whole.lowered_value binary64 2147483647 (lit< tt) t h) l)))
    where
      go : (k q : ℕ) → k ≤ suc q → q < k → k ≡ suc q
      go k q a l = omega arith

  not_above : T (not (lt t nearest)) → k ≡ q
  not_above l = go k q (whole.k_lo binary64 2147483647 (lit< tt) t h) ((le-div_iff_mul-le (den_pos t)).1 (subst (λ (x : ℕ). k * den t ≤ x) (mul-one (num t)) (lt_no t nearest (num t) (den t) k 1 (bounded_value 2147483647 t h).0 (whole.lowered_value binary64 2147483647 (lit< tt) t h) l)))
    where
      go : (k q : ℕ) → q ≤ k → k ≤ q → k ≡ q
      go k q a l = omega arith

  cell_at : cell t ≡ q % 256
  unfolding cell
  cell_at = rw (whole_part 31 t (lit≤ tt) h)

  fraction_at : fraction t ≡ t ⊟ of_int binary64 (pos q)
  unfolding fraction
  fraction_at = rw (whole_part 63 t (lit≤ tt) h)

  one_less : k ≡ suc q → nearest ⊟ d1 ≡ of_int binary64 (pos q)
  unfolding of_bits
  one_less e =
      sub_at binary64 nearest d1 k 1 1 1 (zero-lt-suc 0) (zero-lt-suc 0) (whole.lowered_value binary64 2147483647 (lit< tt) t h) (refl, refl) (some k q e)
      ∙ ap (λ (x : ℕ). round binary64 false x 1) (less k q e)
      ∙ sym (of_int_is binary64 q)
    where
      some : (k q : ℕ) → k ≡ suc q → 1 * 1 ≤ k * 1
      some k q e = omega arith

      less : (k q : ℕ) → k ≡ suc q → k * 1 - 1 * 1 ≡ q
      less k q e = omega arith

  pub some_below : T (lt t nearest) → 1 ≤ n
  some_below l = let e = n_is in let f = above_it l in omega arith

  pub place_above : T (lt t nearest) → Placed t (record { cell = (n - 1) % 256; fraction = t ⊟ (nearest ⊟ d1) })
  place_above l =
      let e = n_is in
      let f = above_it l in
      let less : n - 1 ≡ q = omega arith in
      record { cell_is = rw less (sym cell_at); fraction_is = ap (sub binary64 t) (one_less f) ∙ sym fraction_at; inside = omega arith }

  pub place_at : T (not (lt t nearest)) → Placed t (record { cell = n % 256; fraction = t ⊟ nearest })
  place_at l =
      let same : n ≡ q = n_is ∙ not_above l in
      record {
        cell_is = rw same (sym cell_at);
        fraction_is = ap (sub binary64 t) (whole.lowered_is binary64 2147483647 (lit< tt) t h ∙ ap (λ (x : ℕ). round binary64 false x 1) (not_above l) ∙ sym (of_int_is binary64 q)) ∙ sym fraction_at;
        inside = omega arith;
      }

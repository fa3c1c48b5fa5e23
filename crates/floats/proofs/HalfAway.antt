-- Of the whole number k nearest to z, a half to the even one: comparing z with k + 1/2 tells k from k + 1 as the one with a half upward. Assumes nothing.
use Rattle.std.proofs.Common.{◌≡◌, ℕ, suc, ◌+◌, ◌*◌, ◌^◌, ◌<◌, ◌≤◌, false, not, ◌&&◌, T, pos, negsuc, sym, refl, ap, ◌∙◌, subst, lt_of_lt_of_le, zero-lt-suc, mul_assoc, arith, lit<, lit≤, pow_mono, shl_lt}
use lib.Ieee.{Float, nan, inf, fin, Format, binary32, binary64, round, add, lt, fits, is_nan, of_int}
use lib.Ieee.Exact.{HasValue, round_exact}
use lib.Ieee.Scale.{finite}
use lib.Ieee.Positive.{num, den, den_pos}
use Rattle.floats.specs.Round.{away}
use Rattle.floats.proofs.Away.{div_at, twice_pos}
use Rattle.floats.specs.Inner.Steps.{up_to}
use Rattle.floats.proofs.Fractions.{add_at, lt_yes, lt_no}
use Rattle.floats.proofs.Units.{finite_widens}
use Rattle.floats.proofs.NearestWhole as whole
use Rattle.floats.proofs.NearestWhole.{bounded_value}

abbrev half : Float
half = fin false 1 (negsuc 0)

abbrev one : Float
one = fin false 1 (pos 0)

pub of_int_is : (f : Format) (n : ℕ) → of_int f (pos n) ≡ round f false n 1
unfolding of_int
of_int_is f n = refl

pub bounded_widens : (n : ℕ) (z : Float) → T (fits binary32 z) → T (up_to n z) → T (fits binary64 z && not (is_nan z))
bounded_widens n z F h = finite_widens z F (go z h)
  where
    go : (z : Float) → T (up_to n z) → T (finite z)
    go nan h = absurd h
    go (inf s) h = absurd h
    go (fin s m e) h = tt

module _ (z : Float) (h : T (up_to 2147483648 z)) where
  abbrev a : ℕ
  a = num z

  abbrev c : ℕ
  c = den z

  C : 0 < c
  C = den_pos z

  abbrev k : ℕ
  k = whole.k binary64 2147483648 (lit< tt) z h

  abbrev w : Float
  w = whole.lowered binary64 2147483648 (lit< tt) z h

  w_value : HasValue w false k 1
  w_value = whole.lowered_value binary64 2147483648 (lit< tt) z h

  k_small : k < 4294967296
  k_small = go k (whole.k_most binary64 2147483648 (lit< tt) z h)
    where
      go : (k : ℕ) → k ≤ 2147483649 → k < 4294967296
      go k h = omega arith

  -- w + 0.5 is exact
  abbrev v : Float
  v = add binary64 w half

  v_value : HasValue v false (2 * k + 1) 2
  v_value =
      let is : v ≡ round binary64 false (2 * k + 1) 2 = add_at binary64 w half k 1 1 2 (zero-lt-suc 0) (zero-lt-suc 1) w_value (refl, refl) ∙ ap (λ (x : ℕ). round binary64 false x 2) (tidy k) in
      subst (λ (x : Float). HasValue x false (2 * k + 1) 2) (sym is)
      (round_exact binary64 false (2 * k + 1) 2 (2 * k + 1) 1073 (zero-lt-suc 1) (small k k_small) (far (2 * k + 1) (small k k_small)) (same (2 * k + 1)))
    where
      tidy : (k : ℕ) → k * 2 + 1 * 1 ≡ 2 * k + 1
      tidy k = omega arith

      small : (k : ℕ) → k < 4294967296 → 2 * k + 1 < 9007199254740992
      small k h = omega arith

      far : (n : ℕ) → n < 2 ^ 53 → n * 2 ^ 1073 < 2 ^ 2098
      far n h = lt_of_lt_of_le (shl_lt 53 1073 h) (pow_mono {i = 1126} {j = 2098} (lit≤ tt))

      same : (n : ℕ) → n * 2 ^ 1074 ≡ n * 2 ^ 1073 * 2
      same n = sym (mul_assoc n (2 ^ 1073) 2)

  pub stays : T (lt z v) → w ≡ of_int binary64 (pos (away a c))
  stays l =
      whole.lowered_is binary64 2147483648 (lit< tt) z h
      ∙ ap (λ (x : ℕ). round binary64 false x 1) (sym (div_at (2 * a + c) (2 * c) k (twice_pos c C) (lo k a c (whole.half_above binary64 2147483648 (lit< tt) z h)) (hi k a c (lt_yes z v a c (2 * k + 1) 2 C (zero-lt-suc 1) (bounded_value 2147483648 z h).0 v_value l))))
      ∙ sym (of_int_is binary64 (away a c))
    where
      lo : (k a c : ℕ) → 2 * (k * c) ≤ 2 * a + c → k * (2 * c) ≤ 2 * a + c
      lo k a c h = omega arith

      hi : (k a c : ℕ) → a * 2 < (2 * k + 1) * c → 2 * a + c < suc k * (2 * c)
      hi k a c h = omega arith

  pub rises : T (not (lt z v)) → add binary64 w one ≡ of_int binary64 (pos (away a c))
  rises l =
      add_at binary64 w one k 1 1 1 (zero-lt-suc 0) (zero-lt-suc 0) w_value (refl, refl)
      ∙ ap (λ (x : ℕ). round binary64 false x 1) (tidy k ∙ sym (div_at (2 * a + c) (2 * c) (suc k) (twice_pos c C) (lo k a c (lt_no z v a c (2 * k + 1) 2 (bounded_value 2147483648 z h).0 v_value l)) (hi k a c C (whole.half_below binary64 2147483648 (lit< tt) z h))))
      ∙ sym (of_int_is binary64 (away a c))
    where
      tidy : (k : ℕ) → k * 1 + 1 * 1 ≡ suc k
      tidy k = omega arith

      lo : (k a c : ℕ) → (2 * k + 1) * c ≤ a * 2 → suc k * (2 * c) ≤ 2 * a + c
      lo k a c h = omega arith

      hi : (k a c : ℕ) → 0 < c → 2 * a ≤ 2 * (k * c) + c → 2 * a + c < suc (suc k) * (2 * c)
      hi k a c p h = omega arith

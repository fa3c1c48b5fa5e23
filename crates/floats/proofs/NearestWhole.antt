-- Adding 2 ^ (prec - 1) to a value below that leaves a whole number k nearest to it, and subtracting it again is exact. Assumes nothing.
use Rattle.std.proofs.Common.{◌≡◌, ℕ, suc, ◌+◌, ◌-◌, ◌*◌, ◌/◌, ◌%◌, ◌^◌, ◌<◌, ◌≤◌, true, false, T, pos, sym, refl, ap, ◌∙◌, subst, le_trans, le_of_eq, lt_of_lt_of_le, lt_of_le_of_lt, zero-lt-suc, div-lt_iff_lt-mul, add-mul, mul-lt-mul_of_pos_right, one-mul, mul-one, arith, leb→le}
use Prim.Native.Nat.{compare}
use native.Mathlib.Nat.{add-mul-div_right}
use lib.Ieee.{Float, nan, inf, fin, Format, binary32, binary64, prec, up, down, round, add, sub}
use lib.Ieee.Fits.{nearest-le}
use lib.Ieee.Exact.{HasValue}
use lib.Ieee.Nearest.{closest, nearest-ge}
use lib.Ieee.Back.{round_whole}
use lib.Ieee.Positive.{num, den, den_pos}
use Rattle.floats.specs.Inner.Steps.{up_to}
use Rattle.floats.proofs.Fractions.{add_at, sub_at, round_near_whole}
use Rattle.floats.proofs.Closest.{closest_half}

-- ---- the value of a plain float within a bound
pub bounded_value : (n : ℕ) (z : Float) → T (up_to n z) → HasValue z false (num z) (den z) × (num z ≤ n * den z)
bounded_value n nan h = absurd h
bounded_value n (inf s) h = absurd h
bounded_value n (fin true m e) h = absurd h
bounded_value n (fin false m e) h = ((refl, refl), leb→le (m * up e) (n * down e) h)

-- 2 ^ (prec - 1), from which on a format holds whole numbers only
abbrev pub whole_from : Format → Float
whole_from f = fin false 1 (pos (prec f - 1))

whole_value : (f : Format) → HasValue (whole_from f) false (2 ^ (prec f - 1)) 1
whole_value f = (refl, ap (λ (x : ℕ). x * 1) (one-mul (2 ^ (prec f - 1))))

twice_half : (f : Format) → 2 ^ prec f ≡ 2 ^ (prec f - 1) + 2 ^ (prec f - 1)
twice_half binary32 = refl
twice_half binary64 = refl

module _ (f : Format) (n : ℕ) (small : n < 2 ^ (prec f - 1)) (z : Float) (h : T (up_to n z)) where
  abbrev a : ℕ
  a = num z

  abbrev c : ℕ
  c = den z

  abbrev B : ℕ
  B = 2 ^ (prec f - 1)

  C : 0 < c
  C = den_pos z

  abbrev pub raised : Float
  raised = add f z (whole_from f)

  N : ℕ
  N = closest (a + B * c) c

  raised_is : raised ≡ round f false (a + B * c) c
  raised_is =
      add_at f z (whole_from f) a c B 1 C (zero-lt-suc 0) (bounded_value n z h).0 (whole_value f)
      ∙ ap (λ (x : ℕ). round f false (x + B * c) (c * 1)) (mul-one a)
      ∙ ap (λ (x : ℕ). round f false (a + B * c) x) (mul-one c)

  raised_whole : HasValue raised false N 1
  unfolding N
  raised_whole = subst (λ (x : Float). HasValue x false (closest (a + B * c) c) 1) (sym raised_is) (round_near_whole f (a + B * c) c C (lo a (B * c)) (lt_of_lt_of_le (hi a (n * c) (B * c) (bounded_value n z h).1 (mul-lt-mul_of_pos_right small C)) (le_of_eq (sym (ap (λ (x : ℕ). x * c) (twice_half f) ∙ add-mul B B c)))))
    where
      lo : (a b : ℕ) → b ≤ a + b
      lo a b = omega arith

      hi : (a x y : ℕ) → a ≤ x → x < y → a + y < y + y
      hi a x y h l = omega arith

  abbrev pub q : ℕ
  q = a / c

  q_most : q ≤ n
  q_most = le_of_lt_suc ((div-lt_iff_lt-mul C).1 (lt_of_le_of_lt (bounded_value n z h).1 (next n c C)))
    where
      le_of_lt_suc : {a b : ℕ} → a < suc b → a ≤ b
      le_of_lt_suc h = omega arith

      next : (n c : ℕ) → 0 < c → n * c < suc n * c
      next n c C = omega arith

  N-lo : q + B ≤ N
  unfolding N
  N-lo = le_trans (le_of_eq (sym (add-mul-div_right a B C))) (nearest-ge ((a + B * c) / c) (compare ((a + B * c) % c * 2) c))

  N-hi : N ≤ suc (q + B)
  unfolding N
  N-hi = le_trans (nearest-le ((a + B * c) / c) (compare ((a + B * c) % c * 2) c)) (le_of_eq (ap suc (add-mul-div_right a B C)))

  pub k : ℕ
  k = N - B

  N-is : N ≡ B + k
  unfolding k
  N-is = go N B q N-lo
    where
      go : (N B q : ℕ) → q + B ≤ N → N ≡ B + (N - B)
      go N B q h = omega arith

  pub raised_value : HasValue raised false (B + k) 1
  raised_value = subst (λ (x : ℕ). HasValue raised false x 1) N-is raised_whole

  -- k is the whole part, or one more
  pub k_lo : q ≤ k
  k_lo = go N B q k N-is N-lo
    where
      go : (N B q k : ℕ) → N ≡ B + k → q + B ≤ N → q ≤ k
      go N B q k e h = omega arith

  pub k_hi : k ≤ suc q
  k_hi = go N B q k N-is N-hi
    where
      go : (N B q k : ℕ) → N ≡ B + k → N ≤ suc (q + B) → k ≤ suc q
      go N B q k e h = omega arith

  pub k_most : k ≤ suc n
  k_most = le_trans k_hi (up_by q_most)
    where
      up_by : {a b : ℕ} → a ≤ b → suc a ≤ suc b
      up_by h = omega arith

  -- and within a half
  N-c : N * c ≡ k * c + B * c
  N-c = ap (λ (x : ℕ). x * c) N-is ∙ add-mul B k c ∙ swap (B * c) (k * c)
    where
      swap : (a b : ℕ) → a + b ≡ b + a
      swap a b = omega arith

  near : (2 * (N * c) ≤ 2 * (a + B * c) + c) × (2 * (a + B * c) ≤ 2 * (N * c) + c)
  unfolding N
  near = closest_half (a + B * c) c C

  pub half_above : 2 * (k * c) ≤ 2 * a + c
  half_above = go (N * c) (k * c) (B * c) a c N-c near.0
    where
      go : (nc kc bc a c : ℕ) → nc ≡ kc + bc → 2 * nc ≤ 2 * (a + bc) + c → 2 * kc ≤ 2 * a + c
      go nc kc bc a c e h = omega arith

  pub half_below : 2 * a ≤ 2 * (k * c) + c
  half_below = go (N * c) (k * c) (B * c) a c N-c near.1
    where
      go : (nc kc bc a c : ℕ) → nc ≡ kc + bc → 2 * (a + bc) ≤ 2 * nc + c → 2 * a ≤ 2 * kc + c
      go nc kc bc a c e h = omega arith

  -- taken down again, it is k
  abbrev pub lowered : Float
  lowered = sub f raised (whole_from f)

  pub lowered_is : lowered ≡ round f false k 1
  lowered_is =
      sub_at f raised (whole_from f) (B + k) 1 B 1 (zero-lt-suc 0) (zero-lt-suc 0) raised_value (whole_value f) (room B k)
      ∙ ap (λ (x : ℕ). round f false x 1) (less B k)
    where
      room : (B k : ℕ) → B * 1 ≤ (B + k) * 1
      room B k = omega arith

      less : (B k : ℕ) → (B + k) * 1 - B * 1 ≡ k
      less B k = omega arith

  pub lowered_value : HasValue lowered false k 1
  lowered_value = subst (λ (x : Float). HasValue x false k 1) (sym lowered_is) (round_whole f false k (le_trans (le_trans k_most small) (le_trans (more B) (le_of_eq (sym (twice_half f))))))
    where
      more : (b : ℕ) → b ≤ b + b
      more b = omega arith

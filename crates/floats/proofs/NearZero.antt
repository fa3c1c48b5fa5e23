-- Up to 4 a positive pattern is the number of units that its value has, and past 4 both are past it. Assumes nothing.
use Rattle.std.proofs.Common.{◌≡◌, ℕ, zero, suc, ◌+◌, ◌-◌, ◌*◌, ◌/◌, ◌^◌, ◌<◌, ◌≤◌, Bool, true, false, cond, ◌||◌, T, eqb, ltb, leb, negsuc, sym, refl, ap, ◌∙◌, le_of_eq, lt_of_le_of_lt, mul-div_cancel, arith, eqb→eq, lt→ltb, pow_pos}
use lib.Ieee.{Float, nan, inf, fin, binary32, up, down, size, eq, lt, le, fits, of_bits, to_bits}
use lib.Ieee.Digits.{size-le}
use lib.Ieee.Fits.{down_pos, and_l}
use borrow.Author.Tests.{lt-leb}
use Rattle.floats.specs.Order.{near_zero, within}
use Rattle.floats.proofs.Units.{Finite, in_units_lem, pattern_at}
use Rattle.floats.proofs.SumTests.{le_same}
use Rattle.floats.proofs.Fractions.{nought}

or_true : (p q : Bool) → T p → true ≡ (p || q)
or_true true q t = refl
or_true false q t = absurd t

-- the value with bits 4
abbrev four : Float
four = fin false 1 (negsuc 146)

-- the pattern of N units
abbrev pattern : ℕ → ℕ → ℕ
pattern N s = 0 + s * 8388608 + N / 2 ^ s

pattern_few : (N s : ℕ) → size N - 24 ≡ s → leb N 4 ≡ leb (pattern N s) 4
pattern_few N zero e = ap (λ (n : ℕ). leb n 4) (whole N)
  where
    whole : (N : ℕ) → N ≡ 0 + 0 * 8388608 + N / 1
    whole N = omega arith
pattern_few N (suc s) e = lt-leb N 4 (far N big) ∙ sym (lt-leb (pattern N (suc s)) 4 (past s (N / 2 ^ suc s)))
  where
    long : (z : ℕ) → z - 24 ≡ suc s → z ≤ 24 → ⊥
    long z e h = omega arith

    big : 2 ^ 24 ≤ N
    big = not_lt N (2 ^ 24) (λ (l : N < 2 ^ 24). long (size N) e (size-le N 24 l))
      where
        not_lt : (x y : ℕ) → (x < y → ⊥) → y ≤ x
        not_lt x y h = omega arith

    far : (n : ℕ) → 16777216 ≤ n → 4 < n
    far n h = omega arith

    past : (s q : ℕ) → 4 < 0 + suc s * 8388608 + q
    past s q = omega arith

-- a positive float with at most 4 units, and with bits at most 4
units_few : (x : Float) → T (fits binary32 x) → Finite x false → le x four ≡ leb (to_bits binary32 x) 4
units_few x F h =
    let u = in_units_lem binary32 false x F h in
    let N = u.q * 2 ^ u.j in
    let own : N * 2 ^ 149 / 2 ^ 149 ≡ N = mul-div_cancel N (pow_pos 149) in
    le_same x four N 4 (2 ^ 149) (pow_pos 149) u.value (refl, refl)
    ∙ pattern_few N (size N - 24) refl
    ∙ ap (λ (n : ℕ). leb (pattern n (size n - 24)) 4) (sym own)
    ∙ ap (λ (b : ℕ). leb b 4) (sym (pattern_at binary32 x false N (2 ^ 149) (pow_pos 149) u.value))

positive : (x : Float) → T (fits binary32 x) → T (lt nought x) → le x four ≡ leb (to_bits binary32 x) 4
unfolding lt le to_bits
positive nan F h = absurd h
positive (inf true) F h = absurd h
positive (inf false) F h = refl
positive (fin true m e) F h = absurd h
positive (fin false m e) F h = units_few (fin false m e) F refl

-- a zero of either sign
at_zero : (x : Float) → T (eq nought x) → true ≡ le x four
unfolding eq le lt
at_zero nan h = absurd h
at_zero (inf s) h = absurd h
at_zero (fin true m e) h = or_true (ltb 0 (m * up e * 2 ^ 147 + 1 * 1 * down e)) _ (lt→ltb 0 (m * up e * 2 ^ 147 + 1 * 1 * down e) (more (m * up e * 2 ^ 147) (down e) (down_pos e)))
  where
    more : (n d : ℕ) → 0 < d → 0 < n + 1 * 1 * d
    more n d h = omega arith
at_zero (fin false m e) h = or_true (ltb (m * up e * 2 ^ 147) (1 * 1 * down e)) _ (lt→ltb (m * up e * 2 ^ 147) (1 * 1 * down e) (lt_of_le_of_lt (le_of_eq (ap (λ (n : ℕ). n * 2 ^ 147) (none (m * up e) (down e) (eqb→eq (0 * 1 * down e) (m * up e * 1) (and_l (eqb (0 * 1 * down e) (m * up e * 1)) _ h))))) (some (down e) (down_pos e))))
  where
    none : (n d : ℕ) → 0 * 1 * d ≡ n * 1 → n ≡ 0
    none n d e = omega arith

    some : (d : ℕ) → 0 < d → 0 < 1 * 1 * d
    some d h = omega arith

pub near_zero_is : (x : Float) → T (fits binary32 x) → within nought x four ≡ near_zero x
unfolding near_zero of_bits le
near_zero_is x F = go (eq nought x) (lt nought x) (at_zero x) (positive x F)
  where
    go : (p q : Bool) → (T p → true ≡ le x four) → (T q → le x four ≡ leb (to_bits binary32 x) 4) → cond (q || p) (le x four) false ≡ cond p true (cond q (leb (to_bits binary32 x) 4) false)
    go true true a b = sym (a tt)
    go true false a b = sym (a tt)
    go false true a b = b tt
    go false false a b = refl

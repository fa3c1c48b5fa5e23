-- The numbers of bytes, from 0 to 1: 1.0 and 0.0 are neutral for them, the clamp passes them, and each leads back to its byte, computed at all 256.
use Rattle.std.proofs.Common.{◌≡◌, ℕ, zero, suc, ◌<◌, ◌≤◌, Bool, true, false, ◌&&◌, T, eqb, List, [], ◌∷◌, length, get_or, ℤ, pos, negsuc, sym, refl, ap, ◌∙◌, zero-le, le_of_suc-le-suc, not-suc-le-zero, mul-le-mul_right, arith, lit<, eqb→eq}
use mathlib.Core.Bool.{beq}
use lib.Ieee.{Float, nan, inf, fin, binary32, round, add, mul, div, eq, lt, of_int, of_bits, to_bits, to_unsigned}
use lib.Ieee.Fits.{and_l, and_r}
use lib.Ieee.Order.{round_mono}
use Rattle.floats.specs.Channel.{normalized, from_normalized}
use Rattle.floats.specs.Constants.{c0, c1}
use Rattle.floats.specs.Operators.{◌⊕◌, ◌⊗◌}
use Rattle.floats.specs.Order.{near_zero, bound}
use Rattle.floats.proofs.NotAbove.{le_not_gt}
use Rattle.floats.proofs.EveryByte.{every, below}

-- ---- a test that two floats are one
same_exponent : ℤ → ℤ → Bool
same_exponent (pos a) (pos b) = eqb a b
same_exponent (pos a) (negsuc b) = false
same_exponent (negsuc a) (pos b) = false
same_exponent (negsuc a) (negsuc b) = eqb a b

same_float_lem : Float → Float → Bool
same_float_lem nan y = false
same_float_lem (inf s) y = false
same_float_lem (fin s m e) nan = false
same_float_lem (fin s m e) (inf t) = false
same_float_lem (fin s m e) (fin t n d) = beq s t && (eqb m n && same_exponent e d)

same_sign : (s t : Bool) → T (beq s t) → s ≡ t
same_sign true true h = refl
same_sign true false h = absurd h
same_sign false true h = absurd h
same_sign false false h = refl

same_exponent_lem : (e d : ℤ) → T (same_exponent e d) → e ≡ d
unfolding same_exponent
same_exponent_lem (pos a) (pos b) h = ap pos (eqb→eq a b h)
same_exponent_lem (pos a) (negsuc b) h = absurd h
same_exponent_lem (negsuc a) (pos b) h = absurd h
same_exponent_lem (negsuc a) (negsuc b) h = ap negsuc (eqb→eq a b h)

same_float : (x y : Float) → T (same_float_lem x y) → x ≡ y
unfolding same_float_lem
same_float nan y h = absurd h
same_float (inf s) y h = absurd h
same_float (fin s m e) nan h = absurd h
same_float (fin s m e) (inf t) h = absurd h
same_float (fin s m e) (fin t n d) h =
    let p = same_sign s t (and_l (beq s t) (eqb m n && same_exponent e d) h) in
    let r = and_r (beq s t) (eqb m n && same_exponent e d) h in
    let q = eqb→eq m n (and_l (eqb m n) (same_exponent e d) r) in
    let z = same_exponent_lem e d (and_r (eqb m n) (same_exponent e d) r) in
    cc

-- ---- what is computed of each byte c and its number x
abbrev tests : ℕ → Float → List Bool
tests c x =
    same_float_lem (x ⊗ c1) x ∷
    same_float_lem (c1 ⊗ x) x ∷
    same_float_lem (x ⊗ c0) c0 ∷
    same_float_lem (c0 ⊗ x) c0 ∷
    same_float_lem (x ⊕ c0) x ∷
    same_float_lem (c0 ⊕ x) x ∷
    same_float_lem x (round binary32 false c 255) ∷
    eqb (from_normalized x) c ∷
    beq (near_zero x) (eqb c 0) ∷
    []

all_true : List Bool → Bool
all_true [] = true
all_true (b ∷ l) = b && all_true l

each_true : (l : List Bool) (i : ℕ) → i < length l → T (all_true l) → T (get_or l i false)
unfolding all_true
each_true [] i h t = absurd (not-suc-le-zero h)
each_true (b ∷ l) zero h t = and_l b (all_true l) t
each_true (b ∷ l) (suc i) h t = each_true l i (le_of_suc-le-suc h) (and_r b (all_true l) t)

all_passed : T (every (λ c. all_true (tests c (normalized c))) 256)
unfolding every all_true same_float_lem same_exponent normalized from_normalized near_zero round add mul div eq lt of_int of_bits to_bits to_unsigned
all_passed = tt

module _ (c : ℕ) (h : c ≤ 255) where
  -- the test i of them
  passed : (i : ℕ) → i < 9 → T (get_or (tests c (normalized c)) i false)
  passed i l = each_true (tests c (normalized c)) i l (below (λ c. all_true (tests c (normalized c))) 256 all_passed c (omega arith))

  pub times_one : normalized c ⊗ c1 ≡ normalized c
  times_one = same_float (normalized c ⊗ c1) (normalized c) (passed 0 (lit< tt))

  pub one_times : c1 ⊗ normalized c ≡ normalized c
  one_times = same_float (c1 ⊗ normalized c) (normalized c) (passed 1 (lit< tt))

  pub times_zero : normalized c ⊗ c0 ≡ c0
  times_zero = same_float (normalized c ⊗ c0) c0 (passed 2 (lit< tt))

  pub zero_times : c0 ⊗ normalized c ≡ c0
  zero_times = same_float (c0 ⊗ normalized c) c0 (passed 3 (lit< tt))

  pub plus_zero : normalized c ⊕ c0 ≡ normalized c
  plus_zero = same_float (normalized c ⊕ c0) (normalized c) (passed 4 (lit< tt))

  pub zero_plus : c0 ⊕ normalized c ≡ normalized c
  zero_plus = same_float (c0 ⊕ normalized c) (normalized c) (passed 5 (lit< tt))

  rounded : normalized c ≡ round binary32 false c 255
  rounded = same_float (normalized c) (round binary32 false c 255) (passed 6 (lit< tt))

  pub there_and_back : from_normalized (normalized c) ≡ c
  there_and_back = eqb→eq (from_normalized (normalized c)) c (passed 7 (lit< tt))

  -- only the byte 0 is near zero
  pub near_zero_byte : near_zero (normalized c) ≡ eqb c 0
  near_zero_byte = same_sign (near_zero (normalized c)) (eqb c 0) (passed 8 (lit< tt))

pub zero_plus_zero : c0 ⊕ c0 ≡ c0
unfolding add of_bits
zero_plus_zero = refl

pub zero_times_one : c0 ⊗ c1 ≡ c0
unfolding mul of_bits
zero_times_one = refl

-- ---- the order
pub in_order : (c d : ℕ) → c ≤ d → d ≤ 255 → lt (normalized d) (normalized c) ≡ false
in_order c d l h = le_not_gt (normalized c) (normalized d) (rw (rounded c (omega arith), rounded d h) (round_mono binary32 c 255 d 255 (lit< tt) (lit< tt) (mul-le-mul_right 255 l)))

pub zero_number : normalized 0 ≡ c0
unfolding normalized div of_int of_bits
zero_number = refl

-- the clamp to the number of a byte that is no less passes the number of a byte
pub clamp_passes : (c d : ℕ) → c ≤ d → d ≤ 255 → bound c0 (normalized c) (normalized d) ≡ normalized c
clamp_passes c d l h = rw (in_order c d l h, not_negative c (omega arith))
  where
    not_negative : (c : ℕ) → c ≤ 255 → lt (normalized c) c0 ≡ false
    not_negative c h = ap (lt (normalized c)) (sym zero_number) ∙ in_order 0 c zero-le h

pub top_number : normalized 255 ≡ c1
unfolding normalized div of_int of_bits
top_number = refl

-- `simp neutral` works out a sum of products with 0.0 and 1.0 where one summand is the number of a byte
pub ruleset neutral = (zero_number, times_one, one_times, times_zero, zero_times, zero_times_one, plus_zero, zero_plus, zero_plus_zero, there_and_back)

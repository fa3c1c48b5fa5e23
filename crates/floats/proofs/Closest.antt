-- The whole number closest to a fraction: it is within a half of it, and even where it is a half away. Assumes nothing.
use Rattle.std.proofs.Common.{◌≡◌, ℕ, suc, ◌+◌, ◌*◌, ◌/◌, ◌%◌, ◌<◌, ◌≤◌, not, T, eqb, subst, mul-le-mul_right, mod-lt, add-mul, div-add-mod', arith, eqb→eq, leb→le}
use Prim.Native.Nat.{compare, Ordering}
use lib.Dec.{is_le, compare_is_eq, nleb→lt, eqb_refl}
use lib.Arith.{lt_of_le-ne}
use lib.Ieee.{nearest}
use lib.Ieee.Nearest.{closest}

-- ---- what `compare` says
abbrev pub Cmp : Ordering → ℕ → ℕ → Type 0
Cmp Ordering.lt a b = a < b
Cmp Ordering.eq a b = a ≡ b
Cmp Ordering.gt a b = b < a

pub cmp : (a b : ℕ) → Cmp (compare a b) a b
cmp a b = go (compare a b) (leb→le a b) (nleb→lt a b) (eqb→eq a b) (λ (e : a ≡ b). subst (λ (x : ℕ). T (eqb a x)) e (eqb_refl a))
  where
    go : (o : Ordering) → (T (is_le o) → a ≤ b) → (T (not (is_le o)) → b < a) → (T (compare_is_eq o) → a ≡ b) → (a ≡ b → T (compare_is_eq o)) → Cmp o a b
    go Ordering.lt h k e n = lt_of_le-ne (h tt) n
    go Ordering.eq h k e n = e tt
    go Ordering.gt h k e n = k tt

-- ---- n is nearest to a / b
pub record Closest (a b n : ℕ) : Type 0 where
  pub over : 2 * (n * b) ≤ 2 * a + b
  pub under : 2 * a ≤ 2 * (n * b) + b
  pub tie : 2 * a ≡ 2 * (n * b) + b → n % 2 ≡ 0

pick : (a b q r : ℕ) (o : Ordering) → q * b + r ≡ a → r < b → Cmp o (r * 2) b → Closest a b (nearest q o)
pick a b q r Ordering.lt e l c = record { over = omega arith; under = omega arith; tie = λ t. omega arith }
pick a b q r Ordering.eq e l c =
    let s = add-mul q (q % 2) b in
    let m : q % 2 * b ≤ 1 * b = mul-le-mul_right b (let z : q % 2 ≤ 1 = omega arith in z) in
    record { over = omega arith; under = omega arith; tie = λ t. omega arith }
pick a b q r Ordering.gt e l c =
    let s : suc q * b ≡ q * b + b = omega arith in
    record { over = omega arith; under = omega arith; tie = λ t. omega arith }

pub closest_is : (a b : ℕ) → 0 < b → Closest a b (closest a b)
closest_is a b B = pick a b (a / b) (a % b) (compare (a % b * 2) b) (div-add-mod' a b) (mod-lt a B) (cmp (a % b * 2) b)

pub closest_half : (a b : ℕ) → 0 < b → (2 * (closest a b * b) ≤ 2 * a + b) × (2 * a ≤ 2 * (closest a b * b) + b)
closest_half a b B = let n = closest_is a b B in (n.over, n.under)

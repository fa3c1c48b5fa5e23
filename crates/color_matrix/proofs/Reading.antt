-- What a byte of the result reads: it depends on its pixel alone, and reads itself.
use Prim.Native.Nat.{ℕ, ◌+◌, ◌*◌, ◌/◌, ◌%◌, ◌<◌}
use mathlib.Core.Path.{◌≡◌, refl, sym, ap, ◌∙◌}
use mathlib.Core.Bool.{cond}
use mathlib.Core.List.{List}
use native.Mathlib.Nat.{mul_assoc}
use native.Mathlib.Omega.{arith}
use lib.ListN.{length, get_or}
use lib.Dec.{eqb}
use lib.Ieee.{Float}
use Rattle.sheet.proofs.Tabulated.{length_tabulate, get_d_tabulate}
use Rattle.color_matrix.specs.declared.ColorMatrix.{ColorMatrix}
use Rattle.color_matrix.specs.declared.ColorMatrix.TheVariants.{Matrix, Saturate, HueRotate, LuminanceToAlpha}
use Rattle.pool.specs.Pool.{numbers_of}
use Rattle.floats.specs.Channel.{from_normalized}
use Rattle.color_matrix.specs.Rows.{row_of, colour_row_of, sum, colour_sum, luminance}
use Rattle.color_matrix.specs.Coefficients.{at_least_zero, saturation, rotation}
use Rattle.color_matrix.specs.ColorMatrix.{components_at, matrix_at, colour_at, luminance_at, matrixed, coloured, luminance_to_alpha, recoloured}
use Rattle.color_matrix.specs.Reads.{Reads}

-- byte k of the result
recoloured_at : ColorMatrix → List Float → List ℕ → ℕ → ℕ
recoloured_at (Matrix m) pool s k = matrix_at (numbers_of m pool) s k
recoloured_at (Saturate v) pool s k = colour_at (saturation (at_least_zero v)) s k
recoloured_at (HueRotate c n) pool s k = colour_at (rotation c n) s k
recoloured_at LuminanceToAlpha pool s k = luminance_at s k

pub length_recoloured : (m : ColorMatrix) (pool : List Float) (s : List ℕ) → length (recoloured m pool s) ≡ length s
unfolding matrixed coloured luminance_to_alpha
length_recoloured (Matrix m) pool s = length_tabulate (length s) (matrix_at (numbers_of m pool) s)
length_recoloured (Saturate v) pool s = length_tabulate (length s) (colour_at (saturation (at_least_zero v)) s)
length_recoloured (HueRotate c n) pool s = length_tabulate (length s) (colour_at (rotation c n) s)
length_recoloured LuminanceToAlpha pool s = length_tabulate (length s) (luminance_at s)

byte_recoloured : (m : ColorMatrix) (pool : List Float) (s : List ℕ) (k : ℕ) → k < length s → get_or (recoloured m pool s) k 0 ≡ recoloured_at m pool s k
unfolding matrixed coloured luminance_to_alpha recoloured_at
byte_recoloured (Matrix m) pool s k l = get_d_tabulate (length s) (matrix_at (numbers_of m pool) s) k l
byte_recoloured (Saturate v) pool s k l = get_d_tabulate (length s) (colour_at (saturation (at_least_zero v)) s) k l
byte_recoloured (HueRotate c n) pool s k l = get_d_tabulate (length s) (colour_at (rotation c n) s) k l
byte_recoloured LuminanceToAlpha pool s k l = get_d_tabulate (length s) (luminance_at s) k l

module _ (a b : List ℕ) (k : ℕ) (agree : (j : ℕ) → Reads k j → get_or a j 0 ≡ get_or b j 0) where
  components_read : components_at a k ≡ components_at b k
  components_read =
      let e₀ = agree (4 * (k / 4)) (omega arith) in
      let e₁ = agree (4 * (k / 4) + 1) (omega arith) in
      let e₂ = agree (4 * (k / 4) + 2) (omega arith) in
      let e₃ = agree (4 * (k / 4) + 3) (omega arith) in
      rw (e₀, e₁, e₂, e₃)

  colour_read : (m : List Float) → colour_at m a k ≡ colour_at m b k
  colour_read m =
      ap (λ x. cond (eqb (k % 4) 3) x (from_normalized (colour_sum (colour_row_of m (k % 4)) (components_at a k)))) (agree k refl) ∙ ap (λ x. cond (eqb (k % 4) 3) (get_or b k 0) (from_normalized (colour_sum (colour_row_of m (k % 4)) x))) components_read

  at_read : (m : ColorMatrix) (pool : List Float) → recoloured_at m pool a k ≡ recoloured_at m pool b k
  unfolding recoloured_at
  at_read (Matrix m) pool = ap (λ x. from_normalized (sum (row_of (numbers_of m pool) (k % 4)) x)) components_read
  at_read (Saturate v) pool = colour_read (saturation (at_least_zero v))
  at_read (HueRotate c n) pool = colour_read (rotation c n)
  at_read LuminanceToAlpha pool = ap (λ x. cond (eqb (k % 4) 3) (from_normalized (colour_sum luminance x)) 0) components_read

-- sheets that agree on what byte k reads give the same byte k
pub reads_all : (m : ColorMatrix) (pool : List Float) (n : ℕ) (a b : List ℕ) (k : ℕ) → length a ≡ n → length b ≡ n → k < n → ((j : ℕ) → Reads k j → get_or a j 0 ≡ get_or b j 0) → get_or (recoloured m pool a) k 0 ≡ get_or (recoloured m pool b) k 0
reads_all m pool n a b k p q l agree =
    byte_recoloured m pool a k (omega arith) ∙ (at_read a b k agree m pool ∙ sym (byte_recoloured m pool b k (omega arith)))

-- a byte reads itself
pub reads_something : (k : ℕ) → Reads k k
reads_something k = refl

pub reads_inside : (w h k j : ℕ) → k < 4 * w * h → Reads k j → j < 4 * w * h
reads_inside w h k j l r = omega (arith, mul_assoc 4 w h)

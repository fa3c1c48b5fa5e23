-- Where a byte lies: every byte of a sheet is a channel of a pixel in a column and a row, and the other way round.
use Prim.Native.Nat.{ℕ, suc, ◌+◌, ◌*◌, ◌/◌, ◌%◌, ◌<◌}
use mathlib.Core.Path.{◌≡◌, ap, ◌∙◌}
use native.Mathlib.Nat.{mul_assoc, mul_comm, suc-mul, mul-le-mul_right, div-lt_iff_lt-mul, mod-lt, div-add-mod', mul-add-div_right, mul-add-mod_self_right, mod-eq_of_lt, div-eq_of_lt}
use native.Mathlib.Omega.{arith}
use Rattle.sheet.specs.Pixel.{column, row, byte_at}

-- 4 * w * n bytes are n rows of w pixels
pub rows : (w n : ℕ) → 4 * w * n ≡ 4 * (n * w)
rows w n = mul_assoc 4 w n ∙ ap (λ (m : ℕ). 4 * m) (mul_comm w n)

pub place_inside : (w h x y c : ℕ) → x < w → y < h → c < 4 → byte_at w x y c < 4 * w * h
place_inside w h x y c p q r = omega (arith, rows w h, suc-mul y w, mul-le-mul_right {m = suc y} {n = h} w q)

module _ (w h k : ℕ) (p : 0 < w) (q : k < 4 * w * h) where
  pub column_inside : column w k < w
  column_inside = mod-lt (k / 4) p

  pub row_inside : row w k < h
  row_inside = (div-lt_iff_lt-mul p).1 (omega (arith, rows w h))

  pub byte_place : k ≡ byte_at w (column w k) (row w k) (k % 4)
  byte_place = omega (arith, div-add-mod' (k / 4) w)

module _ (w x y c : ℕ) (p : x < w) (q : c < 4) where
  pixel_of_place : byte_at w x y c / 4 ≡ y * w + x
  pixel_of_place = omega arith

  pub column_of_place : column w (byte_at w x y c) ≡ x
  column_of_place = ap (λ (n : ℕ). n % w) pixel_of_place ∙ (mul-add-mod_self_right y w x ∙ mod-eq_of_lt p)

  pub row_of_place : row w (byte_at w x y c) ≡ y
  row_of_place =
      ap (λ (n : ℕ). n / w) pixel_of_place ∙ (mul-add-div_right (let z : 0 < w = omega arith in z) y x ∙ (ap (λ (n : ℕ). y + n) (div-eq_of_lt p) ∙ omega arith))

  pub channel_of_place : byte_at w x y c % 4 ≡ c
  channel_of_place = omega arith

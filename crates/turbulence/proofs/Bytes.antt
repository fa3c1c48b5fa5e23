-- The bytes of a pixel are the definition's, and the strips fill the sheet.
use Prim.Native.Nat.{ℕ, suc, ◌+◌, ◌*◌, ◌≤◌, ◌<◌}
use mathlib.Core.Path.{◌≡◌, sym, ◌∙◌}
use mathlib.Core.Bool.{Bool, true, false, cond, true≢false}
use native.Mathlib.Nat.{suc-mul, mul-le-mul_right}
use native.Mathlib.Omega.{arith}
use lib.Dec.{leb, leb→le}
use lib.Ieee.{Float, neg}
use Rattle.floats.proofs.Tests.{T_true}
use Rattle.sheet.specs.Answer.{Done}
use Rattle.sheet.specs.Pixel.{channel, byte_at}
use Rattle.sheet.specs.Tabulate.{tabulate}
use Rattle.sheet.proofs.Answers.{cond_done}
use Rattle.sheet.proofs.Filling.{channel_of_lem}
use Rattle.sheet.proofs.Places.{rows, column_of_place, row_of_place, channel_of_place}
use Rattle.turbulence.specs.declared.Turbulence.{Turbulence}
use Rattle.turbulence.specs.declared.tables.Tables.{Tables}
use Rattle.turbulence.specs.Constants.{d0, d1, sixteenth, d16, d4096}
use Rattle.turbulence.specs.Noise.{summed}
use Rattle.turbulence.specs.Tables.{selector_of, gradients_x, gradients_y}
use Rattle.turbulence.specs.Turbulence.{both_within, all_finite, all_in_range, turbulence_answer, value_by, byte_of, drawn}
use Rattle.turbulence.specs.Inner.Rows.{column_point, row_point}
use Rattle.turbulence.specs.Inner.Drawn.{byte_by, bytes_by, PixelBy}

-- ---- tests in order
then_true : (p q : Bool) → cond p q false ≡ true → q ≡ true
then_true true q e = e
then_true false q e = absurd (true≢false (sym e))

-- who passes the tests has 8 octaves at most
pub octaves_few : (t : Turbulence) → turbulence_answer t ≡ Done → t.num_octaves ≤ 8
unfolding turbulence_answer all_in_range
octaves_few t e =
    let range = (cond_done (all_in_range t) _ _ (cond_done (all_finite t) _ _ e).1).0 in
    let scales = then_true (both_within (neg d4096) t.offset_x t.offset_y d4096) _ range in
    let frequencies = then_true (both_within sixteenth t.sx t.sy d16) _ scales in
    let octaves = then_true (both_within d0 t.base_frequency_x t.base_frequency_y d16) (leb t.num_octaves 8) frequencies in
    leb→le t.num_octaves 8 (T_true octaves)

-- a byte of a channel's sum at a pixel
module _ (t : Turbulence) (tables : Tables) (c x y : ℕ) where
  pub byte_is : {s : Float} {b : ℕ} → s ≡ summed t.fractal_noise tables.selector tables.x tables.y c t.num_octaves (column_point t x) (row_point t y) d1 d0 → b ≡ byte_of t.fractal_noise s → b ≡ byte_by t tables c x y
  unfolding value_by
  byte_is {s} {b} e f = rw (f, e)

-- ---- rows
-- a row of a strip lies within the sheet
pub row_fits : (w h first count y : ℕ) → first + count ≤ w → y < h → 4 * (y * w + first) + 4 * count ≤ 4 * w * h
row_fits w h first count y p q = omega (arith, rows w h, suc-mul y w, mul-le-mul_right {m = suc y} {n = h} w q)

module _ (t : Turbulence) (tables : Tables) (w : ℕ) where
  pub drawn_pixel : (first i y : ℕ) {p : ℕ} → first + i < w → PixelBy t tables (first + i) y p → (c : ℕ) → c < 4 → channel c p ≡ bytes_by t tables w (4 * (y * w + first) + (4 * i + c))
  drawn_pixel first i y {p} inside q c h =
      let e : 4 * (y * w + first) + (4 * i + c) ≡ byte_at w (first + i) y c = omega arith in
      channel_of_lem (λ d. byte_by t tables d (first + i) y) q c h
      ∙ rw (e, column_of_place w (first + i) y c inside h, row_of_place w (first + i) y c inside h, channel_of_place w (first + i) y c inside h)

-- by the seed's tables the bytes are the result
pub drawn_by : (t : Turbulence) (tables : Tables) (w h : ℕ) → tables.selector ≡ selector_of t.seed → tables.x ≡ gradients_x t.seed → tables.y ≡ gradients_y t.seed → tabulate (4 * w * h) (bytes_by t tables w) ≡ drawn t w h
unfolding drawn
drawn_by t tables w h e f g = rw (e, f, g)

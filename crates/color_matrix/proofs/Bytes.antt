-- The bytes of a pixel are the definition's: they lie in one pixel, so its components are those of each of its bytes.
use Prim.Native.Nat.{ℕ, ◌+◌, ◌*◌, ◌/◌, ◌%◌, ◌<◌}
use mathlib.Core.Path.{◌≡◌, ap, ◌∙◌}
use mathlib.Core.Bool.{cond}
use mathlib.Core.List.{List}
use native.Mathlib.Omega.{arith}
use lib.ListN.{get_or}
use lib.Dec.{eqb}
use lib.Ieee.{Float}
use Rattle.floats.specs.Channel.{from_normalized}
use Rattle.sheet.specs.Pixel.{channel, Channels, PixelAt}
use Rattle.sheet.proofs.Filling.{channel_of_lem, pixel_channel}
use Rattle.color_matrix.specs.declared.pixel.Components.{Components}
use Rattle.color_matrix.specs.declared.pixel.Row.{Row}
use Rattle.color_matrix.specs.declared.pixel.ColourRow.{ColourRow}
use Rattle.color_matrix.specs.Rows.{components_of, row_of, colour_row_of, sum, colour_sum, luminance}
use Rattle.color_matrix.specs.Inner.Pixels.{ByMatrix, ByColours}
use Rattle.color_matrix.specs.ColorMatrix.{components_at, matrix_at, colour_at, luminance_at}

-- p is the pixel at k; v is the pixel that is stored there
module _ (s : List ℕ) (k : ℕ) {p : ℕ} (q : PixelAt s k p) (aligned : k % 4 ≡ 0) where
  -- a byte of the pixel, by a function of its channel and of its pixel's components
  byte_of_pixel : (f : ℕ → Components → ℕ) (c : ℕ) → c < 4 → f c (components_of p) ≡ f ((k + c) % 4) (components_at s (k + c))
  byte_of_pixel f c h =
      let z : (k + c) % 4 ≡ c = omega arith in
      let e : 4 * ((k + c) / 4) ≡ k = omega arith in
      rw (z, e, q.red, q.green, q.blue, q.alpha)

  pub matrix_pixel : (m : List Float) {v : ℕ} {r g b a : Row} → r ≡ row_of m 0 → g ≡ row_of m 1 → b ≡ row_of m 2 → a ≡ row_of m 3
      → ByMatrix r g b a p v → (c : ℕ) → c < 4 → channel c v ≡ matrix_at m s (k + c)
  matrix_pixel m e₀ e₁ e₂ e₃ n c h =
      channel_of_lem (λ d. from_normalized (sum (row_of m d) (components_of p))) (rw (e₀, e₁, e₂, e₃) at n) c h ∙ byte_of_pixel (λ d x. from_normalized (sum (row_of m d) x)) c h

  pub colour_pixel : (m : List Float) {v : ℕ} {r g b : ColourRow} → r ≡ colour_row_of m 0 → g ≡ colour_row_of m 1 → b ≡ colour_row_of m 2
      → ByColours r g b p v → (c : ℕ) → c < 4 → channel c v ≡ colour_at m s (k + c)
  colour_pixel m e₀ e₁ e₂ n c h =
      channel_of_lem (λ d. cond (eqb d 3) (channel d p) (from_normalized (colour_sum (colour_row_of m d) (components_of p)))) (rw (e₀, e₁, e₂) at n) c h
      ∙ (ap (λ x. cond (eqb c 3) x (from_normalized (colour_sum (colour_row_of m c) (components_of p)))) (pixel_channel s k q c h)
      ∙ byte_of_pixel (λ d x. cond (eqb d 3) (get_or s (k + c) 0) (from_normalized (colour_sum (colour_row_of m d) x))) c h)

  pub luminance_pixel : {v : ℕ} → Channels v 0 0 0 (from_normalized (colour_sum luminance (components_of p))) → (c : ℕ) → c < 4 → channel c v ≡ luminance_at s (k + c)
  luminance_pixel n c h =
      channel_of_lem (λ d. cond (eqb d 3) (from_normalized (colour_sum luminance (components_of p))) 0) n c h ∙ byte_of_pixel (λ d x. cond (eqb d 3) (from_normalized (colour_sum luminance x)) 0) c h

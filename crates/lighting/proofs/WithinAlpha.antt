-- A specular lighting's colours are within their alpha.
use Prim.Native.Nat.{ℕ, zero, suc, ◌+◌, ◌*◌, ◌/◌, ◌%◌, ◌≤◌, ◌<◌, max}
use mathlib.Core.Path.{◌≡◌}
use mathlib.Core.Bool.{Bool, true, false, cond}
use mathlib.Core.List.{List}
use native.Mathlib.Nat.{mul_assoc}
use native.Mathlib.Omega.{arith}
use lib.ListN.{get_or}
use lib.Dec.{eqb}
use lib.Ieee.{Float}
use Rattle.sheet.specs.Pixel.{column, row}
use Rattle.lighting.specs.declared.light.LightSource.{LightSource}
use Rattle.lighting.specs.declared.light.Reflection.TheVariants.{Specular}
use Rattle.lighting.specs.declared.pixel.Color.{Color}
use Rattle.lighting.specs.Lighting.{lit_colour, colour_of, lit_channel, factor_at, small, lit, specular}
use Rattle.lighting.proofs.Reading.{byte_lit}

module _ (color : Color) (f : Float) where
  largest : ℕ
  largest = max (max (lit_colour color.red f) (lit_colour color.green f)) (lit_colour color.blue f)

  colour_within : (c : ℕ) → lit_colour (colour_of color c) f ≤ largest
  unfolding largest
  colour_within zero = omega arith
  colour_within (suc zero) = omega arith
  colour_within (suc (suc c)) = omega arith

  channel_within : (c : ℕ) → lit_channel Specular color f c ≤ lit_channel Specular color f 3
  unfolding largest
  channel_within c = go (eqb c 3)
    where
      go : (t : Bool) → cond t largest (lit_colour (colour_of color c) f) ≤ largest
      go true = omega arith
      go false = colour_within c

both_or_none : (t : Bool) {a b : ℕ} → a ≤ b → cond t 0 a ≤ cond t 0 b
both_or_none true l = omega arith
both_or_none false l = l

-- byte k of a pixel is at most the pixel's alpha
pub within_alpha : (light : LightSource) (scale constant : Float) (color : Color) (w h : ℕ) (s : List ℕ) (k : ℕ) → k < 4 * w * h → get_or (lit (specular light scale constant color) w h s) k 0 ≤ get_or (lit (specular light scale constant color) w h s) (4 * (k / 4) + 3) 0
within_alpha light scale constant color w h s k l =
    let m = specular light scale constant color in
    let n = 4 * (k / 4) + 3 in
    let same : n / 4 ≡ k / 4 = omega arith in
    let alpha : n % 4 ≡ 3 = omega arith in
    let inside : n < 4 * w * h = omega (arith, mul_assoc 4 w h) in
    rw (byte_lit m w h s k l, byte_lit m w h s n inside, same, alpha) (both_or_none (small w h) (channel_within color (factor_at m w h s (column w k) (row w k)) (k % 4)))

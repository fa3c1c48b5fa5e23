-- The bytes of a pixel are the definition's: they lie in one pixel of each input, and share its alpha.
use Prim.Native.Nat.{ℕ, ◌+◌, ◌*◌, ◌/◌, ◌%◌, ◌<◌}
use mathlib.Core.Path.{◌≡◌, refl, ◌∙◌}
use mathlib.Core.Bool.{Bool, true, false, cond}
use mathlib.Core.List.{List}
use native.Mathlib.Omega.{arith}
use Rattle.sheet.specs.Pixel.{channel, Channels, PixelAt}
use Rattle.sheet.proofs.Filling.{channel_of_lem, pixel_channel}
use Rattle.composite.specs.declared.pixel.Factors.{Factors}
use Rattle.composite.specs.Composite.{composed_at}
use Rattle.composite.specs.Inner.Pixels.{byte, Composed}

-- p₁ and p₂ are the pixels at k of the two inputs, and v the pixel that is stored there
pub composed_pixel : (f : Factors) (s₁ s₂ : List ℕ) (k : ℕ) {p₁ p₂ v : ℕ} → PixelAt s₁ k p₁ → PixelAt s₂ k p₂ → k % 4 ≡ 0 → Composed f p₁ p₂ v → (c : ℕ) → c < 4 → channel c v ≡ composed_at f s₁ s₂ (k + c)
composed_pixel f s₁ s₂ k {p₁} {p₂} {v} q₁ q₂ aligned n c h =
    let z : (k + c) % 4 ≡ c = omega arith in
    let a : 4 * ((k + c) / 4) + 3 ≡ k + 3 = omega arith in
    channel_of_lem (λ d. byte d f p₁ p₂) n c h ∙ rw (pixel_channel s₁ k q₁ c h, pixel_channel s₂ k q₂ c h, q₁.alpha, q₂.alpha, z, a)

-- a pixel that is cleared has cleared channels
pub cleared_channels : (t : Bool) {p q r g b a : ℕ} → Channels q r g b a → p ≡ cond t 0 q → Channels p (cond t 0 r) (cond t 0 g) (cond t 0 b) (cond t 0 a)
cleared_channels true c e = rw e (record { number = refl; red = refl; green = refl; blue = refl; alpha = refl })
cleared_channels false c e = rw e c

-- A channel that is looked up in its function's bytes is the definition's byte, for whichever of the four it is.
use Prim.Native.Nat.{ℕ, zero, suc, ◌+◌, ◌%◌, ◌<◌}
use mathlib.Core.Path.{◌≡◌, ap, ◌∙◌}
use mathlib.Core.List.{List}
use native.Mathlib.Omega.{arith}
use lib.ListN.{length, get_or}
use Rattle.sheet.specs.Pixel.{channel, PixelAt}
use Rattle.sheet.specs.Tabulate.{tabulate}
use Rattle.sheet.proofs.Filling.{channel_of_lem, pixel_channel}
use Rattle.sheet.proofs.Tabulated.{get_d_tabulate, tabulate_ext}
use Rattle.component_transfer.specs.Inner.Lookup.{LookedUp}
use Rattle.component_transfer.specs.ComponentTransfer.{of_channel, transfer_at, transferred}

-- byte j, looked up in its channel's bytes
abbrev pub looked_up_at : (red green blue alpha s : List ℕ) → ℕ → ℕ
looked_up_at red green blue alpha s j = get_or (of_channel red green blue alpha (j % 4)) (get_or s j 0) 0

-- the pixel at k with each channel looked up in its own bytes
pub pixel_looked_up : (red green blue alpha s : List ℕ) (k : ℕ) {p v : ℕ} → PixelAt s k p → k % 4 ≡ 0 → LookedUp red green blue alpha p v → (c : ℕ) → c < 4 → channel c v ≡ looked_up_at red green blue alpha s (k + c)
pixel_looked_up red green blue alpha s k {p} {v} q a new c h =
    let z : (k + c) % 4 ≡ c = omega arith in
    channel_of_lem (λ d. get_or (of_channel red green blue alpha d) (channel d p) 0) new c h ∙ (ap (λ y. get_or (of_channel red green blue alpha c) y 0) (pixel_channel s k q c h) ∙ rw z)

module _ (r g b a : ℕ → ℕ) {red green blue alpha : List ℕ} (e₀ : red ≡ tabulate 256 r) (e₁ : green ≡ tabulate 256 g) (e₂ : blue ≡ tabulate 256 b) (e₃ : alpha ≡ tabulate 256 a) where
  each_channel : (c : ℕ) → of_channel red green blue alpha c ≡ tabulate 256 (of_channel r g b a c)
  each_channel zero = e₀
  each_channel (suc zero) = e₁
  each_channel (suc (suc zero)) = e₂
  each_channel (suc (suc (suc c))) = e₃

  -- a sheet of bytes whose bytes are looked up is transferred
  pub looked_up_all : (s : List ℕ) → ((j : ℕ) → get_or s j 0 < 256) → tabulate (length s) (looked_up_at red green blue alpha s) ≡ transferred r g b a s
  unfolding transferred
  looked_up_all s small =
      tabulate_ext (length s) (looked_up_at red green blue alpha s) (transfer_at r g b a s)
      (λ j l. ap (λ t. get_or t (get_or s j 0) 0) (each_channel (j % 4)) ∙ get_d_tabulate 256 (of_channel r g b a (j % 4)) (get_or s j 0) (small j))

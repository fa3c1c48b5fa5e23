-- Sums that are finished along a row of a strip.
use Prim.Native.Nat.{ℕ, ◌+◌, ◌*◌, ◌/◌, ◌%◌, ◌≤◌, ◌<◌}
use mathlib.Core.Path.{◌≡◌, refl, sym, ap, ◌∙◌}
use mathlib.Core.List.{List}
use native.Mathlib.Nat.{add-zero}
use native.Mathlib.Omega.{arith}
use borrow.Rule.Slice.PartMut.{put_mid}
use lib.ListN.{length, get_or, replicate}
use lib.Ieee.{Float, nan}
use Rattle.std.proofs.lemmas.Grind.{elements}
use Rattle.floats.specs.Constants.{c0}
use Rattle.sheet.specs.Pixel.{channel, column, row, byte_at}
use Rattle.sheet.specs.Inner.Strips.{Changed}
use Rattle.sheet.proofs.Filling.{channel_of_lem, channels_as}
use Rattle.sheet.proofs.Places.{column_of_place, row_of_place}
use Rattle.sheet.proofs.Strips.{changed_as}
use Rattle.convolve_matrix.specs.declared.ConvolveMatrix.{ConvolveMatrix}
use Rattle.convolve_matrix.specs.ConvolveMatrix.{in_order, row_sum, sum_at, new_alpha, channel_of, convolved_at}
use Rattle.convolve_matrix.specs.Inner.Rows.{Added, Finished, finished_at}

-- ---- one pixel
module _ (m : ConvolveMatrix) (sums : List Float) (s : List ℕ) (first k : ℕ) (aligned : k % 4 ≡ 0) where
  abbrev alpha : Float
  alpha = new_alpha m (get_or sums (k + 3) nan) (get_or s (first + (k + 3)) 0)

  pub pixel_finished : {p : ℕ} → Finished m (get_or sums k nan) (get_or sums (k + 1) nan) (get_or sums (k + 2) nan) (get_or sums (k + 3) nan) (get_or s (first + (k + 3)) 0) p → (c : ℕ) → c < 4 → channel c p ≡ finished_at m sums s first (k + c)
  pixel_finished {p} q c h =
      let z : (k + c) % 4 ≡ c = omega arith in
      let a : 4 * ((k + c) / 4) + 3 ≡ k + 3 = omega arith in
      channel_of_lem (λ d. channel_of m d (get_or sums (k + d) nan) alpha) (channels_as q (rw add-zero refl) refl refl refl) c h ∙ rw (z, a) refl

-- ---- one row of a strip
-- the first n sums, which were lent, were filled with 0
pub filled : (l p : List Float) (n k m : ℕ) → n ≤ length l → k ≡ n → m ≡ n → p ≡ replicate m c0 → (j : ℕ) → j < n → get_or (put_mid 0 k l p) j nan ≡ c0
filled l p n k m room e f all j h = grind (arith, elements)

module _ (m : ConvolveMatrix) (kernel : List Float) (w h : ℕ) (s : List ℕ) (x n y : ℕ) (fits : x + n ≤ w) (sums₁ sums : List Float) (zero : (j : ℕ) → j < 4 * n → get_or sums₁ j nan ≡ c0) (added : Added (λ i c. in_order m.rows (row_sum m kernel w h s (x + i) y c)) n sums₁ sums) where
  abbrev first : ℕ
  first = 4 * (y * w + x)

  sum_of : (i c : ℕ) → i < n → c < 4 → get_or sums (4 * i + c) nan ≡ sum_at m kernel w h s (x + i) y c
  unfolding sum_at
  sum_of i c p q =
      added.each i c p q ∙ ap (in_order m.rows (row_sum m kernel w h s (x + i) y c)) (zero (4 * i + c) (omega arith))

  byte_finished : (j : ℕ) → j < 4 * n → finished_at m sums s first j ≡ convolved_at m kernel w h s (first + j)
  byte_finished j l =
      let i = j / 4 in
      let c = j % 4 in
      let inside : i < n = omega arith in
      let on_side : x + i < w = omega arith in
      let small : c < 4 = omega arith in
      let z : 4 * i + c ≡ j = omega arith in
      let k : first + j ≡ byte_at w (x + i) y c = omega arith in
      let e : column w (first + j) ≡ x + i = ap (column w) k ∙ column_of_place w (x + i) y c on_side small in
      let f : row w (first + j) ≡ y = ap (row w) k ∙ row_of_place w (x + i) y c on_side small in
      let g : (first + j) % 4 ≡ c = omega arith in
      let a : 4 * ((first + j) / 4) + 3 ≡ first + (4 * i + 3) = omega arith in
      let own : get_or sums j nan ≡ sum_at m kernel w h s (x + i) y c = ap (λ (p : ℕ). get_or sums p nan) (sym z) ∙ sum_of i c inside small in
      let alphas : get_or sums (4 * i + 3) nan ≡ sum_at m kernel w h s (x + i) y 3 = sum_of i 3 inside (omega arith) in
      rw (e, f, g, a, own, alphas)

  pub row_finished : {d d' : List ℕ} → Changed 0 (finished_at m sums s first) first (4 * n) d d' → Changed 0 (λ j. convolved_at m kernel w h s (first + j)) first (4 * n) d d'
  row_finished c = changed_as _ _ c byte_finished

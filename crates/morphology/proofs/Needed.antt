-- Every byte that a byte of the result reads is needed, so its reach is the least: one byte 255 among zeros raises every dilated byte that reads it, and one byte 0 among 255 lowers every eroded one.
use Prim.Native.Nat.{ℕ, zero, suc, ◌+◌, ◌-◌, ◌*◌, ◌%◌, ◌<◌, min}
use mathlib.Core.Path.{◌≡◌, refl, ◌∙◌}
use mathlib.Core.List.{List}
use native.Mathlib.Omega.{arith}
use lib.ListN.{get_or}
use lib.Ieee.{Float}
use Rattle.sheet.specs.Pixel.{column, row, byte_at}
use Rattle.sheet.proofs.Apart.{Needed, all_but, at_but, all_same, needed}
use Rattle.sheet.proofs.Places.{place_inside, column_inside, row_inside}
use Rattle.sheet.proofs.Tabulated.{get_d_tabulate}
use Rattle.morphology.specs.declared.operator.MorphologyOperator.{MorphologyOperator}
use Rattle.morphology.specs.declared.operator.MorphologyOperator.TheVariants.{Dilate, Erode}
use Rattle.morphology.specs.Extremum.{more_extreme, over, extremum, window}
use Rattle.morphology.specs.Morphology.{radius, spread_at, spread_over, morphed}
use Rattle.morphology.specs.Reads.{Reads}
use Rattle.morphology.proofs.Windows.{window_ext}
use Rattle.morphology.proofs.Bounds.{morphed_extreme, wide}
use Rattle.morphology.proofs.Reading.{reads_inside}

extreme_same : (op : MorphologyOperator) (v : ℕ) → more_extreme op v v ≡ v
extreme_same Dilate v = omega arith
extreme_same Erode v = omega arith

over_same : (op : MorphologyOperator) (n v : ℕ) → over op n (λ u. v) ≡ v
unfolding over
over_same op zero v = refl
over_same op (suc n) v = rw (over_same op n v) (extreme_same op v)

-- a window over one byte everywhere is that byte
window_same : (op : MorphologyOperator) (r n v : ℕ) (g : ℕ → ℕ) (i : ℕ) → i < n → ((x : ℕ) → x < n → g x ≡ v) → window op r n g i ≡ v
unfolding window extremum
window_same op r n v g i h e = window_ext op r n g (λ x. v) i h (λ x a b l. e x l) ∙ over_same op (min (i + r) (n - 1) - (i - r)) v

-- so is a byte of a sheet of one byte everywhere
morphed_same : (op : MorphologyOperator) (rx ry : Float) (w h v : ℕ) (s : List ℕ) (k : ℕ) → k < 4 * w * h → ((i : ℕ) → i < 4 * w * h → get_or s i 0 ≡ v) → get_or (morphed op rx ry w h s) k 0 ≡ v
unfolding morphed spread_over
morphed_same op rx ry w h v s k l same =
    let p = wide w h k l in
    get_d_tabulate (4 * w * h) (spread_at op (radius rx w) (radius ry h) w h s) k l
    ∙ window_same op (radius ry h) h v (λ y. window op (radius rx w) w (λ x. get_or s (byte_at w x y (k % 4)) 0) (column w k)) (row w k) (row_inside w h k p l)
    (λ y b. window_same op (radius rx w) w v (λ x. get_or s (byte_at w x y (k % 4)) 0) (column w k) (column_inside w h k p l)
    (λ x a. same (byte_at w x y (k % 4)) (place_inside w h x y (k % 4) a b (omega arith))))

-- whatever the radii, under either operator
module _ (rx ry : Float) (w h k j : ℕ) (l : k < 4 * w * h) (r : Reads rx ry w h k j) where
  abbrev n : ℕ
  n = 4 * w * h

  inside : j < 4 * w * h
  inside = reads_inside rx ry w h k (wide w h k l) l j r

  pub reads_needed : (op : MorphologyOperator) → Needed (4 * w * h) j k (morphed op rx ry w h)
  reads_needed Dilate =
      let b = at_but n 0 j inside 255 in
      let e = morphed_extreme Dilate rx ry w h (all_but n 0 j 255) k l j r in
      needed n 0 j inside k (morphed Dilate rx ry w h) (omega arith) (morphed_same Dilate rx ry w h 0 (all_but n 0 j 0) k l (all_same n 0 j inside)) (omega arith)
  reads_needed Erode =
      let b = at_but n 255 j inside 0 in
      let e = morphed_extreme Erode rx ry w h (all_but n 255 j 0) k l j r in
      let f = morphed_same Erode rx ry w h 255 (all_but n 255 j 255) k l (all_same n 255 j inside) in
      needed n 255 j inside k (morphed Erode rx ry w h) (omega arith) (omega arith) (omega arith)

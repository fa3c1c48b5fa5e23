-- Radii of 0 change nothing: each window is the byte's own place.
use Prim.Native.Nat.{ℕ, ◌*◌, ◌%◌, ◌<◌}
use mathlib.Core.Path.{◌≡◌, sym, ap, ◌∙◌}
use mathlib.Core.List.{List}
use native.Mathlib.Omega.{arith}
use lib.ListN.{length, get_or}
use lib.Ieee.{of_bits}
use Rattle.floats.specs.Round.{round_to}
use Rattle.sheet.specs.Pixel.{column, row, byte_at}
use Rattle.sheet.proofs.Places.{byte_place, column_inside, row_inside}
use Rattle.sheet.proofs.Tabulated.{tabulated}
use Rattle.morphology.specs.declared.operator.MorphologyOperator.{MorphologyOperator}
use Rattle.morphology.specs.Extremum.{window}
use Rattle.floats.specs.Constants.{c0}
use Rattle.morphology.specs.Morphology.{radius, spread_at, spread_over, morphed}
use Rattle.morphology.proofs.Windows.{window_none}
use Rattle.morphology.proofs.Bounds.{wide}

zero_is_none : (side : ℕ) → radius c0 side ≡ 0
unfolding radius round_to of_bits
zero_is_none side = omega arith

module _ (op : MorphologyOperator) (w h : ℕ) (s : List ℕ) (e : length s ≡ 4 * w * h) where
  byte_alone : (k : ℕ) → k < 4 * w * h → get_or s k 0 ≡ spread_at op 0 0 w h s k
  byte_alone k l =
      let p = wide w h k l in
      let across : (y : ℕ) → window op 0 w (λ x. get_or s (byte_at w x y (k % 4)) 0) (column w k) ≡ get_or s (byte_at w (column w k) y (k % 4)) 0 = λ y. window_none op w (λ x. get_or s (byte_at w x y (k % 4)) 0) (column w k) (column_inside w h k p l) in
      ap (λ (j : ℕ). get_or s j 0) (byte_place w h k p l)
      ∙ sym (window_none op h (λ y. window op 0 w (λ x. get_or s (byte_at w x y (k % 4)) 0) (column w k)) (row w k) (row_inside w h k p l) ∙ across (row w k))

  pub spread_by_none : spread_over op 0 0 w h s ≡ s
  unfolding spread_over
  spread_by_none = sym (tabulated s (4 * w * h) (spread_at op 0 0 w h s) e byte_alone)

  pub morphed_by_none : morphed op c0 c0 w h s ≡ s
  unfolding morphed
  morphed_by_none = rw (zero_is_none w, zero_is_none h) spread_by_none

-- What a byte of the result reads: it depends on nothing else, it reads some byte, and all that it reads lies in the sheet.
use Prim.Native.Nat.{ℕ, ◌*◌, ◌%◌, ◌<◌}
use mathlib.Core.Path.{◌≡◌, refl, sym, ◌∙◌}
use mathlib.Core.List.{List}
use native.Mathlib.Omega.{arith}
use lib.ListN.{length, get_or}
use lib.Ieee.{Float}
use Rattle.sheet.specs.Pixel.{column, row, byte_at}
use Rattle.sheet.proofs.Places.{place_inside, column_inside, row_inside, byte_place}
use Rattle.sheet.proofs.Tabulated.{length_tabulate, get_d_tabulate}
use Rattle.morphology.specs.declared.operator.MorphologyOperator.{MorphologyOperator}
use Rattle.morphology.specs.Extremum.{window}
use Rattle.morphology.specs.Morphology.{radius, spread_at, spread_over, morphed}
use Rattle.morphology.specs.Reads.{Reads}
use Rattle.morphology.proofs.Windows.{window_ext}

module _ (op : MorphologyOperator) (rx ry : Float) (w h : ℕ) where
  pub length_morphed : (s : List ℕ) → length (morphed op rx ry w h s) ≡ 4 * w * h
  unfolding morphed spread_over
  length_morphed s = length_tabulate (4 * w * h) (spread_at op (radius rx w) (radius ry h) w h s)

  byte_morphed : (s : List ℕ) (k : ℕ) → k < 4 * w * h → get_or (morphed op rx ry w h s) k 0 ≡ spread_at op (radius rx w) (radius ry h) w h s k
  unfolding morphed spread_over
  byte_morphed s k l = get_d_tabulate (4 * w * h) (spread_at op (radius rx w) (radius ry h) w h s) k l

  -- sheets that agree on what byte k reads give the same byte k
  pub reads_all : (a b : List ℕ) (k : ℕ) → 0 < w → k < 4 * w * h → ((j : ℕ) → Reads rx ry w h k j → get_or a j 0 ≡ get_or b j 0) → get_or (morphed op rx ry w h a) k 0 ≡ get_or (morphed op rx ry w h b) k 0
  reads_all a b k p l agree =
      byte_morphed a k l ∙ (window_ext op (radius ry h) h (λ y. window op (radius rx w) w (λ x. get_or a (byte_at w x y (k % 4)) 0) (column w k)) (λ y. window op (radius rx w) w (λ x. get_or b (byte_at w x y (k % 4)) 0) (column w k)) (row w k) (row_inside w h k p l) (λ y r₁ r₂ r₃. window_ext op (radius rx w) w (λ x. get_or a (byte_at w x y (k % 4)) 0) (λ x. get_or b (byte_at w x y (k % 4)) 0) (column w k) (column_inside w h k p l) (λ x c₁ c₂ c₃. agree (byte_at w x y (k % 4)) (record {
        x = x;
        y = y;
        near_column = record { low = c₁; high = c₂; inside = c₃ };
        near_row = record { low = r₁; high = r₂; inside = r₃ };
        is = refl;
      }))) ∙ sym (byte_morphed b k l))

module _ (rx ry : Float) (w h k : ℕ) (p : 0 < w) (l : k < 4 * w * h) where
  -- a byte reads itself
  pub reads_something : Reads rx ry w h k k
  reads_something = record {
    x = column w k;
    y = row w k;
    near_column = record { low = omega arith; high = omega arith; inside = column_inside w h k p l };
    near_row = record { low = omega arith; high = omega arith; inside = row_inside w h k p l };
    is = byte_place w h k p l;
  }

  pub reads_inside : (j : ℕ) → Reads rx ry w h k j → j < 4 * w * h
  reads_inside j r = rw r.is (place_inside w h r.x r.y (k % 4) r.near_column.inside r.near_row.inside (omega arith))

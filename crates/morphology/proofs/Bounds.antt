-- An extremum is on its operator's side of every place in its window, the byte's own place among them: erode is at most the sheet, and the sheet at most dilate.
use Prim.Native.Nat.{ℕ, zero, suc, ◌+◌, ◌-◌, ◌*◌, ◌%◌, ◌≤◌, ◌<◌, min}
use mathlib.Core.Path.{◌≡◌, sym, subst}
use mathlib.Core.List.{List}
use native.Mathlib.Nat.{le_refl}
use native.Mathlib.Omega.{arith}
use native.Mathlib.Decide.{dec_le}
use lib.ListN.{get_or}
use lib.Ieee.{Float}
use Rattle.sheet.specs.Pixel.{column, row, byte_at, Near}
use Rattle.sheet.proofs.Tabulated.{get_d_tabulate}
use Rattle.morphology.specs.declared.operator.MorphologyOperator.{MorphologyOperator}
use Rattle.morphology.specs.declared.operator.MorphologyOperator.TheVariants.{Dilate, Erode}
use Rattle.morphology.specs.Extremum.{more_extreme, over, extremum, window}
use Rattle.morphology.specs.Morphology.{radius, spread_at, spread_over, morphed}
use Rattle.morphology.specs.Reads.{Reads}
use Rattle.morphology.proofs.Reading.{reads_something}

-- b is as extreme as a: for Dilate as large, for Erode as small
abbrev pub AsExtreme : MorphologyOperator → ℕ → ℕ → Type 0
AsExtreme Dilate a b = a ≤ b
AsExtreme Erode a b = b ≤ a

as_extreme_left : (op : MorphologyOperator) (a b c : ℕ) → AsExtreme op a b → AsExtreme op a (more_extreme op b c)
as_extreme_left Dilate a b c h = omega arith
as_extreme_left Erode a b c h = omega arith

as_extreme_right : (op : MorphologyOperator) (b c : ℕ) → AsExtreme op c (more_extreme op b c)
as_extreme_right Dilate b c = omega arith
as_extreme_right Erode b c = omega arith

as_extreme_trans : (op : MorphologyOperator) (a b c : ℕ) → AsExtreme op a b → AsExtreme op b c → AsExtreme op a c
as_extreme_trans Dilate a b c p q = omega arith
as_extreme_trans Erode a b c p q = omega arith

as_extreme_same : (op : MorphologyOperator) (a : ℕ) → AsExtreme op a a
as_extreme_same Dilate a = le_refl a
as_extreme_same Erode a = le_refl a

over_extreme : (op : MorphologyOperator) (n : ℕ) (g : ℕ → ℕ) (u : ℕ) → u ≤ n → AsExtreme op (g u) (over op n g)
unfolding over
over_extreme op zero g u h = let z : u ≡ 0 = omega arith in rw z (as_extreme_same op (g zero))
over_extreme op (suc n) g u h = go (dec_le u n) (over_extreme op n g u)
  where
    go : Dec (u ≤ n) → (u ≤ n → AsExtreme op (g u) (over op n g)) → AsExtreme op (g u) (more_extreme op (over op n g) (g (suc n)))
    go (yes l) before = as_extreme_left op (g u) (over op n g) (g (suc n)) (before l)
    go (no l) before = let z : u ≡ suc n = omega arith in rw z (as_extreme_right op (over op n g) (g (suc n)))

pub window_extreme : (op : MorphologyOperator) (r n : ℕ) (g : ℕ → ℕ) (i x : ℕ) → Near r n i x → AsExtreme op (g x) (window op r n g i)
unfolding window extremum
window_extreme op r n g i x h =
    let z : x ≡ i - r + (x - (i - r)) = omega arith in
    let e = over_extreme op (min (i + r) (n - 1) - (i - r)) (λ u. g (i - r + u)) (x - (i - r)) (omega arith) in
    subst (λ (y : ℕ). AsExtreme op (g y) (over op (min (i + r) (n - 1) - (i - r)) (λ u. g (i - r + u)))) (sym z) e

module _ (op : MorphologyOperator) (rx ry : Float) (w h : ℕ) (s : List ℕ) (k : ℕ) (l : k < 4 * w * h) where
  -- byte k is as extreme as every byte that it reads
  pub morphed_extreme : (j : ℕ) → Reads rx ry w h k j → AsExtreme op (get_or s j 0) (get_or (morphed op rx ry w h s) k 0)
  unfolding morphed spread_over
  morphed_extreme j r =
      rw (r.is, get_d_tabulate (4 * w * h) (spread_at op (radius rx w) (radius ry h) w h s) k l)
      (as_extreme_trans op _ _ _
      (window_extreme op (radius rx w) w (λ x. get_or s (byte_at w x r.y (k % 4)) 0) (column w k) r.x r.near_column)
      (window_extreme op (radius ry h) h (λ y. window op (radius rx w) w (λ x. get_or s (byte_at w x y (k % 4)) 0) (column w k)) (row w k) r.y r.near_row))

-- a sheet with a byte has a column
pub wide : (w h k : ℕ) → k < 4 * w * h → 0 < w
wide zero h k l = omega arith
wide (suc w) h k l = omega arith

-- erode, the sheet, dilate: in this order
pub erode_least_dilate_most : (rx ry : Float) (w h : ℕ) (s : List ℕ) (k : ℕ) → k < 4 * w * h → (get_or (morphed Erode rx ry w h s) k 0 ≤ get_or s k 0) × (get_or s k 0 ≤ get_or (morphed Dilate rx ry w h s) k 0)
erode_least_dilate_most rx ry w h s k l =
    let r = reads_something rx ry w h k (wide w h k l) l in
    (morphed_extreme Erode rx ry w h s k l k r, morphed_extreme Dilate rx ry w h s k l k r)

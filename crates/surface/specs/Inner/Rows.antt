-- Words of the surface's contracts: the columns of a row.
use Rattle.std.specs.Prelude.{ℕ, ◌+◌, ◌-◌, ◌≡◌, ◌≤◌, ◌<◌, min, cond, List, length, get_or, eqb, ltb}
use Rattle.std.proofs.Math.IntN.{sub_ℕ}
use Rattle.surface.specs.declared.Normal.{Normal}
use Rattle.surface.specs.declared.strip.Row.{Row}
use Rattle.surface.specs.declared.strip.Strip.{Strip}
use Rattle.surface.specs.Surface.{alpha_at, weighted, behind, ahead, turned, lean_factor, normal_at}
use Rattle.surface.specs.Inner.Leans.{weighted_in}

-- alpha of the pixel in column x and row v of the sheet that a row is of
abbrev pub alpha_in : Row → (x v : ℕ) → ℕ
alpha_in row x v = alpha_at row.strip.width row.src.now x v

-- Place i of a row's columns is the sheet's column left + i - 1, for which an edge has one more column: its alphas weighted across the row,
-- where beyond an edge those of the edge's own column stand again.
unfoldable pub wide_sum : Row → ℕ → ℕ
wide_sum row i = weighted row.strip.height (alpha_in row (min (row.strip.left + i - 1) (row.strip.width - 1))) row.y

-- and its alpha in row v, which is 0 beyond an edge
unfoldable pub wide_alpha : Row → (v i : ℕ) → ℕ
wide_alpha row v i = let k = row.strip.left + i in cond (eqb k 0) 0 (cond (ltb (k - 1) row.strip.width) (alpha_in row (k - 1) v) 0)

-- the places from a to b - 1 hold these columns
pub record Holds (row : Row) (a b : ℕ) (sums above below : List ℕ) : Type 0 where
  pub sums_are : (i : ℕ) → a ≤ i → i < b → get_or sums i 0 ≡ wide_sum row i
  pub small : (i : ℕ) → a ≤ i → i < b → get_or sums i 0 ≤ 1020
  pub above_are : (i : ℕ) → a ≤ i → i < b → get_or above i 0 ≡ wide_alpha row (behind row.y) i
  pub below_are : (i : ℕ) → a ≤ i → i < b → get_or below i 0 ≡ wide_alpha row (ahead row.strip.height row.y) i

-- there are n columns and one more at each side
pub record AreColumns (n : ℕ) (sums above below : List ℕ) : Type 0 where
  pub sums_room : n + 2 ≤ length sums
  pub above_room : n + 2 ≤ length above
  pub below_room : n + 2 ≤ length below
  pub small : (i : ℕ) → i < n + 2 → get_or sums i 0 ≤ 1020

-- how the surface leans in column i of a strip and in row y, by the columns, of which place i is the one before it
abbrev pub normal_in : Strip → (sums above below : List ℕ) → (i y : ℕ) → Normal
normal_in strip sums above below i y = record {
  fx = lean_factor strip.width strip.height (strip.left + i) y;
  fy = lean_factor strip.height strip.width y (strip.left + i);
  x = turned (sub_ℕ (get_or sums (i + 2) 0) (get_or sums i 0));
  y = turned (sub_ℕ (weighted_in below i) (weighted_in above i));
}

-- the same by the definition, in a row's column i
abbrev pub normal_of : Row → ℕ → Normal
normal_of row i = normal_at row.strip.width row.strip.height row.src.now (row.strip.left + i) row.y

-- The extremum of bytes over a clipped window, one definition for both operators.
use Rattle.std.specs.Prelude.{ℕ, zero, suc, ◌+◌, ◌-◌, min, max}
use Rattle.morphology.specs.declared.operator.MorphologyOperator.{MorphologyOperator}
use Rattle.morphology.specs.declared.operator.MorphologyOperator.TheVariants.{Dilate, Erode}

abbrev pub more_extreme : MorphologyOperator → ℕ → ℕ → ℕ
more_extreme Dilate a b = max a b
more_extreme Erode a b = min a b

-- the extremum of g 0, .., g n
unfoldable pub over : MorphologyOperator → ℕ → (ℕ → ℕ) → ℕ
over op zero g = g zero
over op (suc n) g = more_extreme op (over op n g) (g (suc n))

-- the extremum of g lo, .., g hi
unfoldable pub extremum : MorphologyOperator → ℕ → ℕ → (ℕ → ℕ) → ℕ
extremum op lo hi g = over op (hi - lo) (λ u. g (lo + u))

-- the extremum of g over the places within r of place i, clipped to the places 0..=n-1
unfoldable pub window : MorphologyOperator → ℕ → ℕ → (ℕ → ℕ) → ℕ → ℕ
window op r n g i = extremum op (i - r) (min (i + r) (n - 1)) g

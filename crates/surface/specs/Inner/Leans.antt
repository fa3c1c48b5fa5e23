-- Words of the leans' contracts.
use Rattle.std.specs.Prelude.{ℕ, ◌+◌, ◌*◌, Bool, cond, List, get_or, Float}
use Rattle.floats.specs.Constants.{half}
use Rattle.surface.specs.Surface.{quarter, third, two_thirds}

-- what a lean counts for, by whether its pixel is at an edge along it, and across it
abbrev pub factor_of : Bool → Bool → Float
factor_of e d = cond e (cond d two_thirds half) (cond d third quarter)

-- three numbers from place i on by the weights 1, 2, 1
abbrev pub weighted_in : List ℕ → ℕ → ℕ
weighted_in l i = get_or l i 0 + 2 * get_or l (i + 1) 0 + get_or l (i + 2) 0

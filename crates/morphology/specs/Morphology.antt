-- What morphology answers, and what byte k of its result is.
use Rattle.std.specs.Prelude.{ℕ, ◌-◌, ◌*◌, ◌%◌, min, cond, List, [], ◌∷◌, length, get_or, ℤ, pos, negsuc, Float}
use Rattle.std.specs.Float.Ieee.Scale.{finite}
use Rattle.floats.specs.Constants.{c0, c65536}
use Rattle.floats.specs.Order.{within}
use Rattle.floats.specs.Round.{round_to}
use Rattle.sheet.specs.Answer.{Answer, Done, refusal, and_then}
use Rattle.sheet.specs.Size.{sheets_answer}
use Rattle.sheet.specs.Tabulate.{tabulate}
use Rattle.sheet.specs.Pixel.{column, row, byte_at}
use Rattle.morphology.specs.declared.operator.MorphologyOperator.{MorphologyOperator}
use Rattle.morphology.specs.Extremum.{window}

-- tests 4 and 5
unfoldable pub radii_answer : Float → Float → Answer
radii_answer rx ry =
    cond (finite rx)
    (cond (finite ry)
    (cond (within c0 rx c65536)
    (cond (within c0 ry c65536) Done (refusal 5))
    (refusal 5))
    (refusal 4))
    (refusal 4)

-- the whole answer, for a sheet and a scratch
unfoldable pub answer : Float → Float → ℕ → ℕ → List ℕ → List ℕ → Answer
answer rx ry w h src scratch = and_then (sheets_answer w h (length src ∷ length scratch ∷ [])) (radii_answer rx ry)

abbrev pub not_negative : ℤ → ℕ
not_negative (pos n) = n
not_negative (negsuc n) = 0

-- a radius rounded half away from zero and clamped to the side - 1
unfoldable pub radius : Float → ℕ → ℕ
radius r side = min (not_negative (round_to 31 r)) (side - 1)

-- byte k: the extremum of its channel over the rows and columns within the radii, clipped at the edges
abbrev pub spread_at : MorphologyOperator → ℕ → ℕ → ℕ → ℕ → List ℕ → ℕ → ℕ
spread_at op rx ry w h s k =
    window op ry h (λ y. window op rx w (λ x. get_or s (byte_at w x y (k % 4)) 0) (column w k)) (row w k)

unfoldable pub spread_over : MorphologyOperator → ℕ → ℕ → ℕ → ℕ → List ℕ → List ℕ
spread_over op rx ry w h s = tabulate (4 * w * h) (spread_at op rx ry w h s)

-- the result
unfoldable pub morphed : MorphologyOperator → Float → Float → ℕ → ℕ → List ℕ → List ℕ
morphed op rx ry w h s = spread_over op (radius rx w) (radius ry h) w h s

-- The contract that the colour matrix's C functions share.
use Rattle.std.specs.Prelude.{ℕ, List, Float}
use Rattle.sheet.specs.Contract.{Lent, was}
use Rattle.color_matrix.specs.declared.ColorMatrix.{ColorMatrix}
use Rattle.color_matrix.specs.ColorMatrix.{answer, recoloured}
use Rattle.nuprikhen.specs.declared.nup_answer.{nup_answer}
use Rattle.nuprikhen.specs.Called.{Called}

-- the matrix, whose numbers stand in the pool, is applied to the sheet
abbrev pub Recoloured : ColorMatrix → List Float → ℕ → ℕ → nup_answer → Lent ℕ → Type 0
Recoloured matrix pool w h r src = Called (answer matrix pool w h (was src)) r (recoloured matrix pool (was src)) src

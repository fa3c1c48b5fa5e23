-- The convolve matrix's numbers across the C boundary.
use Rattle.std.specs.Prelude.{ℕ, zero, suc, cond, List, eqb, ltb, Float}
use Rattle.sheet.specs.Answer.{Answer, Done, refusal, and_then}
use Rattle.sheet.specs.Contract.{Lent, was, Cleared}
use Rattle.convolve_matrix.specs.declared.edge.EdgeMode.{EdgeMode}
use Rattle.convolve_matrix.specs.declared.edge.EdgeMode.TheVariants.{None, Duplicate, Wrap}
use Rattle.convolve_matrix.specs.declared.ConvolveMatrix.{ConvolveMatrix}
use Rattle.convolve_matrix.specs.ConvolveMatrix.{answer, convolved}
use Rattle.nuprikhen.specs.declared.nup_answer.{nup_answer}
use Rattle.nuprikhen.specs.Called.{Called}
use Rattle.nuprikhen.specs.Numbers.{all_of}

-- 0 is None, 1 is Duplicate, 2 is Wrap
abbrev pub edge_of : ℕ → EdgeMode
edge_of zero = None
edge_of (suc zero) = Duplicate
edge_of (suc (suc n)) = Wrap

-- the edge mode is 0, 1 or 2, and whether alpha is preserved 0 or 1
unfoldable pub named_edge : ℕ → ℕ → Answer
named_edge edge preserve = cond (ltb 2 edge) (refusal 5) (cond (ltb 1 preserve) (refusal 5) Done)

-- the two numbers, whose test is `named`, are tested with the ranges, the last of the tests
unfoldable pub convolve_answer : Answer → ConvolveMatrix → List Float → ℕ → ℕ → List ℕ → List ℕ → Answer
convolve_answer named m kernel w h src scratch = and_then (answer m kernel w h src scratch) named

-- the kernel is all of the lent numbers
abbrev pub matrix_of : (columns rows x y : ℕ) → List Float → Float → Float → (edge preserve : ℕ) → ConvolveMatrix
matrix_of columns rows x y kernel divisor bias edge preserve = record {
  columns = columns;
  rows = rows;
  target_x = x;
  target_y = y;
  matrix = all_of kernel;
  divisor = divisor;
  bias = bias;
  edge_mode = edge_of edge;
  preserve_alpha = eqb preserve 1;
}

-- the contract, where the two numbers' test is `named`: what the call told, the sheet and the scratch
abbrev pub Convolved : Answer → ConvolveMatrix → Lent Float → ℕ → ℕ → nup_answer → Lent ℕ → Lent ℕ → Type 0
Convolved named m kernel w h r src scratch =
    Called (convolve_answer named m (was kernel) w h (was src) (was scratch)) r (convolved m (was kernel) w h (was src)) src
    × Cleared 0 (convolve_answer named m (was kernel) w h (was src) (was scratch)) scratch

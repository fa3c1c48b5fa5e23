-- What tests that pass tell of a kernel.
use Prim.Native.Nat.{ℕ, ◌*◌, ◌≤◌, ◌<◌}
use mathlib.Core.Path.{◌≡◌, refl, sym, ◌∙◌}
use mathlib.Core.Bool.{Bool, true, false, cond, true≢false}
use mathlib.Core.List.{List}
use native.Mathlib.Nat.{mul-le-mul}
use borrow.Author.Tests.{eqb-true, leb-true, ltb-true}
use lib.Dec.{eqb, leb, ltb}
use lib.ListN.{length}
use lib.Ieee.{Float}
use Rattle.sheet.specs.Answer.{Done}
use Rattle.sheet.proofs.Answers.{cond_done}
use Rattle.pool.specs.Pool.{numbers_of}
use Rattle.pool.proofs.Ranges.{length_numbers}
use Rattle.convolve_matrix.specs.declared.ConvolveMatrix.{ConvolveMatrix}
use Rattle.convolve_matrix.specs.ConvolveMatrix.{kernel_limit, is_side, is_kernel, kernel_answer}
use Rattle.convolve_matrix.specs.Inner.Rows.{Kernel}

both : (t b : Bool) → cond t b false ≡ true → (t ≡ true) × (b ≡ true)
both true b e = (refl, e)
both false b e = absurd (true≢false (sym e))

module _ (n target : ℕ) (e : is_side n target ≡ true) where
  pub side_most : n ≤ kernel_limit
  unfolding is_side
  side_most = leb-true n kernel_limit (both (leb n kernel_limit) (ltb target n) e).0

  pub side_target : target < n
  unfolding is_side
  side_target = ltb-true target n (both (leb n kernel_limit) (ltb target n) e).1

-- so many numbers that their count fits
pub few : (rows columns : ℕ) → rows ≤ kernel_limit → columns ≤ kernel_limit → rows * columns ≤ 225
few rows columns a b = mul-le-mul {n₂ = kernel_limit} {m₂ = kernel_limit} a b

pub kernel_told : (m : ConvolveMatrix) (pool : List Float) → kernel_answer m pool ≡ Done → Kernel m (numbers_of m.matrix pool)
unfolding kernel_answer is_kernel
kernel_told m pool d =
    let k = (cond_done (is_kernel m (length pool)) _ _ d).0 in
    let columns = both (is_side m.columns m.target_x) _ k in
    let rows = both (is_side m.rows m.target_y) _ columns.1 in
    let count = both (eqb m.matrix.count (m.rows * m.columns)) _ rows.1 in
    record {
      wide = side_most m.columns m.target_x columns.0;
      high = side_most m.rows m.target_y rows.0;
      across = side_target m.columns m.target_x columns.0;
      down = side_target m.rows m.target_y rows.0;
      numbers = length_numbers m.matrix pool count.1 ∙ eqb-true m.matrix.count (m.rows * m.columns) count.0;
    }

-- What a Matrix that passes its tests tells: its range lies in the pool and has twenty numbers.
use mathlib.Core.Path.{◌≡◌, ◌∙◌}
use mathlib.Core.Bool.{true}
use mathlib.Core.List.{List}
use borrow.Author.Tests.{eqb-true}
use lib.ListN.{length}
use lib.Dec.{eqb}
use lib.Ieee.{Float}
use Rattle.sheet.specs.Answer.{Done}
use Rattle.sheet.proofs.Answers.{cond_done}
use Rattle.pool.specs.declared.Numbers.{Numbers}
use Rattle.pool.specs.Pool.{is_in, numbers_of, range_answer}
use Rattle.pool.proofs.Ranges.{range_in, length_numbers}
use Rattle.color_matrix.specs.ColorMatrix.{twenty_answer}

module _ (m : Numbers) (pool : List Float) (e : twenty_answer m pool ≡ Done) where
  pub twenty_in : is_in m (length pool) ≡ true
  unfolding twenty_answer
  twenty_in = range_in m pool (cond_done (eqb m.count 20) (range_answer m pool) _ e).1

  pub twenty_numbers : length (numbers_of m pool) ≡ 20
  unfolding twenty_answer
  twenty_numbers = length_numbers m pool twenty_in ∙ eqb-true m.count 20 (cond_done (eqb m.count 20) (range_answer m pool) _ e).0

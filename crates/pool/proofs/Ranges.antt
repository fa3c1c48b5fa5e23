-- What a range that passes test 3 tells: it lies in the pool, and has as many numbers as it says.
use Prim.Native.Nat.{◌+◌, ◌≤◌}
use mathlib.Core.Path.{◌≡◌}
use mathlib.Core.Bool.{true}
use mathlib.Core.List.{List}
use native.Mathlib.Omega.{arith}
use borrow.Author.Tests.{leb-true}
use lib.ListN.{length, length-take, length-drop}
use lib.Ieee.{Float}
use Rattle.sheet.specs.Answer.{Done}
use Rattle.sheet.proofs.Answers.{cond_done}
use Rattle.pool.specs.declared.Numbers.{Numbers}
use Rattle.pool.specs.Pool.{is_in, numbers_of, range_answer}

module _ (r : Numbers) (pool : List Float) where
  pub range_in : range_answer r pool ≡ Done → is_in r (length pool) ≡ true
  unfolding range_answer
  range_in e = (cond_done (is_in r (length pool)) _ _ e).0

  pub range_most : is_in r (length pool) ≡ true → r.start + r.count ≤ length pool
  unfolding is_in
  range_most e = leb-true (r.start + r.count) (length pool) e

  pub length_numbers : is_in r (length pool) ≡ true → length (numbers_of r pool) ≡ r.count
  unfolding numbers_of
  length_numbers e = let l = range_most e in rw e (simp (length-take, length-drop) (omega arith))

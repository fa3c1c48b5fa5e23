-- The range lies in the pool, so the part is its numbers.
use borrow.Author.Rules.{rules}
use Prim.Native.Nat.{◌+◌, ◌-◌}
use mathlib.Core.Path.{◌≡◌}
use native.Mathlib.Omega.{arith}
use Rattle.sheet.proofs.Answers.{denied, allowed}
use Rattle.pool.specs.Pool.{numbers_of}
use Rattle.pool.proofs.Ranges.{range_most}
use Rattle.pool.proofs.Numbers.part.Goals as goal

pub returns-then-not-is_in : goal.returns-then-not-is_in
unfolding numbers_of
returns-then-not-is_in c = let z = denied c.is_in.ensures c.if-not-is_in.true in rw z

pub slice_bounds-result-end-2 : goal.slice_bounds-result-end-2
slice_bounds-result-end-2 c =
    let z = range_most c.args.self c.args.pool.now (allowed c.is_in.ensures c.if-not-is_in.false) in search rules

pub returns : goal.returns
unfolding numbers_of
returns c =
    let z = allowed c.is_in.ensures c.if-not-is_in.false in
    let d : c.args.self.start + c.args.self.count - c.args.self.start ≡ c.args.self.count = omega arith in
    rw (z, d)

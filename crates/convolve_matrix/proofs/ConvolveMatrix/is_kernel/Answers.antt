-- Sides that pass have a small product.
use borrow.Author.Rules.{rules}
use mathlib.Core.Path.{sym, ◌∙◌}
use Rattle.convolve_matrix.proofs.Tested.{side_most, few}
use Rattle.convolve_matrix.proofs.ConvolveMatrix.is_kernel.Goals.{then-is_side, else-is_side}
use Rattle.convolve_matrix.proofs.ConvolveMatrix.is_kernel.Goals as goal

pub overflow_mul-self : goal.overflow_mul-self
overflow_mul-self c =
    elim c.if-is_side.branch [
      | then-is_side w ↦
          let a = side_most _ _ (sym c.is_side.ensures ∙ w.if-is_side.true) in
          let b = side_most _ _ (sym w.is_side-then-is_side.ensures ∙ (sym w.value-is ∙ c.if-is_side-2.true)) in
          let f = few _ _ b a in
          search rules
      | else-is_side w ↦ let a = sym w.if-is_side.false ∙ (sym w.value-is ∙ c.if-is_side-2.true) in cc
    ]

-- Each pixel becomes the definition's.
use borrow.Author.Rules.{rules}
use native.Mathlib.Omega.{arith}
use Rattle.sheet.proofs.Mapping.{painted}
use Rattle.color_matrix.specs.ColorMatrix.{matrixed}
use Rattle.color_matrix.proofs.Bytes.{matrix_pixel}
use Rattle.color_matrix.proofs.loops.matrix.Goals as goal

pub returns : goal.returns
unfolding matrixed
returns c = painted _ c.requires.src_len c.map_pixels.ensures (λ i p q at r x l. matrix_pixel c.args.src.now _ at (omega arith) c.args.m.now c.matrix_row-r.ensures c.matrix_row-g.ensures c.matrix_row-b.ensures c.matrix_row-a.ensures (search rules) x l)

-- Each pixel becomes the definition's.
use borrow.Author.Rules.{rules}
use native.Mathlib.Omega.{arith}
use Rattle.sheet.proofs.Mapping.{painted}
use Rattle.color_matrix.specs.ColorMatrix.{coloured}
use Rattle.color_matrix.proofs.Bytes.{colour_pixel}
use Rattle.color_matrix.proofs.loops.colours.Goals as goal

pub returns : goal.returns
unfolding coloured
returns c = painted _ c.requires.src_len c.map_pixels.ensures (λ i p q at r x l. colour_pixel c.args.src.now _ at (omega arith) c.args.m.now c.colour_row-r.ensures c.colour_row-g.ensures c.colour_row-b.ensures (search rules) x l)

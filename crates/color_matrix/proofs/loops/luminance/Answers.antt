-- Each pixel becomes the definition's.
use borrow.Author.Rules.{rules}
use native.Mathlib.Omega.{arith}
use Rattle.sheet.proofs.Mapping.{painted}
use Rattle.color_matrix.specs.ColorMatrix.{luminance_to_alpha}
use Rattle.color_matrix.proofs.Bytes.{luminance_pixel}
use Rattle.color_matrix.proofs.loops.luminance.Goals as goal

pub returns : goal.returns
unfolding luminance_to_alpha
returns c = painted _ c.requires c.map_pixels.ensures (λ i p q at r x l. luminance_pixel c.args.src.now _ at (omega arith) (search rules) x l)

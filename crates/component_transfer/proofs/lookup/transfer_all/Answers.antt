-- Each pixel's channels are looked up.
use borrow.Author.Rules.{rules}
use mathlib.Core.Path.{◌∙◌}
use native.Mathlib.Omega.{arith}
use Rattle.sheet.proofs.Mapping.{painted}
use Rattle.component_transfer.proofs.Bytes.{pixel_looked_up, looked_up_all}
use Rattle.component_transfer.proofs.lookup.transfer_all.Goals as goal

pub returns : goal.returns
returns c =
    painted _ c.requires.src_len c.map_pixels.ensures (λ i p q at r x l. pixel_looked_up _ _ _ _ c.args.src.now _ at (omega arith) (search rules) x l)
    ∙ looked_up_all _ _ _ _ c.every_byte-red.ensures c.every_byte-green.ensures c.every_byte-blue.ensures c.every_byte-alpha.ensures _ (λ j. (c.slice_known-1.given j).fits)

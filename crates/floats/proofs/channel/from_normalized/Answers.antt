-- 255 times what lies from 0 to 1 lies from 0 to 255.
use Rattle.std.proofs.Common.{T, sym, ap, ◌∙◌, subst}
use lib.Ieee.{Float, binary32, of_bits, mul, to_unsigned}
use Rattle.floats.specs.Constants.{c255}
use Rattle.floats.specs.Inner.Steps.{up_to}
use Rattle.floats.proofs.ClampToOne.{clamp_unit, scaled_inside}
use Rattle.floats.proofs.channel.from_normalized.Goals as goal

pub cut-requires : goal.cut-requires
unfolding of_bits
cut-requires c = scaled_inside c.clamp.result (subst (λ (r : Float). T (up_to 1 r)) (sym c.clamp.ensures) (clamp_unit c.args.c).inside)

pub returns : goal.returns
returns c = c.cut.ensures ∙ ap (λ (r : Float). to_unsigned 8 (mul binary32 r c255)) c.clamp.ensures ∙ (clamp_unit c.args.c).same

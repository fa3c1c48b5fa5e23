-- What is clamped has the byte of x.
use Rattle.std.proofs.Common.{T, sym, ap, ◌∙◌, subst}
use lib.Ieee.{Float, to_unsigned}
use Rattle.floats.specs.Inner.Steps.{up_to}
use Rattle.floats.proofs.CutToByte.{clamp_byte}
use Rattle.floats.proofs.byte.to_byte.Goals as goal

pub cut-requires : goal.cut-requires
cut-requires c = subst (λ (r : Float). T (up_to 255 r)) (sym c.clamp.ensures) (clamp_byte c.args.x).inside

pub returns : goal.returns
returns c = c.cut.ensures ∙ ap (to_unsigned 8) c.clamp.ensures ∙ (clamp_byte c.args.x).same

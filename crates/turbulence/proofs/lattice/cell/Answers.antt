-- The whole number, wrapped.
use mathlib.Core.Path.{◌∙◌, sym, ap, subst}
use lib.Ieee.Casts.{to_signed_in}
use mir.Syntax.{w32}
use mir.Val.{SFits}
use mir.ValLaws.{to_z-of_z}
use Rattle.turbulence.specs.Noise.{cell, wrapped}
use Rattle.turbulence.proofs.lattice.cell.Goals as goal

pub returns : goal.returns
unfolding cell
returns c =
    (c.wrapped.ensures.0 ∙ ap wrapped (to_z-of_z w32 _ (subst (SFits w32) (sym c.to_i32.ensures) (record { sfits = to_signed_in 31 c.args.t })) ∙ c.to_i32.ensures), c.wrapped.ensures.1)

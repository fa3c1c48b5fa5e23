-- The seed's tables are the definition's.
use borrow.Author.Rules.{rules}
use mathlib.Core.Path.{ap, ◌∙◌}
use mir.Syntax.{w32}
use mir.Val.{SFits}
use mir.ValLaws.{to_z-of_z}
use Rattle.turbulence.specs.Tables.{selector_of, gradients_x, gradients_y}
use Rattle.turbulence.proofs.Bytes.{drawn_by}
use Rattle.turbulence.proofs.draw.draw.Goals as goal

pub returns : goal.returns
returns c =
    let f : SFits w32 c.args.t.seed = search rules in
    let e = to_z-of_z w32 c.args.t.seed f in
    c.draw_strips.ensures ∙ drawn_by c.args.t _ c.args.width c.args.height (c.init-tables.ensures.0 ∙ ap selector_of e) (c.init-tables.ensures.1 ∙ ap gradients_x e) (c.init-tables.ensures.2 ∙ ap gradients_y e)

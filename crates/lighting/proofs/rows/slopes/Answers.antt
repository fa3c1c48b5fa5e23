-- The lengths are those of the normal vectors.
use borrow.Author.Rules.{rules}
use mathlib.Core.Path.{ap, ◌∙◌}
use Rattle.surface.specs.declared.Normal.{Normal}
use Rattle.surface.specs.Inner.Rows.{normal_in}
use Rattle.lighting.specs.Vectors as Vectors
use Rattle.lighting.specs.Light.{normal_vector}
use Rattle.lighting.proofs.Passes.{measured_as}
use Rattle.lighting.proofs.rows.slopes.Goals as goal

pub returns : goal.returns
returns c =
    record {
      normals = c.fill.ensures;
      same = search rules;
      each = λ i h. measured_as (λ j. normal_vector c.args.lighting.scale (normal_in c.args.row.now.strip c.fill.new.self.sums c.fill.new.self.above c.fill.new.self.below j c.args.row.now.y)) c.measure.ensures (λ j v p. search rules) i (search rules) ∙ ap (λ (n : Normal). Vectors.length (normal_vector c.args.lighting.scale n)) (c.fill.ensures i h);
    }

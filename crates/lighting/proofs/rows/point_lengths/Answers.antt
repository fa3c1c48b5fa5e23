-- The distances, and of specular light the lengths of the half vectors, are those of the definition's ray.
use borrow.Author.Rules.{rules}
use Rattle.lighting.specs.Inner.Rows.{from_row, point_vector}
use Rattle.lighting.proofs.Passes.{measured_as, diffuse_ray, half_ray_is}
use Rattle.lighting.proofs.rows.point_lengths.Goals as goal

pub returns-in-Diffuse : goal.returns-in-Diffuse
returns-in-Diffuse c i h =
    diffuse_ray c.args.lighting c.args.point c.args.row.now c.requires.light _ _ i (measured_as (from_row c.args.point c.args.lighting.scale c.args.row.now) c.measure.ensures (λ j v p. search rules) i (search rules)) c.in-Diffuse.is

pub returns-in-Specular : goal.returns-in-Specular
returns-in-Specular c i h =
    half_ray_is c.args.lighting c.args.point c.args.row.now c.requires.light _ _ i (measured_as (from_row c.args.point c.args.lighting.scale c.args.row.now) c.measure.ensures (λ j v p. search rules) i (search rules)) (measured_as (point_vector c.args.lighting c.args.point c.args.row.now c.measure.new.places) c.measure-in-Specular.ensures (λ j v p. search rules) i (search rules))

-- Words of the rays' contracts.
use Rattle.std.specs.Prelude.{ℕ, cond, pos, Float}
use Rattle.std.specs.Float.{binary32}
use Rattle.std.specs.Float.Ieee.{of_int}
use Rattle.floats.specs.Channel.{normalized}
use Rattle.floats.specs.Constants.{c0, c1}
use Rattle.floats.specs.Operators.{◌⊗◌}
use Rattle.floats.specs.Order.{near_zero}
use Rattle.lighting.specs.declared.vector.Vector3.{Vector3}
use Rattle.lighting.specs.declared.light.Reflection.{Reflection}
use Rattle.lighting.specs.declared.light.Reflection.TheVariants.{Diffuse, Specular}
use Rattle.lighting.specs.declared.light.Ray.{Ray}
use Rattle.lighting.specs.declared.light.Ray.TheVariants.{Light, Half, Short}
use Rattle.lighting.specs.Vectors.{vector, add, sub, dot, divided}

-- a vector's product with itself
abbrev pub square : Vector3 → Float
square v = dot v v

-- divided by its length n; where that is near zero, as it is
abbrev pub unit_by : Vector3 → Float → Vector3
unit_by v n = cond (near_zero n) v (divided v n)

-- from the surface of a pixel to a point, not divided by its length yet
abbrev pub from_surface : Vector3 → (scale : Float) → (a x y : ℕ) → Vector3
from_surface point scale a x y = sub point (vector (of_int binary32 (pos x)) (of_int binary32 (pos y)) (normalized a ⊗ scale))

-- the vector that a light vector lights along
abbrev pub ray_vector : Reflection → Vector3 → Vector3
ray_vector Diffuse v = v
ray_vector Specular v = add v (vector c0 c0 c1)

-- the ray of such a vector, whose length is n
abbrev pub ray_by : Reflection → Vector3 → Float → Ray
ray_by Diffuse v n = Light v
ray_by Specular v n = cond (near_zero n) Short (Half v n)

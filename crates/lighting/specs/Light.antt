-- What lights a pixel, and how strongly, in the Rust's order of operations.
use Rattle.std.specs.Prelude.{ℕ, Bool, false, cond, pos, Float}
use Rattle.std.specs.Float.{binary32}
use Rattle.std.specs.Float.Ieee.{of_int}
use Rattle.floats.specs.Channel.{normalized}
use Rattle.floats.specs.Constants.{c0, c1, c255}
use Rattle.floats.specs.Operators.{◌⊗◌, ◌⊘◌}
use Rattle.floats.specs.Order.{near_zero}
use Rattle.surface.specs.declared.Normal.{Normal}
use Rattle.lighting.specs.declared.vector.Vector3.{Vector3}
use Rattle.lighting.specs.declared.light.LightSource.{LightSource}
use Rattle.lighting.specs.declared.light.LightSource.TheVariants.{Distant, Point}
use Rattle.lighting.specs.declared.light.Reflection.{Reflection}
use Rattle.lighting.specs.declared.light.Reflection.TheVariants.{Diffuse, Specular}
use Rattle.lighting.specs.declared.light.Ray.{Ray}
use Rattle.lighting.specs.declared.light.Ray.TheVariants.{Light, Half, Short}
use Rattle.lighting.specs.Vectors.{vector, add, sub, dot, length, unit_of}

-- from the surface of a pixel in column x and row y, whose alpha is a, to a point
unfoldable pub to_point : (px py pz scale : Float) → (a x y : ℕ) → Vector3
to_point px py pz scale a x y = unit_of (sub (vector px py pz) (vector (of_int binary32 (pos x)) (of_int binary32 (pos y)) (normalized a ⊗ scale)))

-- the light vector
abbrev pub light_vector : LightSource → (scale : Float) → (a x y : ℕ) → Vector3
light_vector (Distant lx ly lz) scale a x y = vector lx ly lz
light_vector (Point px py pz) scale a x y = to_point px py pz scale a x y

-- half way between the light and the eye, which looks along z; with its length, unless that is near zero
unfoldable pub half_ray : Vector3 → Ray
half_ray v = let h = add v (vector c0 c0 c1) in cond (near_zero (length h)) Short (Half h (length h))

-- what a light vector lights along
abbrev pub ray_of : Reflection → Vector3 → Ray
ray_of Diffuse v = Light v
ray_of Specular v = half_ray v

-- ---- how strongly
-- resvg's `approx_zero` of a normal
unfoldable pub flat : Normal → Bool
flat n = cond (near_zero n.x) (near_zero n.y) false

-- the surface's normal vector
abbrev pub normal_vector : (scale : Float) → Normal → Vector3
normal_vector scale n = vector (n.x ⊗ (scale ⊘ c255) ⊗ n.fx) (n.y ⊗ (scale ⊘ c255) ⊗ n.fy) c1

-- how far v goes along the normal; where the surface is flat, that is v's z
unfoldable pub along : (scale : Float) → Normal → Vector3 → Float
along scale n v = cond (flat n) v.z (dot (normal_vector scale n) v ⊘ length (normal_vector scale n))

-- resvg's `light_factor`
abbrev pub light_factor : (scale constant : Float) → Normal → Ray → Float
light_factor scale constant n (Light v) = constant ⊗ along scale n v
light_factor scale constant n (Half h l) = constant ⊗ (along scale n h ⊘ l)
light_factor scale constant n Short = c0

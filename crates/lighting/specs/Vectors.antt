-- Vectors of three `f32`, in the Rust's order of operations.
use Rattle.std.specs.Prelude.{cond, Float}
use Rattle.std.specs.Float.{binary32}
use Rattle.floats.specs.Operators.{◌⊕◌, ◌⊖◌, ◌⊗◌, ◌⊘◌}
use Rattle.floats.specs.Order.{near_zero}
use Rattle.floats.specs.Root.{sqrt_of}
use Rattle.lighting.specs.declared.vector.Vector3.{Vector3}

abbrev pub vector : Float → Float → Float → Vector3
vector x y z = record { x = x; y = y; z = z }

abbrev pub add : Vector3 → Vector3 → Vector3
add v u = vector (v.x ⊕ u.x) (v.y ⊕ u.y) (v.z ⊕ u.z)

abbrev pub sub : Vector3 → Vector3 → Vector3
sub v u = vector (v.x ⊖ u.x) (v.y ⊖ u.y) (v.z ⊖ u.z)

unfoldable pub dot : Vector3 → Vector3 → Float
dot v u = v.x ⊗ u.x ⊕ v.y ⊗ u.y ⊕ v.z ⊗ u.z

unfoldable pub length : Vector3 → Float
length v = sqrt_of binary32 (dot v v)

-- each number divided by n
abbrev pub divided : Vector3 → Float → Vector3
divided v n = vector (v.x ⊘ n) (v.y ⊘ n) (v.z ⊘ n)

-- divided by its length; a vector whose length is near zero stays as it is
unfoldable pub unit_of : Vector3 → Vector3
unit_of v = cond (near_zero (length v)) v (divided v (length v))

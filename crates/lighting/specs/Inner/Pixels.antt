-- Words of the pixel functions' contracts.
use Rattle.std.specs.Prelude.{ℕ, cond, Float}
use Rattle.floats.specs.Constants.{c0}
use Rattle.floats.specs.Operators.{◌⊗◌, ◌⊘◌}
use Rattle.floats.specs.Order.{near_zero}
use Rattle.sheet.specs.Pixel.{Channels}
use Rattle.surface.specs.declared.Normal.{Normal}
use Rattle.lighting.specs.declared.light.Reflection.{Reflection}
use Rattle.lighting.specs.declared.light.Reflection.TheVariants.{Diffuse, Specular}
use Rattle.lighting.specs.declared.pixel.Color.{Color}
use Rattle.lighting.specs.declared.vector.Vector3.{Vector3}
use Rattle.lighting.specs.Vectors.{dot}
use Rattle.lighting.specs.Light.{flat, normal_vector}
use Rattle.lighting.specs.Lighting.{lit_channel}

-- p is the pixel that is lit by a factor
abbrev pub Lit : Reflection → Color → Float → ℕ → Type 0
Lit reflection color factor p =
    Channels p (lit_channel reflection color factor 0) (lit_channel reflection color factor 1) (lit_channel reflection color factor 2) (lit_channel reflection color factor 3)

-- `along`, where the normal vector's length is given
abbrev pub along_by : (scale : Float) → Normal → (length : Float) → Vector3 → Float
along_by scale n length v = cond (flat n) v.z (dot (normal_vector scale n) v ⊘ length)

-- `light_factor`, where it is given how far the ray's vector goes along the normal, and the vector's length n
abbrev pub factor_along : Reflection → (constant a n : Float) → Float
factor_along Diffuse constant a n = constant ⊗ a
factor_along Specular constant a n = cond (near_zero n) c0 (constant ⊗ (a ⊘ n))

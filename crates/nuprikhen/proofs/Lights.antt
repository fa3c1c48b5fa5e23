-- The laws of a light's number: one that names no light is refused 4 where another number is not finite, and else 5, whatever x, y and z are.
use Prim.Native.Nat.{ℕ, suc}
use mathlib.Core.Path.{◌≡◌, refl}
use mathlib.Core.Bool.{false, cond}
use lib.Ieee.{Float, of_bits}
use lib.Ieee.Scale.{finite}
use Rattle.floats.specs.Unit.{unit_triple}
use Rattle.lighting.specs.Lighting.{tested, finite_numbers, numbers_in_range, diffuse_answer, specular_answer}
use Rattle.nuprikhen.specs.Lights.{light_of}

module _ (n : ℕ) (x y z scale constant : Float) where
  pub unnamed_diffuse : diffuse_answer (light_of (suc (suc n)) x y z) scale constant ≡ tested (cond (finite scale) (finite constant) false) false
  unfolding diffuse_answer finite_numbers numbers_in_range unit_triple of_bits
  unnamed_diffuse = refl

  pub unnamed_specular : (exponent : Float) → specular_answer (light_of (suc (suc n)) x y z) scale constant exponent ≡ tested (cond (cond (finite scale) (finite constant) false) (finite exponent) false) false
  unfolding specular_answer finite_numbers numbers_in_range unit_triple of_bits
  unnamed_specular exponent = refl

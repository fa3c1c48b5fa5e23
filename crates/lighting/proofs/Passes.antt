-- What the passes over a row give together: each place's number is the definition's.
use Prim.Native.Nat.{ℕ, ◌+◌, ◌<◌}
use mathlib.Core.Path.{◌≡◌, refl, ap, ◌∙◌}
use mathlib.Core.Bool.{Bool, true, false, cond}
use mathlib.Core.List.{List}
use native.Mathlib.Omega.{arith}
use lib.ListN.{length, get_or}
use lib.Ieee.{Float, nan, binary32}
use Rattle.floats.specs.Constants.{c0}
use Rattle.floats.specs.Operators.{◌⊗◌, ◌⊘◌}
use Rattle.floats.specs.Order.{near_zero}
use Rattle.floats.specs.Root.{sqrt_of, first_roots}
use Rattle.floats.proofs.FirstRoots.{get_d_root, length_first_roots}
use Rattle.surface.specs.declared.Normal.{Normal}
use Rattle.surface.specs.declared.strip.Row.{Row}
use Rattle.surface.specs.Inner.Rows.{alpha_in}
use Rattle.lighting.specs.declared.light.LightSource.TheVariants.{Distant, Point}
use Rattle.lighting.specs.declared.light.Reflection.{Reflection}
use Rattle.lighting.specs.declared.light.Reflection.TheVariants.{Diffuse, Specular}
use Rattle.lighting.specs.declared.light.Ray.TheVariants.{Light, Short, Half}
use Rattle.lighting.specs.declared.pixel.Lighting.{Lighting}
use Rattle.lighting.specs.declared.vector.Vector3.{Vector3}
use Rattle.lighting.specs.Vectors as Vectors
use Rattle.lighting.specs.Light.{to_point, light_vector, half_ray, ray_of, normal_vector, along, light_factor}
use Rattle.lighting.specs.Inner.Rays.{square, unit_by, ray_vector, ray_by}
use Rattle.lighting.specs.Inner.Pixels.{along_by, factor_along}
use Rattle.lighting.specs.Inner.Rows.{Filled, Measured, from_row, point_vector, point_ray, ray_at}

-- ---- lengths
-- the roots of vectors' products with themselves are their lengths
pub measured : (V : ℕ → Vector3 → Type 0) {old products new : List Float} → Filled (λ i a r. (v : Vector3) × V i v × (r ≡ square v)) old products → new ≡ first_roots (length products) products → Measured V old new
unfolding Vectors.length
measured V {old} {products} {new} f e = record {
  same = ap length e ∙ (length_first_roots (length products) products ∙ f.same);
  each = λ i h.
      let s = f.same in
      let v = f.each i h in
      (v.0, v.1, ap (λ (k : List Float). get_or k i nan) e ∙ (get_d_root (length products) products i nan (omega arith) (omega arith) ∙ ap (sqrt_of binary32) v.2));
}

-- where each vector is known, so are the lengths
pub measured_as : {V : ℕ → Vector3 → Type 0} {old new : List Float} (f : ℕ → Vector3) → Measured V old new → ((i : ℕ) (v : Vector3) → V i v → v ≡ f i) → (i : ℕ) → i < length old → get_or new i nan ≡ Vectors.length (f i)
measured_as f m e i h = let v = m.each i h in v.2 ∙ ap Vectors.length (e i v.0 v.1)

-- ---- rays
pub ray_is : (reflection : Reflection) (v : Vector3) → ray_by reflection (ray_vector reflection v) (Vectors.length (ray_vector reflection v)) ≡ ray_of reflection v
unfolding half_ray
ray_is Diffuse v = refl
ray_is Specular v = refl

-- a distant light's is the same at every pixel
pub distant_ray : (l : Lighting) (direction v : Vector3) (size : Float) → l.light ≡ Distant direction.x direction.y direction.z → v ≡ ray_vector l.reflection direction → size ≡ Vectors.length v → (a x y : ℕ) → ray_by l.reflection v size ≡ ray_of l.reflection (light_vector l.light l.scale a x y)
distant_ray l direction v size e f g a x y = rw (g, f, e) (ray_is l.reflection direction)

-- one to a point
module _ (l : Lighting) (point : Vector3) (row : Row) (e : l.light ≡ Point point.x point.y point.z) (spans sizes : List Float) (i : ℕ) (d : get_or spans i nan ≡ Vectors.length (from_row point l.scale row i)) where
  unit_is : unit_by (from_row point l.scale row i) (get_or spans i nan) ≡ to_point point.x point.y point.z l.scale (alpha_in row (row.strip.left + i) row.y) (row.strip.left + i) row.y
  unfolding to_point Vectors.unit_of
  unit_is = ap (unit_by (from_row point l.scale row i)) d

  pub diffuse_ray : l.reflection ≡ Diffuse → point_ray l point row spans sizes i ≡ ray_at l row i
  diffuse_ray f = rw (f, e) (ap Light unit_is)

  pub half_ray_is : get_or sizes i nan ≡ Vectors.length (point_vector l point row spans i) → point_ray l point row spans sizes i ≡ ray_at l row i
  half_ray_is f = rw e (ap (ray_by l.reflection (point_vector l point row spans i)) f ∙ (ray_is l.reflection _ ∙ ap (ray_of l.reflection) unit_is))

-- ---- factors
pub factor_is : (scale constant : Float) (n : Normal) (reflection : Reflection) (v : Vector3) (size : Float) → factor_along reflection constant (along_by scale n (Vectors.length (normal_vector scale n)) v) size ≡ light_factor scale constant n (ray_by reflection v size)
unfolding along
factor_is scale constant n Diffuse v size = refl
factor_is scale constant n Specular v size = go (near_zero size)
  where
    go : (short : Bool) → cond short c0 (constant ⊗ (along_by scale n (Vectors.length (normal_vector scale n)) v ⊘ size)) ≡ light_factor scale constant n (cond short Short (Half v size))
    go true = refl
    go false = refl

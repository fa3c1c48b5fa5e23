-- What each step leaves in the slots.
use Rattle.std.specs.Prelude.{ℕ, zero, suc, cond, List, [], eqb, Float}
use Rattle.morphology.specs.Morphology.{morphed}
use Rattle.composite.specs.Composite.{composed}
use Rattle.composite.specs.Arithmetic.{factors}
use Rattle.color_matrix.specs.ColorMatrix.{recoloured}
use Rattle.component_transfer.specs.ComponentTransfer.{transfer, transferred}
use Rattle.convolve_matrix.specs.ConvolveMatrix.{convolved}
use Rattle.displacement_map.specs.DisplacementMap.{displaced}
use Rattle.turbulence.specs.Turbulence.{drawn}
use Rattle.lighting.specs.Lighting.{lit, diffuse, specular}
use Rattle.recipe.specs.declared.Work.{Work}
use Rattle.recipe.specs.declared.Work.TheVariants.{Morphology, Arithmetic, ColorMatrix, ComponentTransfer, ConvolveMatrix, DisplacementMap, Turbulence, DiffuseLighting, SpecularLighting}
use Rattle.recipe.specs.declared.Step.{Step}

-- ---- the slots 0 to 3
pub data Slots : Type 0 where
  slots : List ℕ → List ℕ → List ℕ → List ℕ → Slots

-- a slot outside 0..=3 has no bytes
abbrev pub slot_of : Slots → ℕ → List ℕ
slot_of (slots a b c d) s = cond (eqb s 0) a (cond (eqb s 1) b (cond (eqb s 2) c (cond (eqb s 3) d [])))

-- with a new sheet in slot 1, 2 or 3; any other slot changes nothing
abbrev pub put : ℕ → List ℕ → Slots → Slots
put s new (slots a b c d) =
    cond (eqb s 1) (slots a new c d)
    (cond (eqb s 2) (slots a b new d)
    (cond (eqb s 3) (slots a b c new) (slots a b c d)))

-- ---- steps
-- what is worked out, where get s is the sheet in slot s; one more primitive adds a line
abbrev pub made : Work → List Float → ℕ → ℕ → (ℕ → List ℕ) → List ℕ
made (Morphology a op rx ry) pool w h get = morphed op rx ry w h (get a)
made (Arithmetic a b k1 k2 k3 k4) pool w h get = composed (factors k1 k2 k3 k4) (get a) (get b)
made (ColorMatrix a m) pool w h get = recoloured m pool (get a)
made (ComponentTransfer s r g b a) pool w h get = transferred (transfer r pool) (transfer g pool) (transfer b pool) (transfer a pool) (get s)
made (ConvolveMatrix a m) pool w h get = convolved m pool w h (get a)
made (DisplacementMap a b xs ys sx sy scale) pool w h get = displaced xs ys sx sy scale w h (get a) (get b)
made (Turbulence t) pool w h get = drawn t w h
made (DiffuseLighting a light scale constant color) pool w h get = lit (diffuse light scale constant color) w h (get a)
made (SpecularLighting a light scale constant exponent color) pool w h get = lit (specular light scale constant color) w h (get a)

-- what a step does to the slots
unfoldable pub act : List Float → ℕ → ℕ → Step → Slots → Slots
act pool w h s x = put s.output (made s.work pool w h (slot_of x)) x

-- what the first n steps do
unfoldable pub acts : List Float → ℕ → ℕ → (ℕ → Step) → ℕ → Slots → Slots
acts pool w h f zero x = x
acts pool w h f (suc n) x = act pool w h (f n) (acts pool w h f n x)

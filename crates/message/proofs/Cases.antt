-- By the cases of its work, a step has ranges or none; a range has no more numbers than it says.
use Prim.Native.Nat.{ℕ, ◌≤◌}
use mathlib.Core.Path.{◌≡◌, refl}
use mathlib.Core.Bool.{Bool, true, false, cond}
use mathlib.Core.List.{List, [], ◌∷◌}
use native.Mathlib.Omega.{arith}
use lib.ListN.{length, take, drop, length-take}
use lib.Ieee.{Float}
use types.Run.{OneOf, miss}
use denote.Enum.Declared.{tag_of}
use Rattle.recipe.specs.declared.Work.{Work}
use Rattle.recipe.specs.declared.Work.TheVariants.{Morphology, Arithmetic, ColorMatrix, ComponentTransfer, ConvolveMatrix, DisplacementMap, Turbulence, DiffuseLighting, SpecularLighting}
use Rattle.recipe.specs.contracts.Work.{the_type}
use Rattle.pool.specs.declared.Numbers.{Numbers}
use Rattle.pool.specs.Pool.{is_in, numbers_of}
use Rattle.message.specs.Answers.{ranges_of}

-- the other steps have no ranges
abbrev plain : List ℕ
plain = 0 ∷ 1 ∷ 5 ∷ 6 ∷ 7 ∷ 8 ∷ []

pub plain_work : (w : Work) → OneOf plain (tag_of the_type w) → ranges_of w ≡ []
plain_work (Morphology a op rx ry) h = refl
plain_work (Arithmetic a b k1 k2 k3 k4) h = refl
plain_work (ColorMatrix a m) h = absurd (miss plain 2 tt h)
plain_work (ComponentTransfer s r g b a) h = absurd (miss plain 3 tt h)
plain_work (ConvolveMatrix a m) h = absurd (miss plain 4 tt h)
plain_work (DisplacementMap a b xs ys sx sy scale) h = refl
plain_work (Turbulence t) h = refl
plain_work (DiffuseLighting a light scale constant color) h = refl
plain_work (SpecularLighting a light scale constant exponent color) h = refl

pub numbers_few : (r : Numbers) (pool : List Float) {l : List Float} → l ≡ numbers_of r pool → length l ≤ r.count
unfolding numbers_of
numbers_few r pool e = rw e (by (is_in r (length pool)))
  where
    by : (t : Bool) → length (cond t (take r.count (drop r.start pool)) []) ≤ r.count
    by true = simp length-take (omega arith)
    by false = omega arith

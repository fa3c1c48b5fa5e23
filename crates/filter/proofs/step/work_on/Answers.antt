-- By the cases of the work, each by its filter.
use Prim.Native.Nat.{ℕ}
use mathlib.Core.Path.{◌≡◌, sym, ap, ◌∙◌}
use mathlib.Core.List.{List}
use Rattle.composite.specs.Composite.{composed}
use Rattle.displacement_map.specs.DisplacementMap.{displaced}
use Rattle.filter.proofs.Acting.{none_fits, lone_fits, one_fits, two_fit}
use Rattle.filter.proofs.step.work_on.Goals as goal

of-both : (f : List ℕ → List ℕ → List ℕ) {a b a' b' made : List ℕ} → made ≡ f a b → (a' ≡ a) × (b' ≡ b) → made ≡ f a' b'
of-both f {b = b} {a' = a'} e same = e ∙ (ap (λ (s : List ℕ). f s b) (sym same.0) ∙ ap (f a') (sym same.1))

pub morphology_into-requires : goal.morphology_into-requires
morphology_into-requires c =
    record { scratch_value = one_fits _ _ _ _ _ _ c.requires.scratch_value; ry_value = rw c.in-Morphology.is at c.requires.pool_value }

pub arithmetic_into-requires : goal.arithmetic_into-requires
arithmetic_into-requires c =
    record { out_value = two_fit _ _ _ _ _ _ c.requires.scratch_value; k4_value = rw c.in-Arithmetic.is at c.requires.pool_value }

pub matrix_into-requires : goal.matrix_into-requires
matrix_into-requires c =
    record { out_value = lone_fits _ _ _ _ _ _ c.requires.scratch_value; pool_value = rw c.in-ColorMatrix.is at c.requires.pool_value }

pub transfer_into-requires : goal.transfer_into-requires
transfer_into-requires c =
    record { out_value = lone_fits _ _ _ _ _ _ c.requires.scratch_value; pool_value = rw c.in-ComponentTransfer.is at c.requires.pool_value }

pub convolve_into-requires : goal.convolve_into-requires
convolve_into-requires c =
    record { scratch_value = one_fits _ _ _ _ _ _ c.requires.scratch_value; pool_value = rw c.in-ConvolveMatrix.is at c.requires.pool_value }

pub displacement_into-requires : goal.displacement_into-requires
displacement_into-requires c =
    record { out_value = two_fit _ _ _ _ _ _ c.requires.scratch_value; scale_value = rw c.in-DisplacementMap.is at c.requires.pool_value }

pub turbulence_into-requires : goal.turbulence_into-requires
turbulence_into-requires c =
    record { out_value = none_fits _ _ _ _ _ _ c.requires.scratch_value; t_value = rw c.in-Turbulence.is at c.requires.pool_value }

pub diffuse_into-requires : goal.diffuse_into-requires
diffuse_into-requires c =
    record { out_value = lone_fits _ _ _ _ _ _ c.requires.scratch_value; constant_value = rw c.in-DiffuseLighting.is at c.requires.pool_value }

pub specular_into-requires : goal.specular_into-requires
specular_into-requires c =
    record { out_value = lone_fits _ _ _ _ _ _ c.requires.scratch_value; exponent_value = rw c.in-SpecularLighting.is at c.requires.pool_value }

pub returns-in-Morphology : goal.returns-in-Morphology
returns-in-Morphology c =
    rw c.in-Morphology.is (λ get got. rw (c.morphology_into.ensures, got))

pub returns-in-Arithmetic : goal.returns-in-Arithmetic
returns-in-Arithmetic c =
    rw c.in-Arithmetic.is (λ get got. of-both (composed _) c.arithmetic_into.ensures got)

pub returns-in-ColorMatrix : goal.returns-in-ColorMatrix
returns-in-ColorMatrix c =
    rw c.in-ColorMatrix.is (λ get got. rw (c.matrix_into.ensures, got))

pub returns-in-ComponentTransfer : goal.returns-in-ComponentTransfer
returns-in-ComponentTransfer c =
    rw c.in-ComponentTransfer.is (λ get got. rw (c.transfer_into.ensures, got))

pub returns-in-ConvolveMatrix : goal.returns-in-ConvolveMatrix
returns-in-ConvolveMatrix c =
    rw c.in-ConvolveMatrix.is (λ get got. rw (c.convolve_into.ensures, got))

pub returns-in-DisplacementMap : goal.returns-in-DisplacementMap
returns-in-DisplacementMap c =
    rw c.in-DisplacementMap.is (λ get got. of-both (displaced _ _ _ _ _ _ _) c.displacement_into.ensures got)

pub returns-in-Turbulence : goal.returns-in-Turbulence
returns-in-Turbulence c =
    rw c.in-Turbulence.is (λ get got. c.turbulence_into.ensures)

pub returns-in-DiffuseLighting : goal.returns-in-DiffuseLighting
returns-in-DiffuseLighting c =
    rw c.in-DiffuseLighting.is (λ get got. rw (c.diffuse_into.ensures, got))

pub returns-in-SpecularLighting : goal.returns-in-SpecularLighting
returns-in-SpecularLighting c =
    rw c.in-SpecularLighting.is (λ get got. rw (c.specular_into.ensures, got))

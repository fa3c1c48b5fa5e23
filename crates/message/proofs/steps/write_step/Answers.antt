-- By the cases of the work: its row, and what comes after it.
use mathlib.Core.Path.{refl}
use mathlib.Core.List.{append-nil}
use native.Mathlib.Omega.{arith}
use Rattle.message.specs.Fields.{write_field, write}
use Rattle.message.specs.Steps.{words_of}
use Rattle.message.proofs.Puts.{wrote_then, wrote_as}
use Rattle.message.proofs.steps.write_step.Goals as goal

pub returns-in-Morphology-clause-wrote : goal.returns-in-Morphology-clause-wrote
unfolding words_of write_field write
returns-in-Morphology-clause-wrote c = rw c.in-Morphology.is (wrote_as c.row.ensures.wrote (simp (c.from-code.ensures, c.bits_of.ensures, c.bits_of-in-Morphology.ensures)) (omega arith))

pub returns-in-ColorMatrix-clause-wrote : goal.returns-in-ColorMatrix-clause-wrote
unfolding words_of write_field write
returns-in-ColorMatrix-clause-wrote c = rw c.in-ColorMatrix.is (wrote_as (wrote_then c.row-in-ColorMatrix.ensures.wrote c.matrix.ensures.wrote) (simp append-nil) (omega arith))

pub returns-in-ComponentTransfer-clause-wrote : goal.returns-in-ComponentTransfer-clause-wrote
unfolding words_of write_field write
returns-in-ComponentTransfer-clause-wrote c = rw c.in-ComponentTransfer.is (wrote_as (wrote_then c.row-in-ComponentTransfer.ensures.wrote (wrote_then c.function.ensures.wrote (wrote_then c.function-in-ComponentTransfer.ensures.wrote (wrote_then c.function-in-ComponentTransfer-2.ensures.wrote c.function-in-ComponentTransfer-3.ensures.wrote)))) (simp append-nil) (omega arith))

pub returns-in-Arithmetic-clause-wrote : goal.returns-in-Arithmetic-clause-wrote
unfolding words_of write_field write
returns-in-Arithmetic-clause-wrote c = rw c.in-Arithmetic.is (wrote_as c.row-in-Arithmetic.ensures.wrote (simp (c.bits_of-in-Arithmetic.ensures, c.bits_of-in-Arithmetic-2.ensures, c.bits_of-in-Arithmetic-3.ensures, c.bits_of-in-Arithmetic-4.ensures)) (omega arith))

pub returns-in-ConvolveMatrix-clause-wrote : goal.returns-in-ConvolveMatrix-clause-wrote
returns-in-ConvolveMatrix-clause-wrote c = rw c.in-ConvolveMatrix.is c.convolve_matrix.ensures.wrote

pub returns-in-DisplacementMap-clause-wrote : goal.returns-in-DisplacementMap-clause-wrote
unfolding words_of write_field write
returns-in-DisplacementMap-clause-wrote c = rw c.in-DisplacementMap.is (wrote_as c.row-in-DisplacementMap.ensures.wrote (simp (c.from.ensures, c.from-in-DisplacementMap.ensures, c.bits_of-in-DisplacementMap.ensures, c.bits_of-in-DisplacementMap-2.ensures, c.bits_of-in-DisplacementMap-3.ensures)) (omega arith))

pub returns-in-Turbulence-clause-wrote : goal.returns-in-Turbulence-clause-wrote
unfolding words_of
returns-in-Turbulence-clause-wrote c = rw c.in-Turbulence.is (wrote_as c.turbulence.ensures.wrote refl (omega arith))

pub returns-in-DiffuseLighting-clause-wrote : goal.returns-in-DiffuseLighting-clause-wrote
unfolding words_of write_field write
returns-in-DiffuseLighting-clause-wrote c = rw c.in-DiffuseLighting.is (wrote_as (wrote_then c.row-in-DiffuseLighting.ensures.wrote c.lit.ensures.wrote) (simp (c.bits_of-in-DiffuseLighting.ensures, c.bits_of-in-DiffuseLighting-2.ensures)) (omega arith))

pub returns-in-SpecularLighting-clause-wrote : goal.returns-in-SpecularLighting-clause-wrote
unfolding words_of write_field write
returns-in-SpecularLighting-clause-wrote c = rw c.in-SpecularLighting.is (wrote_as (wrote_then c.row-in-SpecularLighting.ensures.wrote c.lit-in-SpecularLighting.ensures.wrote) (simp (c.bits_of-in-SpecularLighting.ensures, c.bits_of-in-SpecularLighting-2.ensures, c.bits_of-in-SpecularLighting-3.ensures)) (omega arith))

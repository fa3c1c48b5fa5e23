-- What a run is answered: docs/LAW.md's tests 1, 2 and 6, then for each step in turn 7, 8 and 3, 4, 5.
use Rattle.std.specs.Prelude.{ℕ, zero, suc, Bool, true, false, cond, List, get_or, eqb, ltb, Float, Result, Ok, Err, ⊤}
use Rattle.std.specs.Float.{nan}
use Rattle.sheet.specs.Answer.{Answer, Done, refusal, refusal_number, and_then}
use Rattle.sheet.specs.Size.{sheets_answer}
use Rattle.morphology.specs.declared.operator.MorphologyOperator.TheVariants.{Dilate}
use Rattle.morphology.specs.Morphology.{radii_answer}
use Rattle.composite.specs.Composite.{factors_answer}
use Rattle.color_matrix.specs.ColorMatrix.{matrix_answer}
use Rattle.component_transfer.specs.ComponentTransfer.{channels_answer}
use Rattle.convolve_matrix.specs.ConvolveMatrix.{kernel_answer}
use Rattle.displacement_map.specs.DisplacementMap.{scales_answer}
use Rattle.turbulence.specs.Turbulence.{turbulence_answer}
use Rattle.lighting.specs.Lighting.{diffuse_answer, specular_answer}
use Rattle.recipe.specs.declared.Kind.{Kind}
use Rattle.recipe.specs.declared.Work.{Work}
use Rattle.recipe.specs.declared.Work.TheVariants.{Morphology, Arithmetic, ColorMatrix, ComponentTransfer, ConvolveMatrix, DisplacementMap, Turbulence, DiffuseLighting, SpecularLighting}
use Rattle.recipe.specs.declared.Inputs.{Inputs}
use Rattle.recipe.specs.declared.Inputs.TheVariants.{None, One, Two}
use Rattle.recipe.specs.declared.Refused.{Refused}
use Rattle.recipe.specs.declared.Step.{Step}
use Rattle.recipe.specs.declared.Recipe.{Recipe}
use Rattle.recipe.specs.Contents.{Contents, content_in, is_sheet, inputs_of, work_makes, at_first, contents}

-- tests 3, 4 and 5, as in the single call; one more primitive adds a line
abbrev pub work_answer : Work → List Float → Answer
work_answer (Morphology a op rx ry) pool = radii_answer rx ry
work_answer (Arithmetic a b k1 k2 k3 k4) pool = factors_answer k1 k2 k3 k4
work_answer (ColorMatrix a m) pool = matrix_answer m pool
work_answer (ComponentTransfer s r g b a) pool = channels_answer r g b a pool
work_answer (ConvolveMatrix a m) pool = kernel_answer m pool
work_answer (DisplacementMap a b xs ys sx sy scale) pool = scales_answer sx sy scale
work_answer (Turbulence t) pool = turbulence_answer t
work_answer (DiffuseLighting a light scale constant color) pool = diffuse_answer light scale constant
work_answer (SpecularLighting a light scale constant exponent color) pool = specular_answer light scale constant exponent

-- ---- the tests of a step
-- an input is not the output, and is slot 0 or was written
unfoldable pub input_ok : ℕ → ℕ → Contents → Bool
input_ok a output x = cond (eqb a output) false (is_sheet (content_in a x))

abbrev pub inputs_ok : Inputs → ℕ → Contents → Bool
inputs_ok None output x = true
inputs_ok (One a) output x = input_ok a output x
inputs_ok (Two a b) output x = cond (input_ok a output x) (input_ok b output x) false

-- the output is slot 1, 2 or 3, and the inputs pass
unfoldable pub slots_ok : Inputs → ℕ → Contents → Bool
slots_ok inputs output x = cond (eqb output 0) false (cond (ltb 3 output) false (inputs_ok inputs output x))

-- test 7
abbrev pub slot_answer : Step → Contents → Answer
slot_answer s x = cond (slots_ok (inputs_of s.work) s.output x) Done (refusal 7)

-- test 8
abbrev pub kind_answer : Step → Contents → Answer
kind_answer s x = cond (is_sheet (work_makes s.work x)) Done (refusal 8)

-- 7, then 8, then 3, 4 and 5
unfoldable pub step_answer : Step → List Float → Contents → Answer
step_answer s pool x = and_then (slot_answer s x) (and_then (kind_answer s x) (work_answer s.work pool))

-- ---- what a run is answered: nothing more where it is done, and else a refusal and the step that it is about
abbrev pub RunAnswer : Type 0
RunAnswer = Result ⊤ Refused

-- an answer of step i
abbrev pub at_step : ℕ → Answer → RunAnswer
at_step i (Ok _) = Done
at_step i (Err r) = Err (record { refusal = r; step = i })

-- a refusal that is about no step has the index 0
abbrev pub whole : Answer → RunAnswer
whole a = at_step 0 a

-- docs/LAW.md's number of an answer
abbrev pub number : RunAnswer → ℕ
number (Ok _) = 0
number (Err r) = refusal_number r.refusal

abbrev pub step_index : RunAnswer → ℕ
step_index (Ok _) = 0
step_index (Err r) = r.step

-- ---- the tests of a recipe
-- what the logic puts past the end of a recipe's list of steps; a count of at most step_limit is tested first, so no run reads it
abbrev pub no_step : Step
no_step = record { work = Morphology 0 Dilate nan nan; output = 0 }

abbrev pub step_of : Recipe → ℕ → Step
step_of r i = get_or r.steps i no_step

-- the first refusal among the first n steps
unfoldable pub steps_answer : (ℕ → Step) → Contents → List Float → ℕ → RunAnswer
steps_answer f x pool zero = Done
steps_answer f x pool (suc n) = and_then (steps_answer f x pool n) (at_step n (step_answer (f n) pool (contents f x n)))

abbrev pub step_limit : ℕ
step_limit = 16

-- test 6, then the steps
unfoldable pub recipe_answer : Recipe → Kind → List Float → RunAnswer
recipe_answer r k pool =
    cond (eqb r.count 0) (whole (refusal 6))
    (cond (ltb step_limit r.count) (whole (refusal 6))
    (steps_answer (step_of r) (at_first k) pool r.count))

-- a run of sheets of these lengths: tests 1 and 2, then the recipe
unfoldable pub run_answer : Recipe → Kind → List Float → ℕ → ℕ → List ℕ → RunAnswer
run_answer r k pool w h lengths = and_then (whole (sheets_answer w h lengths)) (recipe_answer r k pool)

-- What is said of each kind of step: its parts have a known code, make it again with its ranges end to end, and have its numbers for the pool.
use Prim.Native.Nat.{ℕ, ◌+◌, ◌≤◌, ◌<◌, min}
use mathlib.Core.Path.{◌≡◌, refl, sym, ap, ◌∙◌}
use mathlib.Core.Bool.{Bool, true, false}
use mathlib.Core.List.{List, ◌++◌, append_assoc, append-nil}
use native.Mathlib.Omega.{arith}
use native.Mathlib.Nat.{min-eq_left}
use lib.ListN.{length}
use lib.Dec.{eqb}
use lib.Ieee.{Float}
use Rattle.pool.specs.declared.Numbers.{Numbers}
use Rattle.pool.specs.Pool.{is_in, numbers_of}
use Rattle.morphology.specs.declared.operator.MorphologyOperator.{MorphologyOperator}
use Rattle.morphology.specs.declared.operator.MorphologyOperator.TheVariants.{Dilate, Erode}
use Rattle.color_matrix.specs.declared.ColorMatrix.{ColorMatrix as ColorMatrixType}
use Rattle.color_matrix.specs.declared.ColorMatrix.TheVariants as matrix
use Rattle.component_transfer.specs.declared.TransferFunction.{TransferFunction}
use Rattle.component_transfer.specs.declared.TransferFunction.TheVariants as transfer
use Rattle.convolve_matrix.specs.declared.edge.EdgeMode.{EdgeMode}
use Rattle.convolve_matrix.specs.declared.edge.EdgeMode.TheVariants as edge
use Rattle.displacement_map.specs.declared.ColorChannel.{ColorChannel}
use Rattle.displacement_map.specs.declared.ColorChannel.TheVariants.{R, G, B, A}
use Rattle.lighting.specs.declared.light.LightSource.TheVariants.{Distant, Point}
use Rattle.recipe.specs.declared.Work.{Work}
use Rattle.recipe.specs.declared.Work.TheVariants.{Morphology, Arithmetic, ColorMatrix, ComponentTransfer, ConvolveMatrix, DisplacementMap, Turbulence, DiffuseLighting, SpecularLighting}
use Rattle.recipe.specs.declared.Step.{Step}
use Rattle.message.specs.Fields.{pooled, pooled_by}
use Rattle.morphology.specs.Numbered.{operator_number}
use Rattle.convolve_matrix.specs.Numbered.{edge_mode_number}
use Rattle.displacement_map.specs.DisplacementMap.{channel_number}
use Rattle.message.specs.Steps.{range, step, matrix_at, matrix_in, operator_by, edge_by, channel_by, yes_code, transferred, function, colour, function_in, function_of, past, is_code, parts, parts_of, made_of, pooled_of}
use Rattle.message.specs.Answers.{matrix_ranges, function_ranges, ranges_of}
use Rattle.message.specs.RoundTrip.{counted, relaid_range, relaid_matrix, relaid_function, past_function, relaid_work, relaid, numbers_in}
use Rattle.message.proofs.Ranges.{InPool, in_first, in_rest, counted_append, numbers_append, range_long, numbers_long}

-- ---- what a code names is what it was made of
operator_again : (op : MorphologyOperator) → operator_by (operator_number op) ≡ op
operator_again Dilate = refl
operator_again Erode = refl

edge_again : (e : EdgeMode) → edge_by (edge_mode_number e) ≡ e
edge_again edge.None = refl
edge_again edge.Duplicate = refl
edge_again edge.Wrap = refl

channel_again : (c : ColorChannel) → channel_by (channel_number c) ≡ c
channel_again R = refl
channel_again G = refl
channel_again B = refl
channel_again A = refl

yes_again : (b : Bool) → eqb (yes_code b) 1 ≡ b
yes_again true = refl
yes_again false = refl

-- ---- the parts of a step make it again, its ranges end to end
module _ (pool : List Float) where
  range_relaid : (used : ℕ) (r : Numbers) → is_in r (length pool) ≡ true → used ≤ 4294967295 → range used (numbers_of r pool) ≡ relaid_range used r
  range_relaid used r h k = let e = range_long pool r h in let f : min used 4294967295 ≡ used = min-eq_left k in rw (e, f)

  matrix_relaid :
      (used : ℕ) (m : ColorMatrixType) → InPool pool (matrix_ranges m) → used ≤ 4294967295
      → matrix_at used (matrix_in pool m).0 (matrix_in pool m).1 ≡ relaid_matrix used m
  matrix_relaid used (matrix.Matrix r) h k = ap matrix.Matrix (range_relaid used r h.0 k)
  matrix_relaid used (matrix.Saturate v) h k = refl
  matrix_relaid used (matrix.HueRotate cosine sine) h k = refl
  matrix_relaid used matrix.LuminanceToAlpha h k = refl

  function_relaid :
      (used : ℕ) (f : TransferFunction) → InPool pool (function_ranges f) → used ≤ 4294967295 → function_of used (function_in pool f) ≡ relaid_function used f
  function_relaid used transfer.Identity h k = refl
  function_relaid used (transfer.Table r) h k = ap transfer.Table (range_relaid used r h.0 k)
  function_relaid used (transfer.Discrete r) h k = ap transfer.Discrete (range_relaid used r h.0 k)
  function_relaid used (transfer.Linear slope intercept) h k = refl

  matrix_numbers : (m : ColorMatrixType) → pooled_by colour (matrix_in pool m) ≡ numbers_in pool (matrix_ranges m)
  unfolding numbers_in
  matrix_numbers (matrix.Matrix r) = sym (append-nil (numbers_of r pool))
  matrix_numbers (matrix.Saturate v) = refl
  matrix_numbers (matrix.HueRotate cosine sine) = refl
  matrix_numbers matrix.LuminanceToAlpha = refl

  function_numbers : (f : TransferFunction) → pooled_by function (function_in pool f) ≡ numbers_in pool (function_ranges f)
  unfolding numbers_in
  function_numbers transfer.Identity = refl
  function_numbers (transfer.Table r) = sym (append-nil (numbers_of r pool))
  function_numbers (transfer.Discrete r) = sym (append-nil (numbers_of r pool))
  function_numbers (transfer.Linear slope intercept) = refl

  function_past : (used : ℕ) (f : TransferFunction) → InPool pool (function_ranges f) → past used (function_in pool f) ≡ past_function used f
  function_past used f h = rw (function_numbers f, numbers_long pool (function_ranges f) h)

  transfer_relaid :
      (used s : ℕ) (r g b a : TransferFunction) → InPool pool (ranges_of (ComponentTransfer s r g b a)) → used + counted (ranges_of (ComponentTransfer s r g b a)) ≤ 4294967295
      → transferred used s (function_in pool r) (function_in pool g) (function_in pool b) (function_in pool a) ≡ relaid_work used (ComponentTransfer s r g b a)
  transfer_relaid used s r g b a h k =
      let rgb = function_ranges r ++ function_ranges g ++ function_ranges b in
      let rg = function_ranges r ++ function_ranges g in
      let h3 = in_first pool rgb (function_ranges a) h in
      let h2 = in_first pool rg (function_ranges b) h3 in
      let hr = in_first pool (function_ranges r) (function_ranges g) h2 in
      let hg = in_rest pool (function_ranges r) (function_ranges g) h2 in
      let hb = in_rest pool rg (function_ranges b) h3 in
      let ha = in_rest pool rgb (function_ranges a) h in
      let c3 = counted_append rgb (function_ranges a) in
      let c2 = counted_append rg (function_ranges b) in
      let c1 = counted_append (function_ranges r) (function_ranges g) in
      let ug = past_function used r in
      let ub = past_function ug g in
      let ua = past_function ub b in
      rw (
        function_past used r hr,
        function_past ug g hg,
        function_past ub b hb,
        function_relaid used r hr (omega arith),
        function_relaid ug g hg (omega arith),
        function_relaid ub b hb (omega arith),
        function_relaid ua a ha (omega arith),
      )

  work_relaid : (used : ℕ) (w : Work) (o : ℕ) → InPool pool (ranges_of w) → used + counted (ranges_of w) ≤ 4294967295 → made_of used (parts pool w o) ≡ step (relaid_work used w) o
  work_relaid used (Morphology a op rx ry) o h k = rw (operator_again op)
  work_relaid used (Arithmetic a b k1 k2 k3 k4) o h k = refl
  work_relaid used (ColorMatrix a m) o h k = rw (matrix_relaid used m h (omega arith))
  work_relaid used (ComponentTransfer s r g b a) o h k = rw (transfer_relaid used s r g b a h k)
  work_relaid used (ConvolveMatrix a m) o h k =
      rw (range_relaid used m.matrix h.0 (omega arith), edge_again m.edge_mode, yes_again m.preserve_alpha)
  work_relaid used (DisplacementMap a b xs ys sx sy scale) o h k = rw (channel_again xs, channel_again ys)
  work_relaid used (Turbulence t) o h k = rw (yes_again t.fractal_noise)
  work_relaid used (DiffuseLighting a (Distant x y z) scale constant color) o h k = refl
  work_relaid used (DiffuseLighting a (Point x y z) scale constant color) o h k = refl
  work_relaid used (SpecularLighting a (Distant x y z) scale constant exponent color) o h k = refl
  work_relaid used (SpecularLighting a (Point x y z) scale constant exponent color) o h k = refl

  work_numbers : (w : Work) (o : ℕ) → pooled_of (parts pool w o) ≡ numbers_in pool (ranges_of w)
  unfolding pooled numbers_in
  work_numbers (Morphology a op rx ry) o = refl
  work_numbers (Arithmetic a b k1 k2 k3 k4) o = refl
  work_numbers (ColorMatrix a m) o = append-nil (pooled_by colour (matrix_in pool m)) ∙ matrix_numbers m
  work_numbers (ComponentTransfer s r g b a) o = simp (function_numbers, numbers_append, append_assoc, append-nil)
  work_numbers (ConvolveMatrix a m) o = refl
  work_numbers (DisplacementMap a b xs ys sx sy scale) o = refl
  work_numbers (Turbulence t) o = refl
  work_numbers (DiffuseLighting a (Distant x y z) scale constant color) o = refl
  work_numbers (DiffuseLighting a (Point x y z) scale constant color) o = refl
  work_numbers (SpecularLighting a (Distant x y z) scale constant exponent color) o = refl
  work_numbers (SpecularLighting a (Point x y z) scale constant exponent color) o = refl

  pub step_relaid : (used : ℕ) (s : Step) → InPool pool (ranges_of s.work) → used + counted (ranges_of s.work) ≤ 4294967295 → made_of used (parts_of pool s) ≡ relaid used s
  step_relaid used s h k = work_relaid used s.work s.output h k

  pub step_numbers : (s : Step) → pooled_of (parts_of pool s) ≡ numbers_in pool (ranges_of s.work)
  step_numbers s = work_numbers s.work s.output

-- ---- a known code
known_work : (pool : List Float) (w : Work) (o : ℕ) → (is_code (parts pool w o).code ≡ true) × ((parts pool w o).code < 4294967296)
known_work pool (Morphology a op rx ry) o = (refl, omega arith)
known_work pool (Arithmetic a b k1 k2 k3 k4) o = (refl, omega arith)
known_work pool (ColorMatrix a m) o = (refl, omega arith)
known_work pool (ComponentTransfer s r g b a) o = (refl, omega arith)
known_work pool (ConvolveMatrix a m) o = (refl, omega arith)
known_work pool (DisplacementMap a b xs ys sx sy scale) o = (refl, omega arith)
known_work pool (Turbulence t) o = (refl, omega arith)
known_work pool (DiffuseLighting a light scale constant color) o = (refl, omega arith)
known_work pool (SpecularLighting a light scale constant exponent color) o = (refl, omega arith)

pub known_step : (pool : List Float) (s : Step) → (is_code (parts_of pool s).code ≡ true) × ((parts_of pool s).code < 4294967296)
known_step pool s = known_work pool s.work s.output

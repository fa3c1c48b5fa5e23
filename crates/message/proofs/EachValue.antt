-- What is said of each value of a step, and of the pool's numbers, is said of each value that is written.
use Prim.Native.Nat.{ℕ, zero, suc, ◌≤◌, ◌<◌}
use mathlib.Core.Path.{◌≡◌, refl}
use mathlib.Core.Bool.{Bool, true, false, cond}
use mathlib.Core.List.{List, [], ◌∷◌}
use native.Mathlib.Omega.{arith}
use lib.ListN.{length, take, drop}
use lib.Ieee.{Float}
use Rattle.pool.specs.declared.Numbers.{Numbers}
use Rattle.pool.specs.Pool.{is_in, numbers_of}
use Rattle.morphology.specs.declared.operator.MorphologyOperator.{MorphologyOperator}
use Rattle.morphology.specs.declared.operator.MorphologyOperator.TheVariants.{Dilate, Erode}
use Rattle.color_matrix.specs.declared.ColorMatrix.{ColorMatrix as ColorMatrixType}
use Rattle.color_matrix.specs.declared.ColorMatrix.TheVariants as matrix
use Rattle.component_transfer.specs.declared.TransferFunction.{TransferFunction}
use Rattle.component_transfer.specs.declared.TransferFunction.TheVariants as transfer
use Rattle.convolve_matrix.specs.declared.edge.EdgeMode.{EdgeMode}
use Rattle.convolve_matrix.specs.declared.edge.EdgeMode.TheVariants as edge
use Rattle.displacement_map.specs.declared.ColorChannel.{ColorChannel}
use Rattle.displacement_map.specs.declared.ColorChannel.TheVariants.{R, G, B, A}
use Rattle.lighting.specs.declared.light.LightSource.{LightSource}
use Rattle.lighting.specs.declared.light.LightSource.TheVariants.{Distant, Point}
use Rattle.recipe.specs.declared.Work.{Work}
use Rattle.recipe.specs.declared.Work.TheVariants.{Morphology, Arithmetic, ColorMatrix, ComponentTransfer, ConvolveMatrix, DisplacementMap, Turbulence, DiffuseLighting, SpecularLighting}
use Rattle.recipe.specs.declared.Step.{Step}
use Rattle.message.specs.Fields.{up_to, float}
use Rattle.morphology.specs.Numbered.{operator_number}
use Rattle.convolve_matrix.specs.Numbered.{edge_mode_number}
use Rattle.displacement_map.specs.DisplacementMap.{channel_number}
use Rattle.message.specs.Steps.{matrix_in, yes_code, function, colour, function_in, light_parts, form_of, parts, parts_of}
use Rattle.message.specs.RoundTrip.{Says, EachOf, EachMatrix, EachFunction, EachLight, EachWork, EachStep}
use Rattle.message.proofs.Fields.{EachNumbers, EachField, EachValue}
use Rattle.message.proofs.Ranges.{range_long}

-- ---- parts of a list
module _ {X : Type 0} (P : X → Type 0) where
  pub each_take : (n : ℕ) (l : List X) → EachOf P l → EachOf P (take n l)
  each_take zero l h = tt
  each_take (suc n) [] h = tt
  each_take (suc n) (x ∷ l) h = (h.0, each_take n l h.1)

  each_drop : (n : ℕ) (l : List X) → EachOf P l → EachOf P (drop n l)
  each_drop zero l h = h
  each_drop (suc n) [] h = tt
  each_drop (suc n) (x ∷ l) h = each_drop n l h.1

-- ---- codes are small
operator_small : (op : MorphologyOperator) → operator_number op < 2
operator_small Dilate = omega arith
operator_small Erode = omega arith

edge_small : (e : EdgeMode) → edge_mode_number e < 3
edge_small edge.None = omega arith
edge_small edge.Duplicate = omega arith
edge_small edge.Wrap = omega arith

channel_small : (c : ColorChannel) → channel_number c < 4
channel_small R = omega arith
channel_small G = omega arith
channel_small B = omega arith
channel_small A = omega arith

yes_small : (b : Bool) → yes_code b < 2
yes_small true = omega arith
yes_small false = omega arith

module _
    (P : Says) (C : ℕ → ℕ → Type 0) (empty : P.number 0) (codes : (n k : ℕ) → k < n → n ≤ 256 → C n k) (bytes : (k : ℕ) → P.byte k → C 256 k)
    (pool : List Float) (all : EachOf P.float pool) where
  range_each : (r : Numbers) → P.number r.count → EachNumbers P C (numbers_of r pool)
  unfolding numbers_of
  range_each r h = by (is_in r (length pool)) (range_long pool r)
    where
      by : (t : Bool) → (t ≡ true → length (cond t (take r.count (drop r.start pool)) []) ≡ r.count) → EachNumbers P C (cond t (take r.count (drop r.start pool)) [])
      by true e = let f = e refl in (rw f h, each_take P.float r.count (drop r.start pool) (each_drop P.float r.start pool all))
      by false e = (empty, tt)

  matrix_each : (m : ColorMatrixType) → EachMatrix P m → EachField P C colour (matrix_in pool m)
  matrix_each (matrix.Matrix r) h = (codes 4 0 (omega arith) (omega arith), range_each r h)
  matrix_each (matrix.Saturate v) h = (codes 4 1 (omega arith) (omega arith), h)
  matrix_each (matrix.HueRotate cosine sine) h = (codes 4 2 (omega arith) (omega arith), h)
  matrix_each matrix.LuminanceToAlpha h = (codes 4 3 (omega arith) (omega arith), tt)

  function_each : (f : TransferFunction) → EachFunction P f → EachField P C function (function_in pool f)
  function_each transfer.Identity h = (codes 4 0 (omega arith) (omega arith), tt)
  function_each (transfer.Table r) h = (codes 4 1 (omega arith) (omega arith), range_each r h)
  function_each (transfer.Discrete r) h = (codes 4 2 (omega arith) (omega arith), range_each r h)
  function_each (transfer.Linear slope intercept) h = (codes 4 3 (omega arith) (omega arith), h)

  light_each : (l : LightSource) → EachLight P l → EachValue P C (up_to 1 ∷ float ∷ float ∷ float ∷ []) (light_parts l)
  light_each (Distant x y z) h = (codes 2 0 (omega arith) (omega arith), (h.0, (h.1, (h.2, tt))))
  light_each (Point x y z) h = (codes 2 1 (omega arith) (omega arith), (h.0, (h.1, (h.2, tt))))

  work_each : (w : Work) (o : ℕ) → P.number o → EachWork P w → EachValue P C (form_of (parts pool w o).code).row (parts pool w o).values
  work_each (Morphology a op rx ry) o n h = (h.0, (n, (codes 2 (operator_number op) (operator_small op) (omega arith), (h.1, (h.2, tt)))))
  work_each (Arithmetic a b k1 k2 k3 k4) o n h = (h.0, (h.1, (n, (h.2, (h.3, (h.4, (h.5, tt)))))))
  work_each (ColorMatrix a m) o n h = (h.0, (n, (matrix_each m h.1, tt)))
  work_each (ComponentTransfer s r g b a) o n h =
      (h.0, (n, (function_each r h.1, (function_each g h.2, (function_each b h.3, (function_each a h.4, tt))))))
  work_each (ConvolveMatrix a m) o n h =
      let mode = codes 3 (edge_mode_number m.edge_mode) (edge_small m.edge_mode) (omega arith) in
      let preserve = codes 2 (yes_code m.preserve_alpha) (yes_small m.preserve_alpha) (omega arith) in
      (h.0, (n, (h.1, (h.2, (h.3, (h.4, (range_each m.matrix h.5, (h.6, (h.7, (mode, (preserve, tt)))))))))))
  work_each (DisplacementMap a b xs ys sx sy scale) o n h =
      let x = codes 4 (channel_number xs) (channel_small xs) (omega arith) in
      let y = codes 4 (channel_number ys) (channel_small ys) (omega arith) in
      (h.0, (h.1, (n, (x, (y, (h.2, (h.3, (h.4, tt))))))))
  work_each (Turbulence t) o n h =
      let kind = codes 2 (yes_code t.fractal_noise) (yes_small t.fractal_noise) (omega arith) in
      (n, (h.0, (h.1, (h.2, (h.3, (h.4, (h.5, (h.6, (h.7, (kind, tt))))))))))
  work_each (DiffuseLighting a light scale constant color) o n h =
      (h.0, (n, (h.1, (h.2, (bytes color.red h.3, (bytes color.green h.4, (bytes color.blue h.5, light_each light h.6)))))))
  work_each (SpecularLighting a light scale constant exponent color) o n h =
      (h.0, (n, (h.1, (h.2, (h.3, (bytes color.red h.4, (bytes color.green h.5, (bytes color.blue h.6, light_each light h.7))))))))

  pub step_each : (s : Step) → EachStep P s → EachValue P C (form_of (parts_of pool s).code).row (parts_of pool s).values
  step_each s h = work_each s.work s.output h.0 h.1

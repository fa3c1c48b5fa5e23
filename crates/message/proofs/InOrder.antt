-- Laying ranges end to end moves none that stands so already.
use Prim.Native.Nat.{ℕ, ◌+◌}
use mathlib.Core.Path.{◌≡◌, refl, ap}
use mathlib.Core.List.{List, [], ◌∷◌, ◌++◌}
use native.Mathlib.Omega.{arith}
use Rattle.pool.specs.declared.Numbers.{Numbers}
use Rattle.color_matrix.specs.declared.ColorMatrix.{ColorMatrix as ColorMatrixType}
use Rattle.color_matrix.specs.declared.ColorMatrix.TheVariants as matrix
use Rattle.component_transfer.specs.declared.TransferFunction.{TransferFunction}
use Rattle.component_transfer.specs.declared.TransferFunction.TheVariants as transfer
use Rattle.recipe.specs.declared.Work.{Work}
use Rattle.recipe.specs.declared.Work.TheVariants.{Morphology, Arithmetic, ColorMatrix, ComponentTransfer, ConvolveMatrix, DisplacementMap, Turbulence, DiffuseLighting, SpecularLighting}
use Rattle.message.specs.Answers.{matrix_ranges, function_ranges, ranges_of}
use Rattle.message.specs.RoundTrip as says
use Rattle.message.specs.RoundTrip.{counted, relaid_range, relaid_matrix, relaid_function, past_function, relaid_work, end_to_end_from, InOrder}
use Rattle.message.proofs.Ranges.{counted_append}

order_first : (used : ℕ) (l m : List Numbers) → InOrder used (l ++ m) → InOrder used l
order_first used [] m h = tt
order_first used (r ∷ l) m h = (h.0, order_first (used + r.count) l m h.1)

order_rest : (used : ℕ) (l m : List Numbers) → InOrder used (l ++ m) → InOrder (used + counted l) m
order_rest used [] m h = let z : used + 0 ≡ used = omega arith in rw z h
order_rest used (r ∷ l) m h = let z : used + (r.count + counted l) ≡ used + r.count + counted l = omega arith in rw z (order_rest (used + r.count) l m h.1)

same_range : (used : ℕ) (r : Numbers) → r.start ≡ used → relaid_range used r ≡ r
same_range used r e = rw (← e)

same_matrix : (used : ℕ) (m : ColorMatrixType) → InOrder used (matrix_ranges m) → relaid_matrix used m ≡ m
same_matrix used (matrix.Matrix r) h = ap matrix.Matrix (same_range used r h.0)
same_matrix used (matrix.Saturate v) h = refl
same_matrix used (matrix.HueRotate cosine sine) h = refl
same_matrix used matrix.LuminanceToAlpha h = refl

same_function : (used : ℕ) (f : TransferFunction) → InOrder used (function_ranges f) → relaid_function used f ≡ f
same_function used transfer.Identity h = refl
same_function used (transfer.Table r) h = ap transfer.Table (same_range used r h.0)
same_function used (transfer.Discrete r) h = ap transfer.Discrete (same_range used r h.0)
same_function used (transfer.Linear slope intercept) h = refl

same_work : (used : ℕ) (w : Work) → InOrder used (ranges_of w) → relaid_work used w ≡ w
same_work used (Morphology a op rx ry) h = refl
same_work used (Arithmetic a b k1 k2 k3 k4) h = refl
same_work used (ColorMatrix a m) h = rw (same_matrix used m h)
same_work used (ComponentTransfer s r g b a) h =
    let rg = function_ranges r ++ function_ranges g in
    let rgb = rg ++ function_ranges b in
    let h3 = order_first used rgb (function_ranges a) h in
    let h2 = order_first used rg (function_ranges b) h3 in
    let c2 : used + counted rgb ≡ past_function (past_function (past_function used r) g) b = let x = counted_append rg (function_ranges b) in let y = counted_append (function_ranges r) (function_ranges g) in omega arith in
    let c1 : used + counted rg ≡ past_function (past_function used r) g = let y = counted_append (function_ranges r) (function_ranges g) in omega arith in
    rw (
      same_function used r (order_first used (function_ranges r) (function_ranges g) h2),
      same_function (past_function used r) g (order_rest used (function_ranges r) (function_ranges g) h2),
      same_function (past_function (past_function used r) g) b (rw c1 at (order_rest used rg (function_ranges b) h3)),
      same_function (past_function (past_function (past_function used r) g) b) a (rw c2 at (order_rest used rgb (function_ranges a) h)),
    )
same_work used (ConvolveMatrix a m) h = rw (same_range used m.matrix h.0)
same_work used (DisplacementMap a b xs ys sx sy scale) h = refl
same_work used (Turbulence t) h = refl
same_work used (DiffuseLighting a light scale constant color) h = refl
same_work used (SpecularLighting a light scale constant exponent color) h = refl

pub in_order_is_the_same : says.InOrderIsTheSame
unfolding end_to_end_from
in_order_is_the_same [] used h = refl
in_order_is_the_same (s ∷ l) used h = rw (same_work used s.work h.0, in_order_is_the_same l (used + counted (ranges_of s.work)) h.1)

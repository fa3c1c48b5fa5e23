-- The byte that the parts settle, else the long way.
use Prim.Native.Nat.{ℕ, ◌/◌, ◌%◌, ◌<◌}
use mathlib.Core.Path.{◌≡◌, ◌∙◌, ap}
use mathlib.Core.Bool.{true}
use lib.Dec.{T}
use lib.Ieee.{Float, of_bits, lt}
use Rattle.floats.proofs.Fractions.{nought}
use Rattle.floats.specs.Inner.Steps.{up_to}
use Rattle.floats.proofs.Tests.{T_true}
use Rattle.floats.proofs.CutToByte.{top, clamp_mid}
use Rattle.turbulence.specs.Turbulence.{byte_of}
use Rattle.turbulence.specs.Inner.Levels.{level_of, Parts}
use Rattle.turbulence.proofs.Settled.{level_is}
use Rattle.turbulence.proofs.draw.byte_of.Goals as goal

between : (v : Float) → lt nought v ≡ true → lt v top ≡ true → T (up_to 255 v)
between v a b = (clamp_mid v (T_true a) (T_true b)).inside

settled : (v : Float) (p : ℕ) → lt nought v ≡ true → lt v top ≡ true → Parts v p → 1 < p % 65536 → (p / 65536 ≡ level_of v) × (p / 65536 < 256)
settled v p a b r l = level_is v p (between v a b) r l

pub parts_of-parts-requires : goal.parts_of-parts-requires
unfolding of_bits
parts_of-parts-requires c = between c.scaled_sum-value.result c.if-value.true c.if-value-2.true

pub overflow_cast-result : goal.overflow_cast-result
unfolding of_bits
overflow_cast-result c = record { fits = (settled c.scaled_sum-value.result c.parts_of-parts.result c.if-value.true c.if-value-2.true c.parts_of-parts.ensures c.if-parts-gt1.true).1 }

pub returns-then-parts-gt1 : goal.returns-then-parts-gt1
unfolding byte_of level_of of_bits
returns-then-parts-gt1 c =
    (settled c.scaled_sum-value.result c.parts_of-parts.result c.if-value.true c.if-value-2.true c.parts_of-parts.ensures c.if-parts-gt1.true).0 ∙ ap level_of c.scaled_sum-value.ensures

pub returns : goal.returns
unfolding byte_of level_of
returns c = c.level_of.ensures ∙ ap level_of c.scaled_sum-value.ensures

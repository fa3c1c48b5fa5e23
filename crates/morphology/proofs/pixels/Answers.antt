-- The whole number is clamped as the definition says.
use Prim.Native.Nat.{ℕ, zero, suc, ◌-◌, min}
use mathlib.Core.Path.{◌≡◌, refl, ap, ◌∙◌}
use native.Mathlib.Omega.{arith}
use borrow.Author.Tests.{lt-ltb}
use lib.IntN.{ℤ, pos, negsuc, nat_abs}
use Rattle.std.specs.Int.{int_max}
use Rattle.floats.specs.Round.{round_to}
use Rattle.morphology.specs.Morphology.{not_negative, radius}
use Rattle.morphology.proofs.Signed.{back}
use Rattle.morphology.proofs.pixels.Goals as goal

size_of_max : (z : ℤ) → nat_abs (int_max z (pos 0)) ≡ not_negative z
size_of_max (pos zero) = refl
size_of_max (pos (suc n)) = rw (lt-ltb 0 (suc n) (omega arith)) refl
size_of_max (negsuc n) = refl

pub returns : goal.returns
unfolding radius
returns c =
    let a = back c.round_to_i32.result c.round_to_i32.type_inv ∙ c.round_to_i32.ensures in
    let e = c.max-rounded.ensures.value ∙ ap (λ (z : ℤ). int_max z (pos 0)) a in
    let f : c.min.result ≡ min (not_negative (round_to 31 c.args.r)) (c.args.side - 1) =
    c.min.ensures ∙ ap (λ (z : ℤ). min (nat_abs z) (c.args.side - 1)) (back c.max-rounded.result c.max-rounded.type_inv ∙ e) ∙ ap (λ (n : ℕ). min n (c.args.side - 1)) (size_of_max (round_to 31 c.args.r)) in
    (f, omega arith)

-- `cut` meets its contract: each step at the bounded value, as `CutToByte` has it. Assumes nothing.
use Rattle.std.proofs.Common.{◌≡◌, ℕ, ◌^◌, ◌<◌, sym, ◌∙◌, subst}
use lib.Ieee.{of_bits, to_unsigned}
use lib.Ieee.Casts.{to_unsigned-lt}
use Rattle.floats.proofs.Tests.{T_true, T_false}
use Rattle.floats.proofs.CutToByte.{no_nan, pattern_least, one_at_least, one_less, as_it_is}
use Rattle.floats.proofs.byte.cut.Goals as goal
use Rattle.floats.proofs.byte.cut.Goals.{then-t-z, else-t-z}

pub float_to_bits-n : goal.float_to_bits-n
unfolding of_bits
float_to_bits-n c = no_nan c.args.z c.requires

pub overflow_sub-n : goal.overflow_sub-n
unfolding of_bits
overflow_sub-n c = pattern_least c.args.z c.requires

pub overflow_sub-v : goal.overflow_sub-v
unfolding of_bits
overflow_sub-v c = one_at_least c.args.z c.requires (T_true c.if-t-z.true)

pub overflow_cast-result : goal.overflow_cast-result
unfolding of_bits
overflow_cast-result c =
    let z = c.args.z in
    let joined : c.if-t-z.v ≡ to_unsigned 8 z =
    elim c.if-t-z.branch [ then-t-z w ↦ w.v-is ∙ one_less z c.requires (T_true w.if-t-z.true) | else-t-z w ↦ w.v-is ∙ as_it_is z c.requires (T_false w.if-t-z.false) ] in
    record { fits = subst (λ (v : ℕ). v < 2 ^ 8) (sym joined) (to_unsigned-lt 8 c.args.z) }

pub returns : goal.returns
unfolding of_bits
returns c =
    let z = c.args.z in
    let joined : c.if-t-z.v ≡ to_unsigned 8 z =
    elim c.if-t-z.branch [ then-t-z w ↦ w.v-is ∙ one_less z c.requires (T_true w.if-t-z.true) | else-t-z w ↦ w.v-is ∙ as_it_is z c.requires (T_false w.if-t-z.false) ] in
    joined

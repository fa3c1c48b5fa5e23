-- `whole_part` meets its contract, by where x lies. Assumes nothing.
use Rattle.std.proofs.Common.{sym, ap, ◌∙◌, subst, lit≤, w32, SFits}
use lib.Ieee.{binary64, of_int, of_bits, neg}
use lib.Ieee.Casts.{to_signed_in}
use mir.ValLaws.{to_z-of_z}
use Rattle.floats.proofs.Tests.{T_true, T_false}
use Rattle.floats.proofs.TowardZero.{inside, above, under, neither}
use Rattle.floats.proofs.whole.whole_part.Goals as goal

pub returns-then-x-2 : goal.returns-then-x-2
unfolding of_bits neg
returns-then-x-2 c =
    let x = c.args.x in
    let told = c.to_i32.ensures in
    let fits = to_z-of_z w32 _ (subst (SFits w32) (sym told) (record { sfits = to_signed_in 31 x })) in
    ap (of_int binary64) (fits ∙ told ∙ sym (inside 31 63 x (lit≤ tt) (T_true c.if-x.true) (T_true c.if-x-2.true)))

pub truncating_f64_to_i64-requires : goal.truncating_f64_to_i64-requires
unfolding of_bits neg
truncating_f64_to_i64-requires c = record { lower_bound = T_true c.if-x-3.true; upper_bound = T_true c.if-x-4.true }

pub returns-else-x-4 : goal.returns-else-x-4
unfolding of_bits neg of_int
returns-else-x-4 c = ap (of_int binary64) (above 63 c.args.x (T_true c.if-x-3.true) (T_false c.if-x-4.false))

pub returns-then-x-5 : goal.returns-then-x-5
unfolding of_bits neg of_int
returns-then-x-5 c = ap (of_int binary64) (under 63 c.args.x (T_false c.if-x-3.false) (T_true c.if-x-5.true))

pub returns-else-x-5 : goal.returns-else-x-5
unfolding of_bits neg of_int
returns-else-x-5 c = ap (of_int binary64) (neither 63 c.args.x (T_false c.if-x-3.false) (T_false c.if-x-5.false))

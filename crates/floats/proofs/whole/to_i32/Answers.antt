-- `to_i32` meets its contract, by where x lies. Assumes nothing.
use Rattle.std.proofs.Common.{◌≡◌, ℤ, sym, ◌∙◌, subst, lit<, lit≤, w32, w64, SFits, to_z, of_z}
use lib.Ieee.{Float, of_bits, neg, to_signed}
use lib.Ieee.Casts.{to_signed_in}
use mir.ValLaws.{to_z-of_z}
use Rattle.floats.proofs.Tests.{T_true, T_false}
use Rattle.floats.proofs.TowardZero.{inside, above, under, neither, wider_lowest, wider_past}
use Rattle.floats.proofs.whole.to_i32.Goals as goal

-- what an `i64` keeps of x is what an `i32` would
cut_is : (x : Float) (r : ℤ) → r ≡ to_signed 63 x → to_signed 63 x ≡ to_signed 31 x → to_z w64 (of_z w64 r) ≡ to_signed 31 x
cut_is x r told same = to_z-of_z w64 _ (subst (SFits w64) (sym told) (record { sfits = to_signed_in 63 x })) ∙ told ∙ same

pub truncating_f64_to_i64-requires : goal.truncating_f64_to_i64-requires
unfolding of_bits neg
truncating_f64_to_i64-requires c =
    let x = c.args.x in
    record { lower_bound = wider_lowest 31 63 x (lit< tt) (T_true c.if-x.true) (T_true c.if-x-2.true); upper_bound = wider_past 31 63 x (lit< tt) (T_true c.if-x-2.true) }

pub overflow_cast-result : goal.overflow_cast-result
unfolding of_bits neg
overflow_cast-result c =
    let cut = cut_is c.args.x _ c.truncating_f64_to_i64.ensures (inside 31 63 c.args.x (lit≤ tt) (T_true c.if-x.true) (T_true c.if-x-2.true)) in
    subst (SFits w32) (sym cut) (record { sfits = to_signed_in 31 c.args.x })

pub returns-then-x-2 : goal.returns-then-x-2
unfolding of_bits neg
returns-then-x-2 c =
    let cut = cut_is c.args.x _ c.truncating_f64_to_i64.ensures (inside 31 63 c.args.x (lit≤ tt) (T_true c.if-x.true) (T_true c.if-x-2.true)) in
    to_z-of_z w32 _ (subst (SFits w32) (sym cut) (record { sfits = to_signed_in 31 c.args.x })) ∙ cut

pub returns-else-x-2 : goal.returns-else-x-2
unfolding of_bits neg
returns-else-x-2 c = above 31 c.args.x (T_true c.if-x.true) (T_false c.if-x-2.false)

pub returns-then-x-3 : goal.returns-then-x-3
unfolding of_bits neg
returns-then-x-3 c = under 31 c.args.x (T_false c.if-x.false) (T_true c.if-x-3.true)

pub returns-else-x-3 : goal.returns-else-x-3
unfolding of_bits neg
returns-else-x-3 c = neither 31 c.args.x (T_false c.if-x.false) (T_false c.if-x-3.false)

-- `round_to_i32` meets its contract: the rounded size, with the sign of x, cast exactly. Assumes nothing.
use Rattle.std.proofs.Common.{◌≡◌, ℕ, ◌<◌, ◌≤◌, Bool, true, false, not, T, ℤ, pos, neg_ℤ, sym, ◌∙◌, subst, w32, to_z, of_z}
use Rattle.floats.proofs.Tests.{T_true, T_false}
use Rattle.floats.proofs.Fractions.{nought}
use Rattle.floats.proofs.SignedCasts.{size_most, minus_cast, plus_cast, most, below_most, from_most, by_minus, by_plus, by_most, Casts}
use lib.Ieee.{Float, binary64, of_bits, of_int, sub, lt, to_signed}
use lib.Ieee.Casts.{to_signed_in}
use lib.Ieee.Positive.{num, den}
use mir.ValLaws.{to_z-of_z}
use Rattle.floats.specs.Round.{away, round_to}
use Rattle.floats.specs.Inner.Steps.{up_to, signed_by, Magnitude}
use Rattle.floats.proofs.round.round_to_i32.Goals as goal

-- the size r, rounded
abbrev size : Float → ℕ
size r = away (num r) (den r)

back : (v : Float) (z : ℤ) → to_signed 31 v ≡ z → to_z w32 (of_z w32 (to_signed 31 v)) ≡ z
back v z e = to_z-of_z w32 (to_signed 31 v) (record { sfits = to_signed_in 31 v }) ∙ e

-- the two casts, of the rounded size w of an r that is within the bound
module _ (r w : Float) (inside : T (up_to 2147483648 r)) (is : w ≡ of_int binary64 (pos (size r))) where
  few : size r ≤ 2147483648
  few = size_most r inside

  minus : Casts (sub binary64 nought w) (neg_ℤ (pos (size r)))
  minus = subst (λ (v : Float). Casts (sub binary64 nought v) (neg_ℤ (pos (size r)))) (sym is) (minus_cast (size r) few)

  below : T (lt w most) → size r < 2147483647
  below l = below_most (size r) few (subst (λ (v : Float). T (lt v most)) is l)

  plus : T (lt w most) → Casts w (pos (size r))
  plus l = subst (λ (v : Float). Casts v (pos (size r))) (sym is) (plus_cast (size r) (below l))

-- with the sign of x
signed : (x r : Float) (s : Bool) → Magnitude (lt x nought) x r → lt x nought ≡ s → signed_by s (size r) ≡ round_to 31 x
signed x r s m e = subst (λ (b : Bool). signed_by b (size r) ≡ round_to 31 x) e m.same

pub float_to_int-result : goal.float_to_int-result
unfolding of_bits
float_to_int-result c = (minus c.magnitude.result c.whole_away-r.result c.magnitude.ensures.inside c.whole_away-r.ensures).0

pub float_to_int-result-then-r : goal.float_to_int-result-then-r
unfolding of_bits
float_to_int-result-then-r c = (plus c.magnitude.result c.whole_away-r.result c.magnitude.ensures.inside c.whole_away-r.ensures (T_true c.if-r.true)).0

pub returns-then-x : goal.returns-then-x
unfolding of_bits
returns-then-x c =
    let r = c.magnitude.result in
    let w = c.whole_away-r.result in
    let inside = c.magnitude.ensures.inside in
    back (sub binary64 nought w) (neg_ℤ (pos (size r))) (minus r w inside c.whole_away-r.ensures).1
    ∙ by_minus (size r) (few r w inside c.whole_away-r.ensures)
    ∙ signed c.args.x r true c.magnitude.ensures c.if-x.true

pub returns-then-r : goal.returns-then-r
unfolding of_bits
returns-then-r c =
    let r = c.magnitude.result in
    let w = c.whole_away-r.result in
    let inside = c.magnitude.ensures.inside in
    back w (pos (size r)) (plus r w inside c.whole_away-r.ensures (T_true c.if-r.true)).1
    ∙ by_plus (size r) (below r w inside c.whole_away-r.ensures (T_true c.if-r.true))
    ∙ signed c.args.x r false c.magnitude.ensures c.if-x.false

pub returns-else-r : goal.returns-else-r
unfolding of_bits
returns-else-r c =
    let r = c.magnitude.result in
    let w = c.whole_away-r.result in
    let inside = c.magnitude.ensures.inside in
    let high = from_most (size r) (few r w inside c.whole_away-r.ensures) (subst (λ (v : Float). T (not (lt v most))) c.whole_away-r.ensures (T_false c.if-r.false)) in
    by_most (size r) high ∙ signed c.args.x r false c.magnitude.ensures c.if-x.false

-- `magnitude` meets its contract, by cases of its tests. Assumes nothing.
use Rattle.floats.proofs.Tests.{T_true, T_false}
use Rattle.floats.proofs.Fractions.{nought, lt_asym}
use Rattle.floats.proofs.Magnitudes.{word, as_it_is, over_top, negated, under_bottom, neither}
use Rattle.std.proofs.Common.{Bool, sym, subst}
use lib.Ieee.{of_bits, neg}
use Rattle.floats.specs.Inner.Steps.{Magnitude}
use Rattle.floats.proofs.round.magnitude.Goals as goal

pub returns-then-x-2 : goal.returns-then-x-2
unfolding of_bits
returns-then-x-2 c =
    let x = c.args.x in
    let p = T_true c.if-x.true in
    subst (λ (s : Bool). Magnitude s x x) (sym (lt_asym nought x p)) (as_it_is x p (T_true c.if-x-2.true))

pub returns-else-x-2 : goal.returns-else-x-2
unfolding of_bits
returns-else-x-2 c =
    let x = c.args.x in
    let p = T_true c.if-x.true in
    subst (λ (s : Bool). Magnitude s x word) (sym (lt_asym nought x p)) (over_top x p (T_false c.if-x-2.false))

pub returns-then-x-4 : goal.returns-then-x-4
unfolding of_bits neg
returns-then-x-4 c =
    let x = c.args.x in
    let e = c.if-x-3.true in
    subst (λ (s : Bool). Magnitude s x (neg x)) (sym e) (negated x (T_true e) (T_true c.if-x-4.true))

pub returns-else-x-4 : goal.returns-else-x-4
unfolding of_bits neg
returns-else-x-4 c =
    let x = c.args.x in
    let e = c.if-x-3.true in
    subst (λ (s : Bool). Magnitude s x word) (sym e) (under_bottom x (T_true e) (T_false c.if-x-4.false))

pub returns-else-x-3 : goal.returns-else-x-3
unfolding of_bits
returns-else-x-3 c =
    let x = c.args.x in
    let e = c.if-x-3.false in
    subst (λ (s : Bool). Magnitude s x nought) (sym e) (neither x (T_false c.if-x.false) (T_false e))

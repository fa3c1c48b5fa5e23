-- `about_one` meets its contract: the tests of the largest square first, then of the other two against what it leaves. Assumes nothing.
use Rattle.std.proofs.Common.{◌≡◌, ℕ, ◌+◌, ◌-◌, ◌*◌, ◌^◌, ◌≤◌, Bool, true, false, not, T, leb, sym, refl, ap, ◌∙◌, subst, le_trans, mul-le-mul_right, lit≤}
use lib.Ieee.{Float, binary64, fits, sub, le, lt, of_bits}
use Rattle.floats.specs.Unit.{in_units}
use Rattle.floats.specs.Inner.Steps.{FewDigits}
use Rattle.floats.proofs.Tests.{T_true, T_false}
use Rattle.floats.proofs.NearOne.{Left, upper, lower, quarter, upper_less, lower_less, in_upper, past_upper, in_lower, past_lower, in_quarter, too_small, too_big, sum_too_big, sum_fine, sum_asked}
use Rattle.floats.proofs.unit.about_one.Goals as goal

-- the code's bounds
abbrev top : Float
top = of_bits binary64 4607186816846528512

abbrev bottom : Float
bottom = of_bits binary64 4607173622706995200

abbrev fourth : Float
fourth = of_bits binary64 4598175219545276416

upper_is : top ≡ upper
unfolding of_bits
upper_is = refl

lower_is : bottom ≡ lower
unfolding of_bits
lower_is = refl

quarter_is : fourth ≡ quarter
unfolding of_bits
quarter_is = refl

abbrev U : Float → ℕ
U x = in_units binary64 x

-- the largest square, which passes the first two tests, and what it leaves of each bound
module _ (hi : Float) (held : T (fits binary64 hi)) (few : FewDigits hi) (u : le hi top ≡ true) (f : lt hi fourth ≡ false) where
  under : T (le hi upper)
  under = subst (λ (k : Float). T (le hi k)) upper_is (T_true u)

  fair : T (not (lt hi quarter))
  fair = subst (λ (k : Float). T (not (lt hi k))) quarter_is (T_false f)

  in_top : U hi ≤ 1025 * 2 ^ 1064
  in_top = in_upper hi held few under

  of_top : Left hi held few 1025 (sub binary64 top hi)
  of_top = subst (λ (k : Float). Left hi held few 1025 (sub binary64 k hi)) (sym upper_is) (upper_less hi held few fair under)

  -- what `sum_at_most` found of the other two
  found : (r : Bool) {b : Bool} (m l : ℕ) → r ≡ leb (m + l) (U (sub binary64 top hi)) → r ≡ b → b ≡ leb (m + l) (1025 * 2 ^ 1064 - U hi)
  found r m l told e = sym e ∙ told ∙ ap (λ (k : ℕ). leb (m + l) k) of_top.is

  module _ (s : le hi bottom ≡ true) where
    short : T (le hi lower)
    short = subst (λ (k : Float). T (le hi k)) lower_is (T_true s)

    of_bottom : Left hi held few 1023 (sub binary64 bottom hi)
    of_bottom = subst (λ (k : Float). Left hi held few 1023 (sub binary64 k hi)) (sym lower_is) (lower_less hi held few fair short)

pub sum_at_most-requires-clause-most_plain : goal.sum_at_most-requires-clause-most_plain
sum_at_most-requires-clause-most_plain c = (of_top c.args.hi (T_true c.well_formed.0.1) c.requires.hi_few c.if-hi.true c.if-hi-2.false).flat

pub sum_at_least-requires-clause-least_plain : goal.sum_at_least-requires-clause-least_plain
sum_at_least-requires-clause-least_plain c = (of_bottom c.args.hi (T_true c.well_formed.0.1) c.requires.hi_few c.if-hi.true c.if-hi-2.false c.if-hi-3.true).flat

pub sum_at_least-requires-clause-falling : goal.sum_at_least-requires-clause-falling
sum_at_least-requires-clause-falling c =
    let most = in_top c.args.hi (T_true c.well_formed.0.1) c.requires.hi_few c.if-hi.true c.if-hi-2.false in
    (c.requires.falling.0, le_trans c.requires.falling.1 (le_trans most (mul-le-mul_right (2 ^ 1064) (lit≤ {m = 1025} {n = 2048} tt))))

pub returns-then-hi-2 : goal.returns-then-hi-2
returns-then-hi-2 c =
    let a = c.args in
    too_small (2 ^ 1064) (U a.hi) (U a.mid) (U a.lo) c.requires.falling.0 c.requires.falling.1
    (in_quarter a.hi (T_true c.well_formed.0.1) c.requires.hi_few (subst (λ (k : Float). T (lt a.hi k)) quarter_is (T_true c.if-hi-2.true)))

pub returns-then-hi-3 : goal.returns-then-hi-3
returns-then-hi-3 c =
    let a = c.args in
    let held = T_true c.well_formed.0.1 in
    let few = c.requires.hi_few in
    c.sum_at_least.ensures
    ∙ ap (λ (k : ℕ). leb k (U a.mid + U a.lo)) (of_bottom a.hi held few c.if-hi.true c.if-hi-2.false c.if-hi-3.true).is
    ∙ sum_asked (2 ^ 1064) (U a.hi) (U a.mid) (U a.lo) c.requires.falling.0 c.requires.falling.1 (in_top a.hi held few c.if-hi.true c.if-hi-2.false)
    (T_true (sym (found a.hi held few c.if-hi.true c.if-hi-2.false c.sum_at_most.result (U a.mid) (U a.lo) c.sum_at_most.ensures c.if-sum_at_most.true)))
    (in_lower a.hi held few (short a.hi held few c.if-hi.true c.if-hi-2.false c.if-hi-3.true))

pub returns-else-hi-3 : goal.returns-else-hi-3
returns-else-hi-3 c =
    let a = c.args in
    let held = T_true c.well_formed.0.1 in
    let few = c.requires.hi_few in
    sum_fine (2 ^ 1064) (U a.hi) (U a.mid) (U a.lo) c.requires.falling.0 c.requires.falling.1 (in_top a.hi held few c.if-hi.true c.if-hi-2.false)
    (T_true (sym (found a.hi held few c.if-hi.true c.if-hi-2.false c.sum_at_most.result (U a.mid) (U a.lo) c.sum_at_most.ensures c.if-sum_at_most.true)))
    (past_lower a.hi held few (subst (λ (k : Float). T (not (le a.hi k))) lower_is (T_false c.if-hi-3.false)))

pub returns-else-sum_at_most : goal.returns-else-sum_at_most
returns-else-sum_at_most c =
    let a = c.args in
    let held = T_true c.well_formed.0.1 in
    let few = c.requires.hi_few in
    sum_too_big (2 ^ 1064) (U a.hi) (U a.mid) (U a.lo) c.requires.falling.0 c.requires.falling.1 (in_top a.hi held few c.if-hi.true c.if-hi-2.false)
    (T_false (sym (found a.hi held few c.if-hi.true c.if-hi-2.false c.sum_at_most.result (U a.mid) (U a.lo) c.sum_at_most.ensures c.if-sum_at_most.false)))

pub returns-else-hi : goal.returns-else-hi
returns-else-hi c =
    let a = c.args in
    too_big (2 ^ 1064) (U a.hi) (U a.mid) (U a.lo) c.requires.falling.0 c.requires.falling.1
    (past_upper a.hi (T_true c.well_formed.0.1) c.requires.hi_few (subst (λ (k : Float). T (not (le a.hi k))) upper_is (T_false c.if-hi.false)))

-- The order of a type whose `partial_cmp` is that of floats, and what is finite. Assumes nothing.
use Rattle.std.proofs.Common.{◌≡◌, Bool, true, false, cond, not, T, ◌||◌, Option, Ordering, Some, None, refl, ap, ◌∙◌}
use Rattle.std.specs.Ordering.{float_partial_cmp, partial_le, is_le, is_some_and}
use Rattle.std.specs.declared.cmp.Ordering.TheVariants.{Less, Equal, Greater}
use Rattle.std.specs.Float.{float_is_finite}
use lib.Ieee.{Float, nan, inf, fin, lt, le, eq, is_nan}
use lib.Ieee.Scale.{finite}

module _ {K : Type 0} (cmp : K → K → Option Ordering) (value : K → Float) (law : (x y : K) → cmp x y ≡ float_partial_cmp (value x) (value y)) (x y : K) where
  pub at_most : partial_le cmp x y ≡ le (value x) (value y)
  unfolding le
  at_most = ap (is_some_and is_le) (law x y) ∙ go (lt (value x) (value y)) (eq (value x) (value y)) (lt (value y) (value x))
    where
      go : (p q r : Bool) → is_some_and is_le (cond p (Some Less) (cond q (Some Equal) (cond r (Some Greater) None))) ≡ (p || q)
      go true q r = refl
      go false true r = refl
      go false false true = refl
      go false false false = refl

pub finite_is : (x : Float) → float_is_finite x ≡ finite x
unfolding float_is_finite
finite_is nan = refl
finite_is (inf s) = refl
finite_is (fin s m e) = refl

-- what equals itself is no NaN
pub equals_itself : (x : Float) → T (eq x x) → T (not (is_nan x))
unfolding eq is_nan
equals_itself nan h = absurd h
equals_itself (inf s) h = tt
equals_itself (fin s m e) h = tt

-- `narrowed` meets its contract: below 2 ^ -126 by a sum, from there on by its digits. Assumes nothing.
use Rattle.std.proofs.Common.{◌≡◌, ℕ, ◌-◌, ◌<◌, ◌≤◌, not, T, refl, subst, le_trans, le_refl, lt_of_lt_of_le, lt_of_le_of_lt, lit<, lit≤}
use Rattle.floats.proofs.NarrowedSize.{small_value, no_nan, small_some, small_few, small_pattern, big_pattern, big_small, top_pattern, lift}
use Rattle.floats.proofs.Patterns.{pattern_ok}
use lib.Ieee.{Float, binary32, binary64, add, is_nan, of_bits, to_bits}
use Rattle.floats.specs.Narrow.{narrow_to}
use Rattle.floats.proofs.narrow.narrowed.Goals as goal

lift-is : lift ≡ of_bits binary64 4170333254945079296
unfolding of_bits
lift-is = refl

-- what is known of the sum, with 2 ^ -97 by its pattern
record Sum (a : ℕ) (l : Float) : Type 0 where
  number : T (not (is_nan (add binary64 (of_bits binary64 a) l)))
  some : 4170333254945079296 ≤ to_bits binary64 (add binary64 (of_bits binary64 a) l)
  few : to_bits binary64 (add binary64 (of_bits binary64 a) l) - 4170333254945079296 ≤ 8388608
  is : narrow_to binary32 (of_bits binary64 a) ≡ of_bits binary32 (to_bits binary64 (add binary64 (of_bits binary64 a) l) - 4170333254945079296)

summed : (a : ℕ) → a < 4039728865751334912 → Sum a (of_bits binary64 4170333254945079296)
summed a h =
    let v = small_value a h in
    let x = of_bits binary64 a in
    subst (λ (l : Float). Sum a l) lift-is
    (record { number = no_nan x v.0 v.1 v.2; some = small_some x v.0 v.1 v.2; few = small_few x v.0 v.1 v.2; is = small_pattern x v.0 v.1 v.2 })

pub float_from_bits-result : goal.float_from_bits-result
float_from_bits-result c = pattern_ok binary64 c.args.b (lt_of_le_of_lt c.requires (lit< tt)) c.requires

pub float_to_bits-result : goal.float_to_bits-result
float_to_bits-result c = (summed c.args.b c.if-b-lt4039728865751334912.true).number

pub overflow_sub-result : goal.overflow_sub-result
overflow_sub-result c = (summed c.args.b c.if-b-lt4039728865751334912.true).some

pub overflow_cast-result : goal.overflow_cast-result
overflow_cast-result c = record { fits = lt_of_le_of_lt (summed c.args.b c.if-b-lt4039728865751334912.true).few (lit< tt) }

pub returns-then-b-lt4039728865751334912 : goal.returns-then-b-lt4039728865751334912
returns-then-b-lt4039728865751334912 c =
    let s = summed c.args.b c.if-b-lt4039728865751334912.true in
    record { is = s.is; small = le_trans s.few (lit≤ tt) }

pub returns-then-b-lt5183643171103440896 : goal.returns-then-b-lt5183643171103440896
returns-then-b-lt5183643171103440896 c =
    let a = c.args.b in
    let hi = lt_of_lt_of_le c.if-b-lt5183643171103440896.true (lit≤ tt) in
    record { is = big_pattern a c.if-b-lt4039728865751334912.false hi c.if-b-lt5183643171103440896.true; small = big_small a c.if-b-lt4039728865751334912.false hi c.if-b-lt5183643171103440896.true }

pub returns-else-b-lt5183643171103440896 : goal.returns-else-b-lt5183643171103440896
returns-else-b-lt5183643171103440896 c = record { is = top_pattern c.args.b c.requires c.if-b-lt5183643171103440896.false; small = le_refl 2139095040 }

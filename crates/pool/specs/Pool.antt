-- Lent numbers, and their tests 3, 4 and 5.
use Rattle.std.specs.Prelude.{ℕ, ◌+◌, Bool, true, false, cond, List, [], ◌∷◌, length, take, drop, leb, Float}
use Rattle.std.specs.Float.Ieee.Scale.{finite}
use Rattle.floats.specs.Constants.{c65536, m65536}
use Rattle.floats.specs.Order.{within}
use Rattle.sheet.specs.Answer.{Answer, Done, refusal}
use Rattle.pool.specs.declared.Numbers.{Numbers}

-- within -65,536..=65,536
abbrev pub in_range : Float → Bool
in_range x = within m65536 x c65536

-- p holds of every number
unfoldable pub all : (Float → Bool) → List Float → Bool
all p [] = true
all p (x ∷ l) = cond (p x) (all p l) false

abbrev pub all_finite : List Float → Bool
all_finite l = all finite l

abbrev pub all_in_range : List Float → Bool
all_in_range l = all in_range l

-- tests 4 and 5
unfoldable pub numbers_answer : List Float → Answer
numbers_answer l = cond (all_finite l) (cond (all_in_range l) Done (refusal 5)) (refusal 4)

-- the range lies in a pool of n numbers
unfoldable pub is_in : Numbers → ℕ → Bool
is_in r n = leb (r.start + r.count) n

-- the numbers of a range; none where it does not lie in the pool
unfoldable pub numbers_of : Numbers → List Float → List Float
numbers_of r pool = cond (is_in r (length pool)) (take r.count (drop r.start pool)) []

-- tests 3, 4 and 5 of a range
unfoldable pub range_answer : Numbers → List Float → Answer
range_answer r pool = cond (is_in r (length pool)) (numbers_answer (numbers_of r pool)) (refusal 3)

-- Ranges that lie in the pool: how many numbers they have, by list and by length.
use Prim.Native.Nat.{ℕ, ◌+◌}
use mathlib.Core.Path.{◌≡◌, refl, ◌∙◌}
use mathlib.Core.Bool.{Bool, true, false, cond}
use mathlib.Core.List.{List, [], ◌∷◌, ◌++◌, append_assoc}
use native.Mathlib.Omega.{arith}
use borrow.Author.Tests.{leb-true}
use lib.ListN.{length, drop, length-append, length-drop}
use lib.Seq.{length-take-le}
use lib.Ieee.{Float}
use Rattle.pool.specs.declared.Numbers.{Numbers}
use Rattle.pool.specs.Pool.{is_in, numbers_of}
use Rattle.recipe.specs.declared.Step.{Step}
use Rattle.message.specs.Answers.{ranges_of, all_in_lem}
use Rattle.message.specs.RoundTrip.{counted, numbers_in, EachOf}

-- ---- ranges in the pool
abbrev pub InPool : List Float → List Numbers → Type 0
InPool pool l = EachOf (λ r. is_in r (length pool) ≡ true) l

abbrev pub StepIn : List Float → Step → Type 0
StepIn pool s = InPool pool (ranges_of s.work)

pub all_in : (l : List Numbers) (pool : List Float) → all_in_lem l (length pool) ≡ true → InPool pool l
unfolding all_in_lem
all_in [] pool h = tt
all_in (r ∷ l) pool h = by (is_in r (length pool)) refl h (all_in l pool)
  where
    by : (t : Bool) → is_in r (length pool) ≡ t → cond t (all_in_lem l (length pool)) false ≡ true → (all_in_lem l (length pool) ≡ true → InPool pool l) → InPool pool (r ∷ l)
    by true e f i = (e, i f)
    by false e f i = let z : ◌≡◌ {A = ℕ} 0 1 = cc in absurd (omega arith)

pub in_all : (l : List Numbers) (pool : List Float) → InPool pool l → all_in_lem l (length pool) ≡ true
unfolding all_in_lem
in_all [] pool h = refl
in_all (r ∷ l) pool h = rw (h.0, in_all l pool h.1)

pub in_both : (pool : List Float) (l m : List Numbers) → InPool pool l → InPool pool m → InPool pool (l ++ m)
in_both pool [] m h k = k
in_both pool (r ∷ l) m h k = (h.0, in_both pool l m h.1 k)

pub in_first : (pool : List Float) (l m : List Numbers) → InPool pool (l ++ m) → InPool pool l
in_first pool [] m h = tt
in_first pool (r ∷ l) m h = (h.0, in_first pool l m h.1)

pub in_rest : (pool : List Float) (l m : List Numbers) → InPool pool (l ++ m) → InPool pool m
in_rest pool [] m h = h
in_rest pool (r ∷ l) m h = in_rest pool l m h.1

pub counted_append : (l m : List Numbers) → counted (l ++ m) ≡ counted l + counted m
counted_append [] m = omega arith
counted_append (r ∷ l) m = rw (counted_append l m) (omega arith)

pub numbers_append : (pool : List Float) (l m : List Numbers) → numbers_in pool (l ++ m) ≡ numbers_in pool l ++ numbers_in pool m
unfolding numbers_in
numbers_append pool [] m = refl
numbers_append pool (r ∷ l) m = rw (numbers_append pool l m, append_assoc)

pub range_long : (pool : List Float) (r : Numbers) → is_in r (length pool) ≡ true → length (numbers_of r pool) ≡ r.count
unfolding numbers_of is_in
range_long pool r h =
    let z = leb-true (r.start + r.count) (length pool) h in
    rw h (length-take-le r.count (drop r.start pool) (rw length-drop (omega arith)))

pub numbers_long : (pool : List Float) (l : List Numbers) → InPool pool l → length (numbers_in pool l) ≡ counted l
unfolding numbers_in
numbers_long pool [] h = refl
numbers_long pool (r ∷ l) h = let x = range_long pool r h.0 in let y = numbers_long pool l h.1 in length-append (numbers_of r pool) (numbers_in pool l) ∙ omega arith

-- The answer of the first n steps, by the prefix: a refusal stands, and Done means that each step passed.
use Prim.Native.Nat.{ℕ, zero, suc, ◌+◌, ◌-◌, ◌≤◌, ◌<◌}
use mathlib.Core.Path.{◌≡◌, refl, ap, ◌∙◌}
use mathlib.Core.Bool.{Bool, true, false, cond}
use mathlib.Core.List.{List}
use mathlib.Core.Logic.{⊎_elim}
use native.Mathlib.Nat.{add-zero, add-suc, not-suc-le-zero, le_of_suc-le-suc, eq-or-lt_of_le}
use native.Mathlib.Numerals.{add-one}
use native.Mathlib.Omega.{arith}
use borrow.Author.Tests.{ne_eqb, le-ltb}
use lib.ListN.{length, set, length-set}
use lib.Ieee.{Float}
use lib.Dec.{eqb}
use Rattle.std.specs.Prelude.{Ok, Err, is_some, not}
use Rattle.sheet.specs.Answer.{Answer, Done, IsRefusal}
use Rattle.sheet.proofs.Answers.{stays, both_done}
use Rattle.sheet.specs.declared.Refusal.{Refusal}
use Rattle.recipe.specs.declared.Kind.{Kind}
use Rattle.recipe.specs.declared.Recipe.{Recipe}
use Rattle.recipe.specs.declared.Step.{Step}
use Rattle.recipe.specs.Contents.{Content, Contents, is_sheet, holding, work_makes, at_first, contents}
use Rattle.recipe.specs.Tests.{step_answer, at_step, step_of, step_limit, steps_answer, recipe_answer}

-- a step's index changes no Done
pub step_done : (i : ℕ) (t : Answer) → at_step i t ≡ Done → t ≡ Done
step_done i (Ok _) e = refl
step_done i (Err r) e = cc

-- ---- what is made is a sheet, or is none
pub no_sheet : (c : Content) {t : Bool} → is_some c ≡ not t → t ≡ true → is_sheet c ≡ false
no_sheet c e z = rw z at e

pub a_sheet : (c : Content) {t : Bool} → is_some c ≡ not t → t ≡ false → is_sheet c ≡ true
a_sheet c e z = rw z at e

module _ (f : ℕ → Step) (x : Contents) (pool : List Float) where
  pub contents_none : contents f x 0 ≡ x
  unfolding contents
  contents_none = refl

  pub contents_more : (i : ℕ) → contents f x (i + 1) ≡ holding (f i).output (work_makes (f i).work (contents f x i)) (contents f x i)
  unfolding contents
  contents_more i = rw add-one

  pub none_done : steps_answer f x pool 0 ≡ Done
  unfolding steps_answer
  none_done = refl

  refusal_stands : (n m : ℕ) → IsRefusal (steps_answer f x pool n) → steps_answer f x pool (n + m) ≡ steps_answer f x pool n
  unfolding steps_answer
  refusal_stands n zero h = rw add-zero
  refusal_stands n (suc m) h = rw (add-suc, refusal_stands n m h) (stays (steps_answer f x pool n) h _ _)

  -- at step i, with the slots' contents y and the step's own answer t
  module _ (i : ℕ) {y : Contents} {t : Answer} (d : steps_answer f x pool i ≡ Done) (c : y ≡ contents f x i) (e : t ≡ step_answer (f i) pool y) where
    one_more : steps_answer f x pool (suc i) ≡ at_step i t
    unfolding steps_answer
    one_more = rw (d, ← c, ← e)

    pub one_more_done : t ≡ Done → steps_answer f x pool (i + 1) ≡ Done
    one_more_done z = rw add-one (one_more ∙ ap (at_step i) z)

    pub refused_at : (count : ℕ) → i < count → {r : Refusal} → t ≡ Err r → steps_answer f x pool count ≡ Err (record { refusal = r; step = i })
    refused_at count l z =
        let n : count ≡ suc i + (count - suc i) = omega arith in
        let q = one_more ∙ ap (at_step i) z in
        rw n (refusal_stands (suc i) (count - suc i) (rw q tt) ∙ q)

  pub each_done : (n : ℕ) → steps_answer f x pool n ≡ Done → (i : ℕ) → i < n → step_answer (f i) pool (contents f x i) ≡ Done
  unfolding steps_answer
  each_done zero e i h = absurd (not-suc-le-zero h)
  each_done (suc n) e i h =
      let d = both_done (steps_answer f x pool n) _ e in
      ⊎_elim (λ q. rw q (step_done n _ d.1)) (λ q. each_done n d.0 i q) (eq-or-lt_of_le (le_of_suc-le-suc h))

-- a recipe whose count passes is answered by its steps
pub count_passed : (r : Recipe) (k : Kind) (pool : List Float) {x : Contents} → x ≡ at_first k → (r.count ≡ 0 → ⊥) → r.count ≤ step_limit → steps_answer (step_of r) x pool r.count ≡ recipe_answer r k pool
unfolding recipe_answer
count_passed r k pool e n l = rw (ne_eqb r.count 0 n, le-ltb step_limit r.count l, e)

-- no step changes how many slots there are
pub contents_length : (f : ℕ → Step) (k : Kind) (n : ℕ) → length (contents f (at_first k) n) ≡ 4
unfolding contents
contents_length f k zero = refl
contents_length f k (suc n) = held_length (eqb (f n).output 0) (f n).output _ _ (contents_length f k n)
  where
    held_length : (t : Bool) (o : ℕ) (c : Content) (x : Contents) → length x ≡ 4 → length (cond t x (set x o c)) ≡ 4
    held_length true o c x e = e
    held_length false o c x e = length-set x o c ∙ e

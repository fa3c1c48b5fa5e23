-- The answer of the first n steps, by the prefix: a refusal stands, and a writing that is not refused has few steps.
use Prim.Native.Nat.{ℕ, zero, suc, ◌+◌, ◌-◌, ◌≤◌, ◌<◌}
use mathlib.Core.Path.{◌≡◌, refl, sym, ap}
use mathlib.Core.Bool.{Bool, true, false, cond}
use mathlib.Core.List.{List, [], ◌∷◌, ◌++◌}
use native.Mathlib.Nat.{add-zero, add-suc}
use native.Mathlib.Numerals.{add-one}
use native.Mathlib.Omega.{arith}
use borrow.Author.Tests.{eqb-false, ltb-false}
use lib.Dec.{ltb}
use lib.Ieee.{Float}
use Rattle.pool.specs.declared.Numbers.{Numbers}
use Rattle.pool.specs.Pool.{is_in}
use Rattle.recipe.specs.declared.Step.{Step}
use Rattle.recipe.specs.declared.Recipe.{Recipe}
use Rattle.recipe.specs.Tests.{step_limit}
use Rattle.std.specs.Prelude.{Result, Ok, Err}
use Rattle.message.specs.declared.MessageError.{MessageError}
use Rattle.message.specs.declared.MessageError.TheVariants.{Shape, Steps}
use Rattle.message.specs.Answers.{done, all_in_lem, ranges_of, ranges_answer, message_of, write_answer, writing_answer, WrittenExactly}
use Rattle.sheet.specs.Contract.{lent}
use Rattle.number.specs.Number.{Put}

-- ---- ranges
pub one_in : (r : Numbers) (n : ℕ) → is_in r n ≡ all_in_lem (r ∷ []) n
unfolding all_in_lem
one_in r n = by (is_in r n)
  where
    by : (t : Bool) → t ≡ cond t true false
    by true = refl
    by false = refl

pub all_append : (l m : List Numbers) (n : ℕ) → all_in_lem (l ++ m) n ≡ cond (all_in_lem l n) (all_in_lem m n) false
unfolding all_in_lem
all_append [] m n = refl
all_append (r ∷ l) m n = rw (all_append l m n) (by (is_in r n) (all_in_lem l n))
  where
    by : (t u : Bool) → cond t (cond u (all_in_lem m n) false) false ≡ cond (cond t u false) (all_in_lem m n) false
    by true u = refl
    by false u = refl

module _ (f : ℕ → Step) (n : ℕ) where
  pub none_done : ranges_answer f n 0 ≡ done
  unfolding ranges_answer
  none_done = refl

  shape_stands : (i k m : ℕ) → ranges_answer f n k ≡ Err (Shape i) → ranges_answer f n (k + m) ≡ Err (Shape i)
  unfolding ranges_answer
  shape_stands i k zero e = rw add-zero e
  shape_stands i k (suc m) e = rw (add-suc, shape_stands i k m e)

  module _ (i : ℕ) (d : ranges_answer f n i ≡ done) where
    pub one_more_done : all_in_lem (ranges_of (f i).work) n ≡ true → ranges_answer f n (i + 1) ≡ done
    unfolding ranges_answer
    one_more_done t = rw (add-one, d, t)

    one_refused : all_in_lem (ranges_of (f i).work) n ≡ false → ranges_answer f n (suc i) ≡ Err (Shape i)
    unfolding ranges_answer
    one_refused t = rw (d, t)

    pub refused_at : (count : ℕ) → i < count → all_in_lem (ranges_of (f i).work) n ≡ false → Err (Shape i) ≡ ranges_answer f n count
    refused_at count l t =
        let z : count ≡ suc i + (count - suc i) = omega arith in
        rw z (sym (shape_stands i (suc i) (count - suc i) (one_refused t)))

pub few_steps : (r : Recipe) (pool : List Float) (room : ℕ) → write_answer r pool room ≡ done → r.count ≤ step_limit
unfolding write_answer
few_steps r pool room e = ltb-false step_limit r.count (by (ltb step_limit r.count) _ e)
  where
    by : (t : Bool) (q : Result Unit MessageError) → cond t (Err Steps) q ≡ done → t ≡ false
    by true q x = let z : ◌≡◌ {A = ℕ} 0 1 = cc in absurd (eqb-false 0 1 refl z)
    by false q x = refl

-- ---- what `write` leaves
ends_at : {end n : ℕ} → end ≡ 0 + n → end ≡ n
ends_at e = omega arith

module _ (r : Recipe) (pool : List Float) {before : List ℕ} where
  pub refused : {e : MessageError} {x : Result ℕ MessageError} → writing_answer r pool before ≡ Err e → x ≡ Err e → WrittenExactly r pool (lent before before) x
  refused f g = rw g (record { answered = rw f; bytes = rw f })

  pub written : {after : List ℕ} {end : ℕ} → writing_answer r pool before ≡ done → Put before 0 (message_of r pool) after end → WrittenExactly r pool (lent before after) (Ok end)
  written {after} {end} f p = record { answered = rw f (ap Ok (ends_at p.ends)); bytes = rw f p.stored }

-- Recipes across the C boundary: a message is read, then run; the contracts of `nup_run` and `nup_reaches`.
use Rattle.std.specs.Prelude.{Result, Ok, Err, ℕ, ◌*◌, ◌<◌, ◌≡◌, cond, List, length, replicate, eqb, ltb, Float}
use Rattle.std.proofs.lemmas.List.Edits.{sets}
use Rattle.floats.specs.Constants.{c0}
use Rattle.sheet.specs.Answer.{Answer, Done}
use Rattle.sheet.specs.Answer as sheet
use Rattle.sheet.specs.Contract.{Lent, was, became}
use Rattle.sheet.specs.Tabulate.{zeros}
use Rattle.recipe.specs.declared.Kind.{Kind}
use Rattle.recipe.specs.declared.Kind.TheVariants.{Straight, Premultiplied}
use Rattle.recipe.specs.declared.Recipe.{Recipe}
use Rattle.recipe.specs.Tests.{RunAnswer, whole, step_of, run_answer}
use Rattle.recipe.specs.Tests as recipe
use Rattle.filter.specs.Slots.{Slots, slots, acts}
use Rattle.filter.specs.Call.{lengths}
use Rattle.filter.specs.Reach.{Reach, step_reads, result}
use Rattle.message.specs.declared.MessageError.{MessageError}
use Rattle.message.specs.Message.{read_message}
use Rattle.message.specs.Answers.{number, step_index, offset, done, on_done, recipe_of, content_of, read_answer}
use Rattle.nuprikhen.specs.declared.nup_recipes.nup_run_answer.{nup_run_answer}
use Rattle.nuprikhen.specs.declared.nup_recipes.nup_reach_answer.{nup_reach_answer}

-- ---- a message inside a call: its answer, with room for 16,384 numbers, its recipe, and the pool with its numbers
abbrev pub message_answer : List ℕ → Result Unit MessageError
message_answer s = read_answer (read_message s) 16384

abbrev pub recipe_in : List ℕ → Recipe
recipe_in s = recipe_of (content_of (read_message s)).steps

abbrev pub pool_in : List ℕ → List Float
pool_in s = sets (replicate 16384 c0) 0 (content_of (read_message s)).numbers

-- 0 is Straight, 1 is Premultiplied
abbrev pub kind_of : ℕ → Kind
kind_of k = cond (eqb k 0) Straight Premultiplied

-- another kind is out of range
unfoldable pub named_kind : ℕ → Answer
named_kind k = cond (ltb 1 k) (sheet.refusal 5) Done

-- and so it is answered, before any test of the run
unfoldable pub kind_answer : List ℕ → ℕ → ℕ → ℕ → Slots → List ℕ → RunAnswer
kind_answer s kind w h x scratch = cond (ltb 1 kind) (whole (sheet.refusal 5)) (run_answer (recipe_in s) (kind_of kind) (pool_in s) w h (lengths x scratch))

-- what holds where the message and the run are taken, else the second
abbrev pub on_taken : {A : Type 0} → Result Unit MessageError → RunAnswer → A → A → A
on_taken m a x y = on_done m (sheet.on_done a x y) y

-- what is told by the numbers: the message's refusal, or the run's answer
abbrev pub told_number : Result Unit MessageError → RunAnswer → ℕ
told_number (Ok u) a = recipe.number a
told_number (Err e) a = number e

abbrev pub told_step : Result Unit MessageError → RunAnswer → ℕ
told_step (Ok u) a = recipe.step_index a
told_step (Err e) a = step_index e

abbrev pub told_offset : Result Unit MessageError → ℕ
told_offset (Ok u) = 0
told_offset (Err e) = offset e

pub record ToldBoth (m : Result Unit MessageError) (a : RunAnswer) (n step at : ℕ) : Type 0 where
  pub number_told : n ≡ told_number m a
  pub step_told : step ≡ told_step m a
  pub offset_told : at ≡ told_offset m

-- ---- the contract of `nup_run`
pub record RunFrom (s : List ℕ) (kind w h : ℕ) (source slot1 slot2 slot3 scratch : Lent ℕ) (a : RunAnswer) (r : nup_run_answer) : Type 0 where
  pub told : ToldBoth (message_answer s) a r.number r.step r.offset
  pub sheets :
      slots (was source) (became slot1) (became slot2) (became slot3)
      ≡ on_taken (message_answer s) a
      (acts (pool_in s) w h (step_of (recipe_in s)) (recipe_in s).count (slots (was source) (was slot1) (was slot2) (was slot3)))
      (slots (was source) (was slot1) (was slot2) (was slot3))
  pub cleared : became scratch ≡ on_taken (message_answer s) a (zeros (length (was scratch))) (was scratch)

-- by the sheets at the call
abbrev pub RunCalled : Lent ℕ → (kind w h : ℕ) → (source slot1 slot2 slot3 scratch : Lent ℕ) → nup_run_answer → Type 0
RunCalled message kind w h source slot1 slot2 slot3 scratch =
    RunFrom (was message) kind w h source slot1 slot2 slot3 scratch
    (kind_answer (was message) kind w h (slots (was source) (was slot1) (was slot2) (was slot3)) (was scratch))

-- ---- the contract of `nup_reaches`
-- the message and the run are taken, and a byte of the result reaches a source byte
pub record ReachingFrom (s : List ℕ) (w h : ℕ) (a : RunAnswer) : Type 0 where
  pub read : message_answer s ≡ done
  pub accepted : a ≡ Done
  pub byte : ℕ
  pub inside : byte < 4 * w * h
  pub origin : ℕ
  pub way : Reach (step_reads (pool_in s) w h) (step_of (recipe_in s)) (recipe_in s).count (result (recipe_in s)) byte origin

pub record ReachFrom (s : List ℕ) (w h : ℕ) (a : RunAnswer) (r : nup_reach_answer) : Type 0 where
  pub told : ToldBoth (message_answer s) a r.number r.step r.offset
  pub yes_or_no : r.reaches < 2
  pub only : r.reaches ≡ 1 → ReachingFrom s w h a
  pub always : ReachingFrom s w h a → r.reaches ≡ 1

abbrev pub ReachCalled : Lent ℕ → (kind w h : ℕ) → (source slot1 slot2 slot3 scratch : Lent ℕ) → nup_reach_answer → Type 0
ReachCalled message kind w h source slot1 slot2 slot3 scratch =
    ReachFrom (was message) w h (kind_answer (was message) kind w h (slots (was source) (was slot1) (was slot2) (was slot3)) (was scratch))

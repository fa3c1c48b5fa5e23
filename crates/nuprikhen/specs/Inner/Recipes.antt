-- What the parts of `nup_run` and `nup_reaches` promise.
use Rattle.std.specs.Prelude.{ℕ, ◌≡◌, Bool, true, false, cond, ltb, Result}
use Rattle.sheet.specs.Answer.{refusal, on_done}
use Rattle.sheet.specs.Contract.{Cleared}
use Rattle.recipe.specs.declared.Refused.{Refused}
use Rattle.recipe.specs.Tests.{RunAnswer, whole}
use Rattle.recipe.specs.Tests as recipe
use Rattle.filter.specs.Call.{Call, slots_were, slots_became, answer, all_steps}
use Rattle.filter.specs.Reach.{Reaching, answer_of, yes_of}
use Rattle.message.specs.declared.MessageError.{MessageError}
use Rattle.message.specs.Answers.{number, step_index, offset}
use Rattle.nuprikhen.specs.declared.nup_recipes.nup_reach_answer.{nup_reach_answer}

-- a message's refusal, or the answer of a run, is told by the numbers
abbrev pub MessageTold : MessageError → ℕ → ℕ → ℕ → Type 0
MessageTold e n step at = (n ≡ number e) × (step ≡ step_index e) × (at ≡ offset e)

abbrev pub RunTold : RunAnswer → ℕ → ℕ → ℕ → Type 0
RunTold a n step at = (n ≡ recipe.number a) × (step ≡ recipe.step_index a) × (at ≡ 0)

-- a run's answer, after the kind's
abbrev pub answer_by_kind : ℕ → Call → RunAnswer
answer_by_kind kind c = cond (ltb 1 kind) (whole (refusal 5)) (answer c)

pub record RanByKind (kind : ℕ) (c : Call) (a : RunAnswer) : Type 0 where
  pub answered : a ≡ answer_by_kind kind c
  pub sheets : slots_became c ≡ on_done (answer_by_kind kind c) (all_steps c) (slots_were c)
  pub cleared : Cleared 0 (answer_by_kind kind c) c.scratch

-- the yes or no of a run, where its kind has a name
pub record ReachedByKind (kind : ℕ) (c : Call) (r : Result Bool Refused) : Type 0 where
  pub answered : answer_of r ≡ answer_by_kind kind c
  pub only : yes_of r ≡ true → (ltb 1 kind ≡ false) × Reaching c
  pub always : ltb 1 kind ≡ false → Reaching c → yes_of r ≡ true

abbrev pub one_if : Bool → ℕ
one_if b = cond b 1 0

abbrev pub ReachTold : Result Bool Refused → nup_reach_answer → Type 0
ReachTold a r = RunTold (answer_of a) r.number r.step r.offset × (r.reaches ≡ one_if (yes_of a))

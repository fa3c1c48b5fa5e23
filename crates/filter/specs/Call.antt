-- What a run is lent, as one thing, and what it leaves: the contract of `run`.
use Rattle.std.specs.Prelude.{◌≡◌, ℕ, List, [], ◌∷◌, length, Float}
use Rattle.sheet.specs.declared.Size.{Size}
use Rattle.sheet.specs.Answer.{on_done}
use Rattle.sheet.specs.Contract.{Lent, was, became, Cleared}
use Rattle.recipe.specs.declared.Kind.{Kind}
use Rattle.recipe.specs.declared.Recipe.{Recipe}
use Rattle.recipe.specs.Tests.{RunAnswer, step_of, run_answer}
use Rattle.filter.specs.Slots.{Slots, slots, acts}

-- a run: what it is asked for, and what it is lent, as it was at the call and as it became
pub record Call : Type 0 where
  pub recipe : Recipe
  pub kind : Kind
  pub pool : Lent Float
  pub size : Size
  pub source : Lent ℕ
  pub slot1 : Lent ℕ
  pub slot2 : Lent ℕ
  pub slot3 : Lent ℕ
  pub scratch : Lent ℕ

abbrev pub call : Recipe → Kind → Lent Float → Size → (source slot1 slot2 slot3 scratch : Lent ℕ) → Call
call r k pool size source slot1 slot2 slot3 scratch = record {
  recipe = r;
  kind = k;
  pool = pool;
  size = size;
  source = source;
  slot1 = slot1;
  slot2 = slot2;
  slot3 = slot3;
  scratch = scratch;
}

-- the slots at the call, and as the run leaves them; the source is lent for reading alone
abbrev pub slots_were : Call → Slots
slots_were c = slots (was c.source) (was c.slot1) (was c.slot2) (was c.slot3)

abbrev pub slots_became : Call → Slots
slots_became c = slots (was c.source) (became c.slot1) (became c.slot2) (became c.slot3)

-- the lengths of the slots and of the scratch, as they are tested
abbrev pub lengths : Slots → List ℕ → List ℕ
lengths (slots a b c d) scratch = length a ∷ length b ∷ length c ∷ length d ∷ length scratch ∷ []

-- what a run is answered
abbrev pub answer : Call → RunAnswer
answer c = run_answer c.recipe c.kind (was c.pool) c.size.width c.size.height (lengths (slots_were c) (was c.scratch))

-- the slots after all steps
abbrev pub all_steps : Call → Slots
all_steps c = acts (was c.pool) c.size.width c.size.height (step_of c.recipe) c.recipe.count (slots_were c)

-- the contract of `run`: its answer; the slots after all steps, or, where it is refused, as they were; and the scratch
pub record Ran (c : Call) (a : RunAnswer) : Type 0 where
  pub answered : a ≡ answer c
  pub sheets : slots_became c ≡ on_done (answer c) (all_steps c) (slots_were c)
  pub cleared : Cleared 0 (answer c) c.scratch

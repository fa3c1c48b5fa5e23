-- The three demands on a run, in their own words, as types over the contract `Ran`. proofs/Demands.antt proves each.
use Rattle.std.specs.Prelude.{ℕ, ◌*◌, ◌≤◌, ◌<◌, ◌≡◌, Bool, List, length, get_or, Result}
use Rattle.sheet.specs.Answer.{Done, IsRefusal}
use Rattle.sheet.specs.Contract.{was, became}
use Rattle.sheet.specs.Tabulate.{zeros}
use Rattle.recipe.specs.declared.Refused.{Refused}
use Rattle.recipe.specs.Tests.{RunAnswer, step_of}
use Rattle.filter.specs.Slots.{slot_of, made, acts}
use Rattle.filter.specs.Call.{Call, slots_were, slots_became, lengths, answer, Ran}
use Rattle.filter.specs.Reach.{Reached, answer_of, yes_of, ReachesExactly}

-- ---- 1. Any input gets an answer: the answer of docs/LAW.md's table, and a refusal changes no lent byte
pub record Unchanged (c : Call) : Type 0 where
  pub slots_kept : slots_became c ≡ slots_were c
  pub scratch_kept : became c.scratch ≡ was c.scratch

abbrev pub AnyInputGetsAnAnswer : Type 0
AnyInputGetsAnAnswer = (c : Call) (a : RunAnswer) → Ran c a → (a ≡ answer c) × (IsRefusal a → Unchanged c)

-- ---- 2. Every output byte is the definition's
-- step i is the last of the run's steps that writes slot s
pub record WrittenLast (c : Call) (s i : ℕ) : Type 0 where
  pub run : i < c.recipe.count
  pub writes : (step_of c.recipe i).output ≡ s
  pub last : (j : ℕ) → i < j → j < c.recipe.count → (step_of c.recipe j).output ≡ s → ⊥

-- what step i makes of the slots as the steps before it left them
abbrev pub made_by : Call → ℕ → List ℕ
made_by c i =
    made (step_of c.recipe i).work (was c.pool) c.size.width c.size.height
    (slot_of (acts (was c.pool) c.size.width c.size.height (step_of c.recipe) i (slots_were c)))

-- a slot holds what its last step made; a slot that no step wrote is as it was; the scratch is all zero
pub record EveryByteDefined (c : Call) : Type 0 where
  pub written : (s i : ℕ) → WrittenLast c s i → slot_of (slots_became c) s ≡ made_by c i
  pub others : (s : ℕ) → s ≤ 3 → ((i : ℕ) → i < c.recipe.count → (step_of c.recipe i).output ≡ s → ⊥) → slot_of (slots_became c) s ≡ slot_of (slots_were c) s
  pub scratch_zero : became c.scratch ≡ zeros (length (was c.scratch))

abbrev pub EveryOutputByteIsTheDefinitions : Type 0
EveryOutputByteIsTheDefinitions = (c : Call) → Ran c Done → EveryByteDefined c

-- ---- 3. A result byte draws on its reach and on nothing else
-- two runs of one recipe, with equal numbers and sheets of the same lengths; what the sheets and the scratch hold may differ
pub record SameRequest (c c' : Call) : Type 0 where
  pub recipe : c.recipe ≡ c'.recipe
  pub kind : c.kind ≡ c'.kind
  pub pool : was c.pool ≡ was c'.pool
  pub size : c.size ≡ c'.size
  pub long : lengths (slots_were c) (was c.scratch) ≡ lengths (slots_were c') (was c'.scratch)

-- a step of the run writes slot s
pub record Written (c : Call) (s : ℕ) : Type 0 where
  pub step : ℕ
  pub run : step < c.recipe.count
  pub writes : (step_of c.recipe step).output ≡ s

-- the sources agree on every byte that byte b of slot s reaches
abbrev pub AgreeOnReach : (c c' : Call) → ℕ → ℕ → Type 0
AgreeOnReach c c' s b = (j : ℕ) → Reached c s b j → get_or (was c.source) j 0 ≡ get_or (was c'.source) j 0

abbrev pub AByteDrawsOnItsReach : Type 0
AByteDrawsOnItsReach =
    (c c' : Call) (a a' : RunAnswer) → Ran c a → Ran c' a' → SameRequest c c'
    → (a ≡ a')
    × (a ≡ Done → (s b : ℕ) → Written c s → b < 4 * c.size.width * c.size.height → AgreeOnReach c c' s b
    → get_or (slot_of (slots_became c) s) b 0 ≡ get_or (slot_of (slots_became c') s) b 0)

-- ---- and `run` has one outcome: two that its contract allows for the same lent contents are equal
abbrev pub OneOutcome : Type 0
OneOutcome =
    (c c' : Call) (a a' : RunAnswer) → Ran c a → Ran c' a' → SameRequest c c' → slots_were c ≡ slots_were c' → was c.scratch ≡ was c'.scratch
    → (a ≡ a') × (slots_became c ≡ slots_became c') × (became c.scratch ≡ became c'.scratch)

-- and so has `reaches`
abbrev pub OneYesOrNo : Type 0
OneYesOrNo =
    (c c' : Call) (r r' : Result Bool Refused) → ReachesExactly c r → ReachesExactly c' r' → SameRequest c c' → (answer_of r ≡ answer_of r') × (yes_of r ≡ yes_of r')

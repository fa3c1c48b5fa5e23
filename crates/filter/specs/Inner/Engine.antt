-- Words of the inner functions' contracts.
use Rattle.std.specs.Prelude.{ℕ, zero, suc, ◌*◌, ◌≤◌, ◌≡◌, Bool, true, false, cond, List, [], ◌⊎◌, length, eqb, Float}
use Rattle.sheet.specs.Answer.{Done}
use Rattle.sheet.specs.Size.{sheets_answer}
use Rattle.recipe.specs.declared.Inputs.{Inputs}
use Rattle.recipe.specs.declared.Inputs.TheVariants.{None, One, Two}
use Rattle.recipe.specs.declared.Step.{Step}
use Rattle.recipe.specs.declared.Work.{Work}
use Rattle.recipe.specs.Contents.{inputs_of}
use Rattle.recipe.specs.Tests.{work_answer}
use Rattle.filter.specs.declared.step.Sheets.{Sheets}
use Rattle.filter.specs.Slots.{Slots, slots, slot_of, made}

-- the slots' sheets
abbrev pub slots_in : Sheets → Slots
slots_in s = slots s.zero.now s.one.now s.two.now s.three.now

-- the sides pass test 1, and each sheet has their length
pub record Fits (w h : ℕ) (x : Slots) (scratch : List ℕ) : Type 0 where
  pub sized : sheets_answer w h [] ≡ Done
  pub slot : (s : ℕ) → s ≤ 3 → length (slot_of x s) ≡ 4 * w * h
  pub spare : length scratch ≡ 4 * w * h

-- slot s is one of those that are read
abbrev pub IsInput : Inputs → ℕ → Type 0
IsInput None s = ⊥
IsInput (One a) s = s ≡ a
IsInput (Two a b) s = (s ≡ a) ⊎ (s ≡ b)

-- get s is the sheet in slot s, and the sheets in the slots that are read are a, and b where there are two
abbrev pub Gets : Inputs → (ℕ → List ℕ) → List ℕ → List ℕ → Type 0
Gets None get a b = Unit
Gets (One s) get a b = get s ≡ a
Gets (Two s t) get a b = (get s ≡ a) × (get t ≡ b)

-- d is what a work makes of the sheets that it reads
abbrev pub MadeOf : Work → List Float → ℕ → ℕ → (a b d : List ℕ) → Type 0
MadeOf work pool w h a b d = (get : ℕ → List ℕ) → Gets (inputs_of work) get a b → d ≡ made work pool w h get

-- a step that passed its tests
pub record Legal (s : Step) (pool : List Float) : Type 0 where
  pub first : 1 ≤ s.output
  pub last : s.output ≤ 3
  pub low : (a : ℕ) → IsInput (inputs_of s.work) a → a ≤ 3
  pub apart : (a : ℕ) → IsInput (inputs_of s.work) a → a ≡ s.output → ⊥
  pub passed : work_answer s.work pool ≡ Done

-- some slot that is read has R
abbrev pub any_input : Inputs → (ℕ → Bool) → Bool
any_input None R = false
any_input (One a) R = R a
any_input (Two a b) R = cond (R a) true (R b)

-- a slot that is read twice is named once
abbrev pub each_once : Inputs → Inputs
each_once None = None
each_once (One a) = One a
each_once (Two a b) = cond (eqb a b) (One a) (Two a b)

-- the slots before a step from which slot s is made: those that it reads where it writes s, else s itself
unfoldable pub origins_of : Step → ℕ → Inputs
origins_of st s = cond (eqb s st.output) (each_once (inputs_of st.work)) (One s)

-- slot s after the first n steps reaches the source
unfoldable pub reaches_at : (ℕ → Step) → ℕ → ℕ → Bool
reaches_at f zero s = eqb s 0
reaches_at f (suc n) s = any_input (origins_of (f n) s) (reaches_at f n)

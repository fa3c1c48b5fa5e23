-- The laws of a C function's contract: how a refusal and a success show it, what it takes over from a callee's contract, and that it allows one outcome only.
use Prim.Native.Nat.{ℕ}
use mathlib.Core.Path.{◌≡◌, refl, sym, ◌∙◌}
use mathlib.Core.List.{List, [], ◌∷◌}
use borrow.Author.Tests.{eqb-true}
use Rattle.sheet.specs.Answer.{Answer, Done, IsRefusal, on_done}
use Rattle.sheet.specs.Size.{lengths_answer}
use Rattle.sheet.specs.Contract.{Lent, was, became, Holds, Filtered}
use Rattle.sheet.proofs.Answers.{cond_done}
use Rattle.std.specs.Prelude.{Ok, Err}
use Rattle.sheet.proofs.Contracts.{holds_settled}
use Rattle.nuprikhen.specs.declared.nup_answer.{nup_answer}
use Rattle.nuprikhen.specs.Called.{Told, Called}

told_as : {answer r : Answer} {c : nup_answer} → r ≡ answer → Told r c → Told answer c
told_as {answer} {r} {c} e t = rw e at t

-- what a slice holds after a refusal, and after Done
pub called_by : {A : Type 0} {answer : Answer} (r : Answer) {c : nup_answer} {new : List A} {lent : Lent A} → r ≡ answer → Told r c → (IsRefusal r → became lent ≡ was lent) → (r ≡ Done → became lent ≡ new) → Called answer c new lent
called_by r {new = new} {lent = lent} e t k d = record { told = told_as e t; held = record { elements = rw e at (by r k d) } }
  where
    by : (a : Answer) → (IsRefusal a → became lent ≡ was lent) → (a ≡ Done → became lent ≡ new) → became lent ≡ on_done a new (was lent)
    by (Ok _) k d = d refl
    by (Err u) k d = k tt

-- what a callee's contract says of a slice that is lent on; `s` is the slice as the callee saw it
module _ {A : Type 0} {answer : Answer} {new : List A} {s lent : Lent A} (w : was s ≡ was lent) (l : became s ≡ became lent) where
  -- under another name of the answer and of the elements
  pub holds_as : {answer' : Answer} {new' : List A} → answer ≡ answer' → new ≡ new' → Holds answer new s → Holds answer' new' lent
  holds_as e n h = record { elements = rw (← e, ← n, ← w, ← l) h.elements }

  pub filtered_as : {r answer' : Answer} {new' : List A} → answer ≡ answer' → new ≡ new' → Filtered answer r new s → Filtered answer' r new' lent
  filtered_as e n f = record { answered = f.answered ∙ e; held = holds_as e n f.held }

  pub filtered_called : {r : Answer} {c : nup_answer} → Filtered answer r new s → Told r c → Called answer c new lent
  filtered_called f t = record { told = told_as f.answered t; held = holds_as refl refl f.held }

-- two lengths that pass are equal
pub pair_same : {a b : ℕ} {r : Answer} → r ≡ lengths_answer a (b ∷ []) → r ≡ Done → a ≡ b
unfolding lengths_answer
pair_same {a} {b} {r} e d = sym (eqb-true b a (cond_done _ _ _ (sym e ∙ d)).0)

-- two outcomes that the contract allows for the same call are equal
pub called_settled : {A : Type 0} {answer : Answer} {c c' : nup_answer} {new : List A} {lent lent' : Lent A} → was lent ≡ was lent' → Called answer c new lent → Called answer c' new lent' → (c.number ≡ c'.number) × (c.step ≡ c'.step) × (became lent ≡ became lent')
called_settled e f g = (
  f.told.number_told ∙ sym g.told.number_told,
  f.told.step_told ∙ sym g.told.step_told,
  holds_settled e f.held g.held,
)

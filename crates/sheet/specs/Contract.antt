-- The one shape of a filter's contract: its answer and every lent element are fixed by definitions.
use Rattle.std.specs.Prelude.{◌≡◌, List, length, Result, ⊤}
use Rattle.sheet.specs.Answer.{on_done}
use Rattle.sheet.specs.Tabulate.{repeated}

-- a lent slice: its elements at the call, and as the function returns
pub record Lent (A : Type 0) : Type 0 where
  pub at_call : List A
  pub at_return : List A

abbrev pub lent : {A : Type 0} → (at_call at_return : List A) → Lent A
lent at_call at_return = record { at_call = at_call; at_return = at_return }

-- a slice that is lent to be read alone
abbrev pub read_only : {A : Type 0} → List A → Lent A
read_only xs = lent xs xs

abbrev pub was : {A : Type 0} → Lent A → List A
was s = s.at_call

abbrev pub became : {A : Type 0} → Lent A → List A
became s = s.at_return

-- on Done the slice holds `new`, and on a refusal no element of it changed
pub record Holds {A E : Type 0} (answer : Result ⊤ E) (new : List A) (s : Lent A) : Type 0 where
  pub elements : became s ≡ on_done answer new (was s)

-- the call answered `answer`, and the slice holds what that says
pub record Filtered {A E : Type 0} (answer r : Result ⊤ E) (new : List A) (s : Lent A) : Type 0 where
  pub answered : r ≡ answer
  pub held : Holds answer new s

-- on Done each element of the scratch is z, and on a refusal none changed
abbrev pub Cleared : {A E : Type 0} → A → Result ⊤ E → Lent A → Type 0
Cleared z answer scratch = Holds answer (repeated (length (was scratch)) z) scratch

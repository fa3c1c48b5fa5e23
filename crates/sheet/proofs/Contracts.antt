-- The laws of a filter's contract: how a refusal and a success show it, what it tells a caller, and that it allows one outcome only.
use mathlib.Core.Path.{◌≡◌, sym, ap, ◌∙◌}
use mathlib.Core.List.{List}
use lib.ListN.{length}
use Rattle.std.specs.Prelude.{Result, Err, IsErrAnd, ⊤}
use Rattle.sheet.specs.Answer.{Done, on_done}
use Rattle.sheet.specs.Tabulate.{repeated}
use Rattle.sheet.specs.Contract.{Lent, was, became, Holds, Filtered, Cleared}
use Rattle.sheet.proofs.Answers.{passed_on}

pub holds_refused : {A E : Type 0} {answer : Result ⊤ E} {new : List A} {s : Lent A} {e : E} → answer ≡ Err e → became s ≡ was s → Holds answer new s
holds_refused {A} {E} {answer} {new} {s} a k = record { elements = rw a k }

pub holds_done : {A E : Type 0} {answer : Result ⊤ E} {new : List A} {s : Lent A} → answer ≡ Done → became s ≡ new → Holds answer new s
holds_done {A} {E} {answer} {new} {s} d k = record { elements = rw d k }

-- what a caller that knows the answer to be Done has
pub holds_new : {A E : Type 0} {answer : Result ⊤ E} {new : List A} {s : Lent A} → Holds answer new s → answer ≡ Done → became s ≡ new
holds_new {A} {E} {answer} {new} {s} f d = let e = f.elements in rw d at e

-- a function that makes its tests, and works where they pass: what its `?` returns, and its end
pub filtered_refused : {A E : Type 0} {answer r : Result ⊤ E} {new : List A} {s : Lent A} {e : E} → answer ≡ Err e → IsErrAnd r (λ y. y ≡ e) → became s ≡ was s → Filtered answer r new s
filtered_refused {A} {E} {answer} {r} {new} {s} {e} a h k = record { answered = passed_on e h ∙ sym a; held = holds_refused a k }

pub filtered_done : {A E : Type 0} {answer : Result ⊤ E} {new : List A} {s : Lent A} → answer ≡ Done → became s ≡ new → Filtered answer Done new s
filtered_done a k = record { answered = sym a; held = holds_done a k }

-- two outcomes that the contract allows for the same call are equal
pub holds_settled : {A E : Type 0} {answer : Result ⊤ E} {new : List A} {s s' : Lent A} → was s ≡ was s' → Holds answer new s → Holds answer new s' → became s ≡ became s'
holds_settled {A} {E} {answer} {new} {s} {s'} e f g = f.elements ∙ (ap (on_done answer new) e ∙ sym g.elements)

pub settled : {A E : Type 0} {answer r r' : Result ⊤ E} {new : List A} {s s' : Lent A} → was s ≡ was s' → Filtered answer r new s → Filtered answer r' new s' → (r ≡ r') × (became s ≡ became s')
settled {A} {E} {answer} {r} {r'} {new} {s} {s'} e f g = (f.answered ∙ sym g.answered, holds_settled e f.held g.held)

pub cleared_settled : {A E : Type 0} {answer : Result ⊤ E} (z : A) (s s' : Lent A) → was s ≡ was s' → Cleared z answer s → Cleared z answer s' → became s ≡ became s'
cleared_settled {A} {E} {answer} z s s' e c c' = c.elements ∙ (ap (λ l. on_done answer (repeated (length l) z) l) e ∙ sym c'.elements)

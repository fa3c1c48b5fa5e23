-- A C function that stores f of each element of a slice in order, and the roots of a copy.
use Prim.Native.Nat.{ℕ, ◌+◌, ◌<◌}
use mathlib.Core.Path.{◌≡◌, refl, sym, ◌∙◌}
use mathlib.Core.List.{List, map}
use native.Mathlib.Nat.{not-suc-le-zero}
use native.Mathlib.Omega.{arith}
use borrow.Author.Count.{below_more}
use lib.ListN.{length, get_or, set, length-set, length-map, get_or-map}
use lib.Seq.{get_or-set_same, get_or-set_other, ext_get_or}
use Rattle.std.proofs.lemmas.List.{get_or_read_under}
use Rattle.std.specs.Prelude.{Err}
use Rattle.sheet.specs.declared.Refusal.{Refusal}
use Rattle.sheet.specs.Answer.{Answer, Done}
use Rattle.sheet.specs.Contract.{Lent, was, became}
use Rattle.nuprikhen.specs.declared.nup_answer.{nup_answer}
use Rattle.nuprikhen.specs.Called.{Told, Called, pair_answer}
use Rattle.nuprikhen.specs.Inner.Mapped.{Images, MappedInto}
use Rattle.nuprikhen.proofs.Calls.{called_by}

module _ {A B : Type 0} {R : A → B → Type 0} {xs : List A} where
  pub images_start : {out : List B} → length xs ≡ length out → Images R xs out 0
  images_start e = record { same = sym e; each = λ i a b h. absurd (not-suc-le-zero h) }

  -- element x of xs is read at i, and v is stored there
  pub images_store : {out : List B} {i : ℕ} {x : A} {v : B} → Images R xs out i → i < length xs → x ≡ get_or xs i x → R x v → Images R xs (set out i v) (i + 1)
  images_store {out} {i} {x} {v} r h e p = record {
    same = length-set out i v ∙ r.same;
    each = λ k a b l. below_more (λ j. R (get_or xs j a) (get_or (set out i v) j b)) i (λ j m. rw (get_or-set_other out i j v b (omega arith)) (r.each j a b m)) (rw (get_or-set_same out i v b (omega (arith, r.same)), ← get_or_read_under xs i (length xs) x a e h refl) p) k l;
  }

  -- where R says that it is h of the element
  pub images_map : (h : A → B) (a : A) {out : List B} → Images R xs out (length xs) → ((x : A) (y : B) → R x y → y ≡ h x) → out ≡ map h xs
  images_map h a {out} r g =
      ext_get_or (h a) out (map h xs) (r.same ∙ sym (length-map xs h))
      (λ k l. g _ _ (r.each k a (h a) (omega (arith, r.same))) ∙ sym (get_or-map h xs k a))

-- `map_into`: what its `?` returns, and its end
pub into_refused : {A B : Type 0} {R : A → B → Type 0} {xs : Lent A} {a r : Answer} {u : Refusal} {out : Lent B} → a ≡ pair_answer xs out → a ≡ Err u → r ≡ Err u → became out ≡ was out → MappedInto R xs r out
into_refused e h p k = record { answered = p ∙ (sym h ∙ e); kept = λ _. k; mapped = λ d. absurd (never (sym p ∙ d)) }
  where
    never : {u : Refusal} → ◌≡◌ {A = Answer} (Err u) Done → ⊥
    never z = cc

pub into_done : {A B : Type 0} {R : A → B → Type 0} {xs : Lent A} {a : Answer} {out : Lent B} → a ≡ pair_answer xs out → a ≡ Done → Images R (was xs) (became out) (length (was xs)) → MappedInto R xs Done out
into_done e d m = record { answered = sym d ∙ e; kept = λ h. absurd h; mapped = λ _. m }

pub mapped_called : {A B : Type 0} {R : A → B → Type 0} (h : A → B) (a : A) (xs : Lent A) (answer : Answer) (lent : Lent B) {c : nup_answer} → MappedInto R xs answer lent → Told answer c → ((x : A) (y : B) → R x y → y ≡ h x) → Called (pair_answer xs lent) c (map h (was xs)) lent
mapped_called h a xs answer lent m t g = called_by answer m.answered t m.kept (λ d. images_map h a (m.mapped d) g)

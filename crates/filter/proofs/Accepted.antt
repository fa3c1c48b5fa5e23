-- What a run that passed its tests tells: sheets of one length, a count within the limit, and steps that read what is there.
use Prim.Native.Nat.{ℕ, zero, suc, ◌≤◌, ◌<◌}
use mathlib.Core.Path.{◌≡◌, refl, sym, ap, ◌∙◌}
use mathlib.Core.Bool.{Bool, true, false, cond, false≢true}
use mathlib.Core.List.{List}
use mathlib.Core.Logic.{inl, inr}
use native.Mathlib.Nat.{not-suc-le-zero, le_of_suc-le-suc}
use native.Mathlib.Decide.{dec_le}
use native.Mathlib.Omega.{arith}
use borrow.Author.Tests.{eqb-false, ltb-false, ne_eqb, lt-ltb, le-ltb}
use lib.Dec.{eqb, ltb}
use lib.ListN.{length}
use Rattle.std.proofs.lemmas.List.{get_or-set_same, get_or-set_other}
use Rattle.std.specs.Prelude.{None, Err}
use lib.Ieee.{Float}
use Rattle.sheet.specs.Answer.{Done}
use Rattle.sheet.specs.Size.{sheets_answer}
use Rattle.sheet.proofs.Answers.{cond_true, cond_done, both_done, sheets_first}
use Rattle.recipe.specs.declared.Kind.{Kind}
use Rattle.recipe.specs.declared.Inputs.{Inputs}
use Rattle.recipe.specs.declared.Inputs.TheVariants as inputs
use Rattle.recipe.specs.declared.Step.{Step}
use Rattle.recipe.specs.declared.Recipe.{Recipe}
use Rattle.recipe.specs.declared.Refused.{Refused}
use Rattle.recipe.specs.Contents.{Content, Contents, is_sheet, content_in, holding, at_first, inputs_of, work_makes, contents}
use Rattle.recipe.specs.Tests.{work_answer, input_ok, inputs_ok, slots_ok, slot_answer, kind_answer, step_answer, step_of, step_limit, recipe_answer, RunAnswer, whole, run_answer}
use Rattle.filter.specs.Slots.{Slots, slots}
use Rattle.filter.specs.Call.{lengths}
use Rattle.filter.specs.Inner.Engine.{Fits, IsInput, Legal}
use Rattle.recipe.proofs.Prefix.{step_done, each_done}
use Rattle.filter.proofs.Acting.{fits_of}

-- ---- what a slot holds
abbrev pub Held : ℕ → Contents → Type 0
Held s x = is_sheet (content_in s x) ≡ true

pub held_low : (s : ℕ) (x : Contents) → Held s x → s ≤ 3
held_low s x e = go (dec_le s 3)
  where
    go : Dec (s ≤ 3) → s ≤ 3
    go (yes p) = p
    go (no q) = let z : is_sheet (content_in s x) ≡ false = simp (lt-ltb 3 s (omega arith)) in absurd (false≢true (sym z ∙ e))

-- at first only slot 0 holds a sheet
pub held_first : (k : Kind) (s : ℕ) → Held s (at_first k) → s ≡ 0
held_first k zero e = refl
held_first k (suc s) e = go s e
  where
    go : (s : ℕ) → Held (suc s) (at_first k) → suc s ≡ 0
    go zero e = absurd (false≢true e)
    go (suc zero) e = absurd (false≢true e)
    go (suc (suc zero)) e = absurd (false≢true e)
    go (suc (suc (suc s))) e = let z = held_low (suc (suc (suc (suc s)))) (at_first k) e in absurd (not-suc-le-zero (le_of_suc-le-suc (le_of_suc-le-suc (le_of_suc-le-suc z))))

pub held_same : (o : ℕ) (new : Content) (x : Contents) → length x ≡ 4 → 1 ≤ o → o ≤ 3 → is_sheet new ≡ true → Held o (holding o new x)
held_same o new x four h l e = rw (ne_eqb o 0 (omega arith), le-ltb 3 o l, get_or-set_same x o new None (omega arith)) e

other_content : (s o : ℕ) (new : Content) (x : Contents) → 1 ≤ o → (s ≡ o → ⊥) → content_in s (holding o new x) ≡ content_in s x
other_content s o new x h n = rw (ne_eqb o 0 (omega arith), get_or-set_other x o s new None n)

pub held_other : (s o : ℕ) (new : Content) (x : Contents) → 1 ≤ o → (s ≡ o → ⊥) → Held s (holding o new x) → Held s x
held_other s o new x h n e = ap is_sheet (sym (other_content s o new x h n)) ∙ e

pub held_kept : (s o : ℕ) (new : Content) (x : Contents) → 1 ≤ o → (s ≡ o → ⊥) → Held s x → Held s (holding o new x)
held_kept s o new x h n e = ap is_sheet (other_content s o new x h n) ∙ e

-- ---- a step that passed
both_true : (p q : Bool) → cond p q false ≡ true → (p ≡ true) × (q ≡ true)
both_true true q e = (refl, e)
both_true false q e = absurd (false≢true e)

each_input : (i : Inputs) (o : ℕ) (x : Contents) → inputs_ok i o x ≡ true → (a : ℕ) → IsInput i a → input_ok a o x ≡ true
each_input inputs.None o x e a i = absurd i
each_input (inputs.One b) o x e a i = rw i e
each_input (inputs.Two b c) o x e a (inl i) = rw i (both_true (input_ok b o x) _ e).0
each_input (inputs.Two b c) o x e a (inr i) = rw i (both_true (input_ok b o x) _ e).1

input_apart : (a o : ℕ) (x : Contents) → input_ok a o x ≡ true → a ≡ o → ⊥
unfolding input_ok
input_apart a o x e = eqb-false a o (cond_true (eqb a o) _ e).0

input_held : (a o : ℕ) (x : Contents) → input_ok a o x ≡ true → Held a x
unfolding input_ok
input_held a o x e = (cond_true (eqb a o) _ e).1

module _ (s : Step) (pool : List Float) (x : Contents) (e : step_answer s pool x ≡ Done) where
  slots_passed : slots_ok (inputs_of s.work) s.output x ≡ true
  unfolding step_answer
  slots_passed = (cond_done (slots_ok (inputs_of s.work) s.output x) _ _ (both_done (slot_answer s x) _ e).0).0

  pub makes_sheet : is_sheet (work_makes s.work x) ≡ true
  unfolding step_answer
  makes_sheet = (cond_done (is_sheet (work_makes s.work x)) _ _ (both_done (kind_answer s x) _ (both_done (slot_answer s x) _ e).1).0).0

  work_passed : work_answer s.work pool ≡ Done
  unfolding step_answer
  work_passed = (both_done (kind_answer s x) _ (both_done (slot_answer s x) _ e).1).1

  input_passed : (a : ℕ) → IsInput (inputs_of s.work) a → input_ok a s.output x ≡ true
  unfolding slots_ok
  input_passed a i = each_input (inputs_of s.work) s.output x (cond_true (ltb 3 s.output) _ (cond_true (eqb s.output 0) _ slots_passed).1).1 a i

  -- what it reads is there
  pub reads_held : (a : ℕ) → IsInput (inputs_of s.work) a → Held a x
  reads_held a i = input_held a s.output x (input_passed a i)

  pub legal : Legal s pool
  unfolding slots_ok
  legal =
      let f = cond_true (eqb s.output 0) _ slots_passed in
      let l = cond_true (ltb 3 s.output) _ f.1 in
      let p = eqb-false s.output 0 f.0 in
      record {
        first = omega arith;
        last = ltb-false 3 s.output l.0;
        low = λ a i. held_low a x (reads_held a i);
        apart = λ a i. input_apart a s.output x (input_passed a i);
        passed = work_passed;
      }

-- ---- a recipe that passed
not_refused : (t : Bool) (p : RunAnswer) (u : Refused) → cond t (Err u) p ≡ Done → (t ≡ false) × (p ≡ Done)
not_refused true p u e = cc
not_refused false p u e = (refl, e)

module _ (r : Recipe) (k : Kind) (pool : List Float) (e : recipe_answer r k pool ≡ Done) where
  pub count_some : 0 < r.count
  unfolding recipe_answer
  count_some = let z = eqb-false r.count 0 (not_refused (eqb r.count 0) _ _ e).0 in omega arith

  pub count_few : r.count ≤ step_limit
  unfolding recipe_answer
  count_few = ltb-false step_limit r.count (not_refused (ltb step_limit r.count) _ _ (not_refused (eqb r.count 0) _ _ e).1).0

  pub steps_passed : (i : ℕ) → i < r.count → step_answer (step_of r i) pool (contents (step_of r) (at_first k) i) ≡ Done
  unfolding recipe_answer
  steps_passed = each_done (step_of r) (at_first k) pool r.count (not_refused (ltb step_limit r.count) _ _ (not_refused (eqb r.count 0) _ _ e).1).1

  pub steps_legal : (i : ℕ) → i < r.count → Legal (step_of r i) pool
  steps_legal i h = legal (step_of r i) pool (contents (step_of r) (at_first k) i) (steps_passed i h)

-- ---- a run that passed
module _ (r : Recipe) (k : Kind) (pool : List Float) (w h : ℕ) (l : List ℕ) (e : run_answer r k pool w h l ≡ Done) where
  pub sheets_passed : sheets_answer w h l ≡ Done
  unfolding run_answer
  sheets_passed = step_done 0 (sheets_answer w h l) (both_done (whole (sheets_answer w h l)) _ e).0

  pub recipe_passed : recipe_answer r k pool ≡ Done
  unfolding run_answer
  recipe_passed = (both_done (whole (sheets_answer w h l)) _ e).1

pub slots_fit : (w h : ℕ) (x : Slots) (s : List ℕ) → sheets_answer w h (lengths x s) ≡ Done → Fits w h x s
slots_fit w h (slots a b c d) s e =
    let p = sheets_first w h _ _ e in
    let q = sheets_first w h _ _ p.1 in
    let r = sheets_first w h _ _ q.1 in
    let t = sheets_first w h _ _ r.1 in
    let l = sheets_first w h _ _ t.1 in
    fits_of l.1 p.0 q.0 r.0 t.0 l.0

-- The demands hold: each follows from the contract `Ran`, the first two by what steps leave, the third by the induction of Isolation.
use Prim.Native.Nat.{ℕ, zero, suc, ◌*◌, ◌<◌}
use mathlib.Core.Path.{◌≡◌, refl, sym, ap, ◌∙◌}
use mathlib.Core.Bool.{Bool, true, false}
use mathlib.Core.List.{List}
use mathlib.Core.Logic.{⊎_elim}
use native.Mathlib.Nat.{le_refl, not-suc-le-zero, le_of_suc-le-suc, eq-or-lt_of_le}
use native.Mathlib.Omega.{arith}
use borrow.Author.Tests.{eqb-true, eqb-false}
use lib.ListN.{length, get_or}
use lib.Dec.{eqb}
use lib.Ieee.{Float}
use Rattle.sheet.specs.Answer.{Done, on_done}
use Rattle.sheet.specs.Contract.{was}
use Rattle.sheet.specs.Tabulate.{zeros}
use Rattle.sheet.proofs.Answers.{stays, sheets_sized}
use Rattle.sheet.proofs.Contracts.{holds_new}
use Rattle.recipe.specs.declared.Kind.{Kind}
use Rattle.recipe.specs.declared.Recipe.{Recipe}
use Rattle.recipe.specs.declared.Step.{Step}
use Rattle.recipe.specs.Contents.{Contents, at_first, contents}
use Rattle.recipe.specs.Tests.{step_answer, step_of, run_answer}
use Rattle.filter.specs.Slots.{Slots, slot_of, made, acts}
use Rattle.filter.specs.Call.{Call, slots_were, slots_became, lengths, answer, all_steps}
use Rattle.filter.specs.Reach.{step_reads, Reach, Reaching}
use Rattle.filter.specs.Demands.{AnyInputGetsAnAnswer, EveryOutputByteIsTheDefinitions, SameRequest, AByteDrawsOnItsReach, OneOutcome, OneYesOrNo}
use Rattle.filter.specs.Inner.Engine.{Legal}
use Rattle.recipe.proofs.Prefix.{contents_length}
use Rattle.filter.proofs.Works.{reads_cover}
use Rattle.filter.proofs.Accepted.{Held, held_same, held_kept, makes_sheet, legal, steps_passed, steps_legal, sheets_passed, recipe_passed, slots_fit}
use Rattle.filter.proofs.Isolation.{slot_written, slot_kept, isolated}

-- ---- 1
pub any_input_gets_an_answer : AnyInputGetsAnAnswer
any_input_gets_an_answer c a r =
    let e = r.answered in (
      e,
      λ h. record {
        slots_kept = r.sheets ∙ (ap (λ t. on_done t (all_steps c) (slots_were c)) (sym e) ∙ stays a h _ _);
        scratch_kept = r.cleared.elements ∙ (ap (λ t. on_done t (zeros (length (was c.scratch))) (was c.scratch)) (sym e) ∙ stays a h _ _);
      },
    )

-- ---- 2
module _ (pool : List Float) (w h : ℕ) (f : ℕ → Step) (x : Slots) where
  -- the last step that writes a slot leaves what it made there
  last_writer : (n : ℕ) → ((j : ℕ) → j < n → Legal (f j) pool) → (s i : ℕ) → i < n → (f i).output ≡ s → ((j : ℕ) → i < j → j < n → (f j).output ≡ s → ⊥)
      → slot_of (acts pool w h f n x) s ≡ made (f i).work pool w h (slot_of (acts pool w h f i x))
  unfolding acts
  last_writer zero g s i l e u = absurd (not-suc-le-zero l)
  last_writer (suc n) g s i l e u =
      ⊎_elim
      (λ q. rw q (slot_written pool w h (f n) (acts pool w h f n x) (g n (omega arith)) s (sym (rw q at e))))
      (λ q. slot_kept pool w h (f n) (acts pool w h f n x) (g n (omega arith)) s (λ z. u n q (omega arith) (sym z)) ∙ last_writer n (λ j t. g j (omega arith)) s i q e (λ j a b. u j a (omega arith)))
      (eq-or-lt_of_le (le_of_suc-le-suc l))

  no_writer : (n : ℕ) → ((j : ℕ) → j < n → Legal (f j) pool) → (s : ℕ) → ((i : ℕ) → i < n → (f i).output ≡ s → ⊥) → slot_of (acts pool w h f n x) s ≡ slot_of x s
  unfolding acts
  no_writer zero g s u = refl
  no_writer (suc n) g s u =
      slot_kept pool w h (f n) (acts pool w h f n x) (g n (omega arith)) s (λ z. u n (omega arith) (sym z)) ∙ no_writer n (λ j t. g j (omega arith)) s (λ i t. u i (omega arith))

pub every_output_byte : EveryOutputByteIsTheDefinitions
every_output_byte c r =
    let d : answer c ≡ Done = sym r.answered in
    let l = lengths (slots_were c) (was c.scratch) in
    let g = steps_legal c.recipe c.kind (was c.pool) (recipe_passed c.recipe c.kind (was c.pool) c.size.width c.size.height l d) in
    let e : slots_became c ≡ all_steps c = r.sheets ∙ ap (λ t. on_done t (all_steps c) (slots_were c)) d in
    record {
      written = λ s i u. ap (λ x. slot_of x s) e ∙ last_writer _ _ _ (step_of c.recipe) (slots_were c) c.recipe.count g s i u.run u.writes u.last;
      others = λ s q u. ap (λ x. slot_of x s) e ∙ no_writer _ _ _ (step_of c.recipe) (slots_were c) c.recipe.count g s u;
      scratch_zero = holds_new r.cleared d;
    }

-- ---- 3
-- a slot that a step wrote holds a sheet
written_held : (pool : List Float) (f : ℕ → Step) (k : Kind) (n : ℕ) → ((i : ℕ) → i < n → step_answer (f i) pool (contents f (at_first k) i) ≡ Done) → (s i : ℕ) → i < n → (f i).output ≡ s → Held s (contents f (at_first k) n)
unfolding contents
written_held pool f k zero good s i l e = absurd (not-suc-le-zero l)
written_held pool f k (suc n) good s i l e = go (λ q. written_held pool f k n (λ j t. good j (omega arith)) s i q e) (eqb s (f n).output) refl
  where
    C : Contents
    C = contents f (at_first k) n

    G : Legal (f n) pool
    G = legal (f n) pool C (good n (le_refl _))

    go : (i < n → Held s C) → (t : Bool) → eqb s (f n).output ≡ t → Held s (contents f (at_first k) (suc n))
    go ih true z = rw (eqb-true s (f n).output z) (held_same (f n).output _ C (contents_length f k n) G.first G.last (makes_sheet (f n) pool C (good n (le_refl _))))
    go ih false z =
        let apart = eqb-false s (f n).output z in
        ⊎_elim
        (λ q. absurd (apart (sym (rw q at e))))
        (λ q. held_kept s (f n).output _ C G.first apart (ih q))
        (eq-or-lt_of_le (le_of_suc-le-suc l))

-- two runs of one recipe: x and y are their slots
isolation : (r : Recipe) (k : Kind) (pool : List Float) (w h : ℕ) (x y : Slots) (scratch scratch' : List ℕ)
    → run_answer r k pool w h (lengths x scratch) ≡ Done → lengths x scratch ≡ lengths y scratch'
    → (s i b : ℕ) → i < r.count → (step_of r i).output ≡ s → b < 4 * w * h
    → ((j : ℕ) → Reach (step_reads pool w h) (step_of r) r.count s b j → get_or (slot_of x 0) j 0 ≡ get_or (slot_of y 0) j 0)
    → get_or (slot_of (acts pool w h (step_of r) r.count x) s) b 0 ≡ get_or (slot_of (acts pool w h (step_of r) r.count y) s) b 0
isolation r k pool w h x y scratch scratch' d e s i b l q p g =
    let good = steps_passed r k pool (recipe_passed r k pool w h (lengths x scratch) d) in
    let t = sheets_passed r k pool w h (lengths x scratch) d in
    isolated pool w h (step_reads pool w h) (reads_cover pool w h (sheets_sized w h (lengths x scratch) t)) (step_of r) k r.count good x y
    (slots_fit w h x scratch t).slot (slots_fit w h y scratch' (rw e at t)).slot r.count (le_refl _) s b p (written_held pool (step_of r) k r.count good s i l q) g

same_answer : {c c' : Call} → SameRequest c c' → answer c ≡ answer c'
same_answer {c} {c'} q = rw (q.recipe, q.kind, q.pool, q.size, q.long)

pub a_byte_draws_on_its_reach : AByteDrawsOnItsReach
a_byte_draws_on_its_reach c c' a a' r r' q =
    let same = same_answer q in (
      r.answered ∙ (same ∙ sym r'.answered),
      λ z s b u p g.
          let d : answer c ≡ Done = sym r.answered ∙ z in
          let e : slots_became c ≡ all_steps c = r.sheets ∙ ap (λ t. on_done t (all_steps c) (slots_were c)) d in
          let e' : slots_became c' ≡ all_steps c' = r'.sheets ∙ ap (λ t. on_done t (all_steps c') (slots_were c')) (sym same ∙ d) in
          let i = isolation c.recipe c.kind (was c.pool) c.size.width c.size.height (slots_were c) (slots_were c') (was c.scratch) (was c'.scratch) d q.long s u.step b u.run u.writes p g in
          ap (λ x. get_or (slot_of x s) b 0) e ∙ (i ∙ (rw (q.recipe, q.pool, q.size) refl ∙ sym (ap (λ x. get_or (slot_of x s) b 0) e'))),
    )

-- ---- one outcome
pub one_outcome : OneOutcome
one_outcome c c' a a' r r' q e f =
    let same = same_answer q in
    let steps : all_steps c ≡ all_steps c' = rw (q.recipe, q.pool, q.size, e) in
    (r.answered ∙ (same ∙ sym r'.answered), r.sheets ∙ (rw (same, steps, e) refl ∙ sym r'.sheets), r.cleared.elements ∙ (rw (same, f) refl ∙ sym r'.cleared.elements))

-- ---- the yes or no: a yes of either call comes with a way that is the other's too
same_way : {c c' : Call} → SameRequest c c' → Reaching c → Reaching c'
same_way {c} {c'} q t = record {
  accepted = sym (same_answer q) ∙ t.accepted;
  byte = t.byte;
  inside = rw q.size at t.inside;
  origin = t.origin;
  way = rw (q.recipe, q.pool, q.size) at t.way;
}

turned : {c c' : Call} → SameRequest c c' → SameRequest c' c
turned q = record { recipe = sym q.recipe; kind = sym q.kind; pool = sym q.pool; size = sym q.size; long = sym q.long }

both_ways : (b b' : Bool) → (b ≡ true → b' ≡ true) → (b' ≡ true → b ≡ true) → b ≡ b'
both_ways true b' f g = sym (f refl)
both_ways false true f g = g refl
both_ways false false f g = refl

pub one_yes_or_no : OneYesOrNo
one_yes_or_no c c' r r' x y q =
    (x.answered ∙ (same_answer q ∙ sym y.answered), both_ways _ _ (λ t. y.always (same_way q (x.only t))) (λ t. x.always (same_way (turned q) (y.only t))))

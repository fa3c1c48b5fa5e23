-- A byte of a slot depends on no source byte but those that it reaches, and on nothing that the working slots held:
-- by induction on the steps, where each step hands the question to the bytes that it reads.
use Rattle.sheet.specs.Answer.{Done}
use Prim.Native.Nat.{ℕ, zero, suc, ◌*◌, ◌≤◌, ◌<◌}
use mathlib.Core.Path.{◌≡◌, refl, sym, ap, ◌∙◌}
use mathlib.Core.Bool.{Bool, true, false}
use mathlib.Core.List.{List}
use native.Mathlib.Omega.{arith}
use borrow.Author.Tests.{eqb-true, eqb-false}
use lib.ListN.{length, get_or}
use lib.Dec.{eqb}
use lib.Ieee.{Float}
use Rattle.recipe.specs.declared.Kind.{Kind}
use Rattle.recipe.specs.declared.Step.{Step}
use Rattle.recipe.specs.Contents.{Contents, at_first, work_makes, contents}
use Rattle.recipe.specs.Tests.{step_answer}
use Rattle.filter.specs.Slots.{Slots, slot_of, made, act, acts}
use Rattle.filter.specs.Reach.{StepReads, Through, Reach}
use Rattle.filter.specs.Inner.Engine.{Legal}
use Rattle.filter.proofs.Works.{Long, Covers}
use Rattle.filter.proofs.Acting.{slot_same, slot_other, acts_length}
use Rattle.filter.proofs.Accepted.{Held, held_first, held_other, reads_held, legal}

-- ---- what a step leaves in a slot
module _ (pool : List Float) (w h : ℕ) (st : Step) (x : Slots) (g : Legal st pool) (s : ℕ) where
  pub slot_written : s ≡ st.output → slot_of (act pool w h st x) s ≡ made st.work pool w h (slot_of x)
  unfolding act
  slot_written e = rw e (slot_same st.output _ x g.first g.last)

  pub slot_kept : (s ≡ st.output → ⊥) → slot_of (act pool w h st x) s ≡ slot_of x s
  unfolding act
  slot_kept n = slot_other st.output _ x s g.first g.last n

module _ (pool : List Float) (w h : ℕ) (R : StepReads) (v : Covers pool w h R) where
  -- one step, over any reach Q, any slots' contents and any agreement A
  step_isolated : (st : Step) (y : Contents) → step_answer st pool y ≡ Done → (get get' : ℕ → List ℕ) → Long st.work w h get → Long st.work w h get' → (Q : ℕ → ℕ → ℕ → Type 0) (A : ℕ → Type 0)
      → ((s m : ℕ) → m < 4 * w * h → Held s y → ((j : ℕ) → Q s m j → A j) → get_or (get s) m 0 ≡ get_or (get' s) m 0)
      → (b : ℕ) → b < 4 * w * h → ((j : ℕ) → Through (R st) Q b j → A j)
      → get_or (made st.work pool w h get) b 0 ≡ get_or (made st.work pool w h get') b 0
  step_isolated st y d get get' q q' Q A ih b l g =
      v.everything st (legal st pool y d).passed b l get get' q q'
      (λ s m r. ih s m (v.inside st b l s m r) (reads_held st pool y d s (v.inputs st b s m r)) (λ j q. g j (s, m, r, q)))

  module _ (f : ℕ → Step) (k : Kind) (count : ℕ) (good : (i : ℕ) → i < count → step_answer (f i) pool (contents f (at_first k) i) ≡ Done) (x y : Slots) (long : (s : ℕ) → s ≤ 3 → length (slot_of x s) ≡ 4 * w * h) (long' : (s : ℕ) → s ≤ 3 → length (slot_of y s) ≡ 4 * w * h) where
    each_legal : (i : ℕ) → i < count → Legal (f i) pool
    each_legal i l = legal (f i) pool (contents f (at_first k) i) (good i l)

    abbrev Same : ℕ → Type 0
    Same j = get_or (slot_of x 0) j 0 ≡ get_or (slot_of y 0) j 0

    pub isolated : (n : ℕ) → n ≤ count → (s b : ℕ) → b < 4 * w * h → Held s (contents f (at_first k) n) → ((j : ℕ) → Reach R f n s b j → Same j)
        → get_or (slot_of (acts pool w h f n x) s) b 0 ≡ get_or (slot_of (acts pool w h f n y) s) b 0
    unfolding acts Reach contents
    isolated zero l s b i t g = let e = held_first k s t in rw e (g b (e, refl))
    isolated (suc n) l s b i t g = go (isolated n (omega arith)) (eqb s (f n).output) refl
      where
        X : Slots
        X = acts pool w h f n x

        Y : Slots
        Y = acts pool w h f n y

        C : Contents
        C = contents f (at_first k) n

        G : Legal (f n) pool
        G = each_legal n l

        before : (i : ℕ) → i < n → Legal (f i) pool
        before i q = each_legal i (omega arith)

        go : ((s b : ℕ) → b < 4 * w * h → Held s C → ((j : ℕ) → Reach R f n s b j → Same j) → get_or (slot_of X s) b 0 ≡ get_or (slot_of Y s) b 0)
            → (q : Bool) → eqb s (f n).output ≡ q → get_or (slot_of (act pool w h (f n) X) s) b 0 ≡ get_or (slot_of (act pool w h (f n) Y) s) b 0
        go ih true z =
            let e = eqb-true s (f n).output z in
            ap (λ (v : List ℕ). get_or v b 0) (slot_written pool w h (f n) X G s e)
            ∙ (step_isolated (f n) C (good n l) (slot_of X) (slot_of Y) (λ a q. acts_length pool w h f x long n before a (G.low a q)) (λ a q. acts_length pool w h f y long' n before a (G.low a q)) (Reach R f n) Same ih b i (λ j q. g j (rw z q))
            ∙ sym (ap (λ (v : List ℕ). get_or v b 0) (slot_written pool w h (f n) Y G s e)))
        go ih false z =
            let e = eqb-false s (f n).output z in
            ap (λ (v : List ℕ). get_or v b 0) (slot_kept pool w h (f n) X G s e)
            ∙ (ih s b i (held_other s (f n).output (work_makes (f n).work C) C G.first e t) (λ j q. g j (rw z q))
            ∙ sym (ap (λ (v : List ℕ). get_or v b 0) (slot_kept pool w h (f n) Y G s e)))

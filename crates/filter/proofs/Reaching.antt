-- A slot reaches the source exactly when each of its bytes does: every byte of a step's output reads some byte of each input.
use Prim.Native.Nat.{ℕ, zero, suc, ◌-◌, ◌*◌, ◌<◌}
use mathlib.Core.Path.{◌≡◌, refl, sym, ap, ◌∙◌}
use mathlib.Core.Bool.{Bool, true, false, cond, false≢true}
use mathlib.Core.List.{List}
use mathlib.Core.Logic.{◌⊎◌, inl, inr, ⊎_elim}
use native.Mathlib.Omega.{arith}
use borrow.Author.Tests.{eq-eqb, eqb-true}
use lib.Dec.{eqb}
use lib.Ieee.{Float}
use Rattle.recipe.specs.declared.Inputs.{Inputs}
use Rattle.recipe.specs.declared.Inputs.TheVariants.{None, One, Two}
use Rattle.recipe.specs.declared.Step.{Step}
use Rattle.recipe.specs.Contents.{inputs_of}
use Rattle.filter.specs.Reach.{StepReads, Through, Reach}
use Rattle.filter.specs.Inner.Engine.{IsInput, any_input, each_once, origins_of, reaches_at}
use Rattle.filter.proofs.Works.{Covers}

any_some : (i : Inputs) (R : ℕ → Bool) → any_input i R ≡ true → (s : ℕ) × IsInput i s × (R s ≡ true)
any_some None R e = absurd (false≢true e)
any_some (One a) R e = (a, refl, e)
any_some (Two a b) R e = go (R a) refl
  where
    go : (t : Bool) → R a ≡ t → (s : ℕ) × IsInput (Two a b) s × (R s ≡ true)
    go true z = (a, inl refl, z)
    go false z = (b, inr refl, rw z at e)

some_any : (i : Inputs) (R : ℕ → Bool) (s : ℕ) → IsInput i s → R s ≡ true → any_input i R ≡ true
some_any None R s i e = absurd i
some_any (One a) R s i e = rw i at e
some_any (Two a b) R s (inl i) e = let z : R a ≡ true = rw i at e in rw z
some_any (Two a b) R s (inr i) e = go (R a)
  where
    go : (t : Bool) → cond t true (R b) ≡ true
    go true = refl
    go false = rw i at e

-- ---- the slots from which a slot is made
once_some : (i : Inputs) (s : ℕ) → IsInput (each_once i) s → IsInput i s
once_some None s q = q
once_some (One a) s q = q
once_some (Two a b) s q = go (eqb a b) q
  where
    go : (t : Bool) → IsInput (cond t (One a) (Two a b)) s → (s ≡ a) ⊎ (s ≡ b)
    go true q = inl q
    go false q = q

some_once : (i : Inputs) (s : ℕ) → IsInput i s → IsInput (each_once i) s
some_once None s q = q
some_once (One a) s q = q
some_once (Two a b) s q = go (eqb a b) refl
  where
    go : (t : Bool) → eqb a b ≡ t → IsInput (cond t (One a) (Two a b)) s
    go true z = ⊎_elim (λ e. e) (λ e. e ∙ sym (eqb-true a b z)) q
    go false z = q

module _ (pool : List Float) (w h : ℕ) (R : StepReads) (v : Covers pool w h R) (f : ℕ → Step) where
  pub reaches_some : (n s : ℕ) → reaches_at f n s ≡ true → (b : ℕ) → b < 4 * w * h → (j : ℕ) × Reach R f n s b j
  unfolding reaches_at origins_of Reach
  reaches_some zero s e b l = (b, (eqb-true s 0 e, refl))
  reaches_some (suc n) s e b l = go (reaches_some n) (eqb s (f n).output) refl
    where
      go : ((s : ℕ) → reaches_at f n s ≡ true → (b : ℕ) → b < 4 * w * h → (j : ℕ) × Reach R f n s b j) → (t : Bool) → eqb s (f n).output ≡ t → (j : ℕ) × Reach R f (suc n) s b j
      go ih true z =
          let i = any_some (each_once (inputs_of (f n).work)) (reaches_at f n) (rw z at e) in
          let r = v.something (f n) b l i.0 (once_some (inputs_of (f n).work) i.0 i.1) in
          let q = ih i.0 i.2 r.0 (v.inside (f n) b l i.0 r.0 r.1) in
          (q.0, rw z (i.0, r.0, r.1, q.1))
      go ih false z = let q = ih s (rw z at e) b l in (q.0, rw z q.1)

  pub some_reaches : (n s b j : ℕ) → Reach R f n s b j → reaches_at f n s ≡ true
  unfolding reaches_at origins_of Reach
  some_reaches zero s b j r = eq-eqb s 0 r.0
  some_reaches (suc n) s b j r = go (some_reaches n) (eqb s (f n).output) refl
    where
      go : ((s b j : ℕ) → Reach R f n s b j → reaches_at f n s ≡ true) → (t : Bool) → eqb s (f n).output ≡ t → reaches_at f (suc n) s ≡ true
      go ih true z =
          let q : Through (R (f n)) (Reach R f n) b j = rw z at r in
          let i = v.inputs (f n) b q.0 q.1 q.2 in
          rw z (some_any (each_once (inputs_of (f n).work)) (reaches_at f n) q.0 (some_once (inputs_of (f n).work) q.0 i) (ih q.0 q.1 j q.3))
      go ih false z = rw z (ih s b j (rw z at r))

-- as the code goes back from n, where the slot is made from i
pub reaches_back : (f : ℕ → Step) (n s : ℕ) {b : Bool} {i i' : Inputs} → (n ≡ 0 → ⊥) → i ≡ origins_of (f (n - 1)) s → i ≡ i' → b ≡ any_input i' (reaches_at f (n - 1)) → b ≡ reaches_at f n s
unfolding reaches_at
reaches_back f n s h d d' g =
    let z : n ≡ suc (n - 1) = omega arith in
    g ∙ (ap (λ x. any_input x (reaches_at f (n - 1))) (sym d' ∙ d) ∙ sym (ap (λ m. reaches_at f m s) z))

-- What the runner's proofs use of the primitives: one more primitive adds a line to each law.
use Prim.Native.Nat.{ℕ, ◌*◌, ◌<◌}
use mathlib.Core.Path.{◌≡◌, refl, ap, ◌∙◌}
use mathlib.Core.List.{List}
use mathlib.Core.Logic.{inl, inr, ⊎_elim}
use lib.ListN.{length, get_or}
use lib.Ieee.{Float}
use Rattle.sheet.specs.Answer.{Done}
use Rattle.sheet.specs.Size.{Sized}
use Rattle.morphology.specs.Morphology.{morphed}
use Rattle.morphology.proofs.Reading as morphology
use Rattle.composite.specs.Arithmetic.{factors}
use Rattle.composite.proofs.Reading as composite
use Rattle.color_matrix.specs.ColorMatrix.{recoloured}
use Rattle.color_matrix.proofs.Reading as color-matrix
use Rattle.component_transfer.specs.ComponentTransfer.{transfer, transferred}
use Rattle.component_transfer.proofs.Reading as component-transfer
use Rattle.convolve_matrix.specs.ConvolveMatrix.{convolved}
use Rattle.convolve_matrix.proofs.Reading as convolve-matrix
use Rattle.displacement_map.specs.DisplacementMap.{displaced}
use Rattle.displacement_map.proofs.Reading as displacement-map
use Rattle.turbulence.proofs.Reading as turbulence
use Rattle.lighting.specs.Lighting.{lit, diffuse, specular}
use Rattle.lighting.proofs.Reading as lighting
use Rattle.recipe.specs.declared.Work.{Work}
use Rattle.recipe.specs.declared.Work.TheVariants.{Morphology, Arithmetic, ColorMatrix, ComponentTransfer, ConvolveMatrix, DisplacementMap, Turbulence, DiffuseLighting, SpecularLighting}
use Rattle.recipe.specs.declared.Step.{Step}
use Rattle.recipe.specs.Contents.{inputs_of}
use Rattle.recipe.specs.Tests.{work_answer}
use Rattle.filter.specs.Slots.{made}
use Rattle.filter.specs.Reach.{Reads, StepReads, step_reads}
use Rattle.filter.specs.Inner.Engine.{IsInput}

-- each sheet that the work reads has the sizes' length
abbrev pub Long : Work → ℕ → ℕ → (ℕ → List ℕ) → Type 0
Long k w h get = (s : ℕ) → IsInput (inputs_of k) s → length (get s) ≡ 4 * w * h

module _ (pool : List Float) (w h : ℕ) where
  -- what is made depends on the inputs alone
  pub made_same : (k : Work) (get get' : ℕ → List ℕ) → ((s : ℕ) → IsInput (inputs_of k) s → get s ≡ get' s) → made k pool w h get ≡ made k pool w h get'
  made_same (Morphology a op rx ry) get get' e = ap (morphed op rx ry w h) (e a refl)
  made_same (Arithmetic a b k1 k2 k3 k4) get get' e = cc (e a (inl refl), e b (inr refl))
  made_same (ColorMatrix a m) get get' e = ap (recoloured m pool) (e a refl)
  made_same (ComponentTransfer i r g b a) get get' e = ap (transferred (transfer r pool) (transfer g pool) (transfer b pool) (transfer a pool)) (e i refl)
  made_same (ConvolveMatrix a m) get get' e = ap (convolved m pool w h) (e a refl)
  made_same (DisplacementMap a b xs ys sx sy scale) get get' e = ap (λ (s : List ℕ). displaced xs ys sx sy scale w h s (get b)) (e a (inl refl)) ∙ ap (displaced xs ys sx sy scale w h (get' a)) (e b (inr refl))
  made_same (Turbulence t) get get' e = refl
  made_same (DiffuseLighting a light scale constant color) get get' e = ap (lit (diffuse light scale constant color) w h) (e a refl)
  made_same (SpecularLighting a light scale constant exponent color) get get' e = ap (lit (specular light scale constant color) w h) (e a refl)

  -- sheets of the sizes' length give one
  pub length_made : (k : Work) (get : ℕ → List ℕ) → Long k w h get → length (made k pool w h get) ≡ 4 * w * h
  length_made (Morphology a op rx ry) get l = morphology.length_morphed op rx ry w h (get a)
  length_made (Arithmetic a b k1 k2 k3 k4) get l = composite.length_composed (factors k1 k2 k3 k4) (get a) (get b) ∙ l a (inl refl)
  length_made (ColorMatrix a m) get l = color-matrix.length_recoloured m pool (get a) ∙ l a refl
  length_made (ComponentTransfer i r g b a) get l = component-transfer.length_transferred _ _ _ _ (get i) ∙ l i refl
  length_made (ConvolveMatrix a m) get l = convolve-matrix.length_convolved m _ w h (get a)
  length_made (DisplacementMap a b xs ys sx sy scale) get l = displacement-map.length_displaced xs ys sx sy scale w h (get a) (get b)
  length_made (Turbulence t) get l = turbulence.length_drawn t w h
  length_made (DiffuseLighting a light scale constant color) get l = lighting.length_lit (diffuse light scale constant color) w h (get a)
  length_made (SpecularLighting a light scale constant exponent color) get l = lighting.length_lit (specular light scale constant color) w h (get a)

  -- only inputs are read
  reads_inputs : (k : Work) (b s m : ℕ) → Reads k pool w h b s m → IsInput (inputs_of k) s
  reads_inputs (Morphology a op rx ry) b s m r = r.0
  reads_inputs (Arithmetic a c k1 k2 k3 k4) b s m r = r.0
  reads_inputs (ColorMatrix a c) b s m r = r.0
  reads_inputs (ComponentTransfer i red green blue alpha) b s m r = r.0
  reads_inputs (ConvolveMatrix a c) b s m r = r.0
  reads_inputs (DisplacementMap a c xs ys sx sy scale) b s m r = ⊎_elim (λ q. inl q.0) (λ q. inr q.0) r
  reads_inputs (Turbulence t) b s m r = absurd r
  reads_inputs (DiffuseLighting a light scale constant color) b s m r = r.0
  reads_inputs (SpecularLighting a light scale constant exponent color) b s m r = r.0

  module _ (sized : Sized w h) (b : ℕ) (l : b < 4 * w * h) where
    p : 0 < w
    p = sized.wide

    -- slots that agree on what byte b reads give the same byte b, in a step whose parameters pass the tests
    reads_all : (k : Work) → work_answer k pool ≡ Done → (get get' : ℕ → List ℕ) → Long k w h get → Long k w h get' → ((s m : ℕ) → Reads k pool w h b s m → get_or (get s) m 0 ≡ get_or (get' s) m 0) → get_or (made k pool w h get) b 0 ≡ get_or (made k pool w h get') b 0
    reads_all (Morphology a op rx ry) t get get' q q' e = morphology.reads_all op rx ry w h (get a) (get' a) b p l (λ m r. e a m (refl, r))
    reads_all (Arithmetic a c k1 k2 k3 k4) t get get' q q' e = composite.reads_all (factors k1 k2 k3 k4) (4 * w * h) (get a) (get c) (get' a) (get' c) b (q a (inl refl)) (q' a (inl refl)) l (λ m r. e a m (inl refl, r)) (λ m r. e c m (inr refl, r))
    reads_all (ColorMatrix a c) t get get' q q' e = color-matrix.reads_all c pool (4 * w * h) (get a) (get' a) b (q a refl) (q' a refl) l (λ m r. e a m (refl, r))
    reads_all (ComponentTransfer i red green blue alpha) t get get' q q' e = component-transfer.reads_all _ _ _ _ (4 * w * h) (get i) (get' i) b (q i refl) (q' i refl) l (λ m r. e i m (refl, r))
    reads_all (ConvolveMatrix a c) t get get' q q' e = convolve-matrix.reads_all c _ w h (get a) (get' a) b l (λ m r. e a m (refl, r))
    reads_all (DisplacementMap a c xs ys sx sy scale) t get get' q q' e = displacement-map.reads_all xs ys sx sy scale w h sized t (get a) (get' a) (get c) (get' c) b l (λ m r. e a m (inl (refl, r))) (λ m r. e c m (inr (refl, r)))
    reads_all (Turbulence t) passed get get' q q' e = refl
    reads_all (DiffuseLighting a light scale constant color) t get get' q q' e = lighting.reads_all (diffuse light scale constant color) w h (get a) (get' a) b p l (λ m r. e a m (refl, r))
    reads_all (SpecularLighting a light scale constant exponent color) t get get' q q' e = lighting.reads_all (specular light scale constant color) w h (get a) (get' a) b p l (λ m r. e a m (refl, r))

    reads_inside : (k : Work) (s m : ℕ) → Reads k pool w h b s m → m < 4 * w * h
    reads_inside (Morphology a op rx ry) s m r = morphology.reads_inside rx ry w h b p l m r.1
    reads_inside (Arithmetic a c k1 k2 k3 k4) s m r = composite.reads_inside w h b m l r.1
    reads_inside (ColorMatrix a c) s m r = color-matrix.reads_inside w h b m l r.1
    reads_inside (ComponentTransfer i red green blue alpha) s m r = component-transfer.reads_inside w h b m l r.1
    reads_inside (ConvolveMatrix a c) s m r = convolve-matrix.reads_inside c w h b l m r.1
    reads_inside (DisplacementMap a c xs ys sx sy scale) s m r = ⊎_elim (λ q. displacement-map.reads_inside sx sy scale w h b p l m q.1) (λ q. displacement-map.reads_inside_map xs ys w h b l m q.1) r
    reads_inside (Turbulence t) s m r = absurd r
    reads_inside (DiffuseLighting a light scale constant color) s m r = lighting.reads_inside w h b p l m r.1
    reads_inside (SpecularLighting a light scale constant exponent color) s m r = lighting.reads_inside w h b p l m r.1

    -- some byte of each input is read
    reads_something : (k : Work) (s : ℕ) → IsInput (inputs_of k) s → (m : ℕ) × Reads k pool w h b s m
    reads_something (Morphology a op rx ry) s i = (b, (i, morphology.reads_something rx ry w h b p l))
    reads_something (Arithmetic a c k1 k2 k3 k4) s i = (b, (i, composite.reads_something b))
    reads_something (ColorMatrix a c) s i = (b, (i, color-matrix.reads_something b))
    reads_something (ComponentTransfer a red green blue alpha) s i = (b, (i, component-transfer.reads_something b))
    reads_something (ConvolveMatrix a c) s i = (_, (i, convolve-matrix.reads_something c w h b))
    reads_something (DisplacementMap a c xs ys sx sy scale) s i =
        ⊎_elim (λ e. (b, inl (e, displacement-map.reads_something sx sy scale w h b p l)))
        (λ e. let z = displacement-map.reads_something_map xs ys w h b l in (z.0, inr (e, z.1))) i
    reads_something (Turbulence t) s i = absurd i
    reads_something (DiffuseLighting a light scale constant color) s i = (_, (i, lighting.reads_something w h b p l))
    reads_something (SpecularLighting a light scale constant exponent color) s i = (_, (i, lighting.reads_something w h b p l))

-- ---- what the theorems ask of reads R, whichever they are
pub record Covers (pool : List Float) (w h : ℕ) (R : StepReads) : Type 0 where
  pub inputs : (st : Step) (b s m : ℕ) → R st b s m → IsInput (inputs_of st.work) s
  pub inside : (st : Step) (b : ℕ) → b < 4 * w * h → (s m : ℕ) → R st b s m → m < 4 * w * h
  pub everything : (st : Step) → work_answer st.work pool ≡ Done → (b : ℕ) → b < 4 * w * h → (get get' : ℕ → List ℕ) → Long st.work w h get → Long st.work w h get'
      → ((s m : ℕ) → R st b s m → get_or (get s) m 0 ≡ get_or (get' s) m 0) → get_or (made st.work pool w h get) b 0 ≡ get_or (made st.work pool w h get') b 0
  pub something : (st : Step) (b : ℕ) → b < 4 * w * h → (s : ℕ) → IsInput (inputs_of st.work) s → (m : ℕ) × R st b s m

-- the reads of a run's steps cover what they use
pub reads_cover : (pool : List Float) (w h : ℕ) → Sized w h → Covers pool w h (step_reads pool w h)
reads_cover pool w h sized = record {
  inputs = λ st b s m r. reads_inputs pool w h st.work b s m r;
  inside = λ st b l s m r. reads_inside pool w h sized b l st.work s m r;
  everything = λ st t b l get get' q q' e. reads_all pool w h sized b l st.work t get get' q q' e;
  something = λ st b l s i. reads_something pool w h sized b l st.work s i;
}

-- What a byte of a slot reaches: the source bytes that it depends on, worked out backwards.
use Rattle.std.specs.Prelude.{ℕ, zero, suc, ◌-◌, ◌*◌, ◌<◌, ◌≡◌, Bool, true, false, cond, List, ◌⊎◌, eqb, Float, Result, Ok, Err}
use Rattle.sheet.specs.Answer.{Done}
use Rattle.sheet.specs.Contract.{was}
use Rattle.morphology.specs.Reads as morphology
use Rattle.composite.specs.Reads as composite
use Rattle.color_matrix.specs.Reads as color-matrix
use Rattle.component_transfer.specs.Reads as component-transfer
use Rattle.convolve_matrix.specs.Reads as convolve-matrix
use Rattle.displacement_map.specs.Reads as displacement-map
use Rattle.turbulence.specs.Reads as turbulence
use Rattle.lighting.specs.Reads as lighting
use Rattle.recipe.specs.declared.Work.{Work}
use Rattle.recipe.specs.declared.Work.TheVariants.{Morphology, Arithmetic, ColorMatrix, ComponentTransfer, ConvolveMatrix, DisplacementMap, Turbulence, DiffuseLighting, SpecularLighting}
use Rattle.recipe.specs.declared.Step.{Step}
use Rattle.recipe.specs.declared.Recipe.{Recipe}
use Rattle.recipe.specs.declared.Refused.{Refused}
use Rattle.recipe.specs.Tests.{RunAnswer, step_of}
use Rattle.filter.specs.Call.{Call, answer}

-- byte k of what is worked out reads byte j of slot s; one more primitive adds a line
abbrev pub Reads : Work → List Float → ℕ → ℕ → ℕ → ℕ → ℕ → Type 0
Reads (Morphology a op rx ry) pool w h k s j = (s ≡ a) × morphology.Reads rx ry w h k j
Reads (Arithmetic a b k1 k2 k3 k4) pool w h k s j = ((s ≡ a) ⊎ (s ≡ b)) × composite.Reads k j
Reads (ColorMatrix a m) pool w h k s j = (s ≡ a) × color-matrix.Reads k j
Reads (ComponentTransfer i r g b a) pool w h k s j = (s ≡ i) × component-transfer.Reads k j
Reads (ConvolveMatrix a m) pool w h k s j = (s ≡ a) × convolve-matrix.Reads m w h k j
Reads (DisplacementMap a b xs ys sx sy scale) pool w h k s j = ((s ≡ a) × displacement-map.ReadsPicture sx sy scale w h k j) ⊎ ((s ≡ b) × displacement-map.ReadsMap xs ys k j)
Reads (Turbulence t) pool w h k s j = turbulence.Reads k j
Reads (DiffuseLighting a light scale constant color) pool w h k s j = (s ≡ a) × lighting.Reads w h k j
Reads (SpecularLighting a light scale constant exponent color) pool w h k s j = (s ≡ a) × lighting.Reads w h k j

-- ---- over any reads: R st k s j says that byte k of what step st writes reads byte j of slot s
abbrev pub StepReads : Type 1
StepReads = Step → ℕ → ℕ → ℕ → Type 0

-- byte k reads a byte that reaches source byte j, where Q s m j says that byte m of slot s does
abbrev pub Through : (ℕ → ℕ → ℕ → Type 0) → (ℕ → ℕ → ℕ → Type 0) → ℕ → ℕ → Type 0
Through R Q k j = (s : ℕ) × (m : ℕ) × R k s m × Q s m j

-- byte k of slot s after the first n steps reaches source byte j
unfoldable pub Reach : StepReads → (ℕ → Step) → ℕ → ℕ → ℕ → ℕ → Type 0
Reach R f zero s k j = (s ≡ 0) × (k ≡ j)
Reach R f (suc n) s k j = cond (eqb s (f n).output) (Through (R (f n)) (Reach R f n) k j) (Reach R f n s k j)

-- ---- of a run
-- what the steps of a run read
abbrev pub step_reads : List Float → ℕ → ℕ → StepReads
step_reads pool w h st = Reads st.work pool w h

-- the slot of a recipe's result: the last step's output
abbrev pub result : Recipe → ℕ
result r = (step_of r (r.count - 1)).output

-- byte k of slot s after a run reaches source byte j
abbrev pub Reached : Call → ℕ → ℕ → ℕ → Type 0
Reached c = Reach (step_reads (was c.pool) c.size.width c.size.height) (step_of c.recipe) c.recipe.count

-- ---- the yes or no on slot 0
-- the run is answered Done, and a byte of its result reaches a source byte
pub record Reaching (c : Call) : Type 0 where
  pub accepted : answer c ≡ Done
  pub byte : ℕ
  pub inside : byte < 4 * c.size.width * c.size.height
  pub origin : ℕ
  pub way : Reached c (result c.recipe) byte origin

-- what `reaches` answers: a run's own answer, and on Done the yes or no; after a refusal it is no
abbrev pub answer_of : Result Bool Refused → RunAnswer
answer_of (Ok b) = Done
answer_of (Err r) = Err r

abbrev pub yes_of : Result Bool Refused → Bool
yes_of (Ok b) = b
yes_of (Err r) = false

-- the contract of `reaches`: refused as a run is, and yes exactly where a byte of the result reaches the source
pub record ReachesExactly (c : Call) (r : Result Bool Refused) : Type 0 where
  pub answered : answer_of r ≡ answer c
  pub only : yes_of r ≡ true → Reaching c
  pub always : Reaching c → yes_of r ≡ true

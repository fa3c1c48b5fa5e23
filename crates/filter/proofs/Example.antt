-- docs/LAW.md's example of reach: dilated by 1 by 0 twice, at width 5, alpha of pixel 0 reaches the source alphas of the pixels 0, 1 and 2, and nothing else.
use Prim.Native.Nat.{ℕ, zero, suc, ◌+◌, ◌*◌, ◌%◌, ◌<◌}
use mathlib.Core.Path.{◌≡◌, refl, ◌∙◌}
use mathlib.Core.List.{[]}
use mathlib.Core.Logic.{◌⊎◌, inl, inr}
use native.Mathlib.Omega.{arith}
use lib.Ieee.{of_bits}
use Rattle.floats.specs.Constants.{c0, c1}
use Rattle.floats.specs.Round.{round_to}
use Rattle.sheet.specs.Pixel.{column, row, byte_at}
use Rattle.morphology.specs.declared.operator.MorphologyOperator.TheVariants.{Dilate}
use Rattle.morphology.specs.Morphology.{radius}
use Rattle.morphology.specs.Reads as morphology
use Rattle.recipe.specs.declared.Work.TheVariants.{Morphology}
use Rattle.recipe.specs.declared.Step.{Step}
use Rattle.filter.specs.Reach.{Reach, step_reads}

-- dilate by radius 1 by 0 from slot 0 to slot 1, then from slot 1 to slot 2
abbrev pub twice : ℕ → Step
twice zero = record { work = Morphology 0 Dilate c1 c0; output = 1 }
twice (suc i) = record { work = Morphology 1 Dilate c1 c0; output = 2 }

-- byte 3 of slot 2, alpha of pixel 0, reaches source byte j, at width 5 and height 1
abbrev pub Reaches : ℕ → Type 0
Reaches j = Reach (step_reads [] 5 1) twice 2 2 3 j

one_column : radius c1 5 ≡ 1
unfolding radius round_to of_bits
one_column = refl

no_row : radius c0 1 ≡ 0
unfolding radius round_to of_bits
no_row = refl

-- what alpha of pixel x reads: the alphas within one column
reads_alpha : (x u : ℕ) → x < 5 → u < 5 → x < u + 2 → u < x + 2 → morphology.Reads c1 c0 5 1 (4 * x + 3) (4 * u + 3)
reads_alpha x u p q l m =
    let a : column 5 (4 * x + 3) ≡ x = omega arith in
    let b : row 5 (4 * x + 3) ≡ 0 = omega arith in
    let e = one_column in
    let f = no_row in
    record {
      x = u;
      y = 0;
      near_column = record { low = omega arith; high = omega arith; inside = q };
      near_row = record { low = omega arith; high = omega arith; inside = omega arith };
      is = omega arith;
    }

alpha_reads : (x j : ℕ) → x < 5 → morphology.Reads c1 c0 5 1 (4 * x + 3) j → (u : ℕ) × (u < 5) × (x < u + 2) × (u < x + 2) × (j ≡ 4 * u + 3)
alpha_reads x j p r =
    let a : column 5 (4 * x + 3) ≡ x = omega arith in
    let e = one_column in
    let f = no_row in
    let near = r.near_column in
    let high = r.near_row.inside in
    let low = near.low in
    let top = near.high in
    let at = r.is in
    let zero_row : r.y ≡ 0 = omega arith in
    let place : byte_at 5 r.x r.y ((4 * x + 3) % 4) ≡ 4 * r.x + 3 = rw zero_row (omega arith) in
    (r.x, near.inside, omega arith, omega arith, at ∙ place)

-- byte m of slot 1, after the first step, reaches what it reads
first_step : (s m j : ℕ) → s ≡ 1 → Reach (step_reads [] 5 1) twice 1 s m j → morphology.Reads c1 c0 5 1 m j
unfolding Reach
first_step s m j e r = let q = rw e at r in rw q.3.1 at q.2.1

by_column : (m j u : ℕ) → m ≡ 4 * u + 3 → morphology.Reads c1 c0 5 1 m j → morphology.Reads c1 c0 5 1 (4 * u + 3) j
by_column m j u e r = rw e at r

pub reaches_exactly : (j : ℕ) → Reaches j → (j ≡ 3) ⊎ (j ≡ 7) ⊎ (j ≡ 11)
unfolding Reach
reaches_exactly j r =
    let near = alpha_reads 0 r.1 (omega arith) r.2.1 in
    let past = alpha_reads near.0 j near.1 (by_column r.1 j near.0 near.4 (first_step r.0 r.1 j r.2.0 r.3)) in
    let far : past.0 < 3 = let a = near.3 in let b = past.3 in omega arith in
    go past.0 far past.4
  where
    go : (u : ℕ) → u < 3 → j ≡ 4 * u + 3 → (j ≡ 3) ⊎ (j ≡ 7) ⊎ (j ≡ 11)
    go zero h e = inl e
    go (suc zero) h e = inr (inl e)
    go (suc (suc zero)) h e = inr (inr e)
    go (suc (suc (suc u))) h e = absurd (omega arith)

pub reaches_each : (Reaches 3) × (Reaches 7) × (Reaches 11)
unfolding Reach
reaches_each = (
  (1, 3, (refl, reads_alpha 0 0 (omega arith) (omega arith) (omega arith) (omega arith)), (0, 3, (refl, reads_alpha 0 0 (omega arith) (omega arith) (omega arith) (omega arith)), (refl, refl))),
  (1, 3, (refl, reads_alpha 0 0 (omega arith) (omega arith) (omega arith) (omega arith)), (0, 7, (refl, reads_alpha 0 1 (omega arith) (omega arith) (omega arith) (omega arith)), (refl, refl))),
  (1, 7, (refl, reads_alpha 0 1 (omega arith) (omega arith) (omega arith) (omega arith)), (0, 11, (refl, reads_alpha 1 2 (omega arith) (omega arith) (omega arith) (omega arith)), (refl, refl))),
)

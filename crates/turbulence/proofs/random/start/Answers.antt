-- `start` meets its contract: each number on the way from a seed to a positive one is an i32.
use mathlib.Core.Path.{◌≡◌, refl, sym, ◌∙◌}
use mathlib.Core.Bool.{true, false}
use native.Mathlib.Omega.{arith}
use lib.IntN.{ℤ, pos}
use lib.Signed.{le_z}
use mir.Syntax.{w32}
use mir.Val.{SFits, to_z, of_z}
use mir.ValLaws.{to_z-of_z}
use Rattle.turbulence.specs.Random.{start_of}
use Rattle.turbulence.proofs.Seeds.{quotient_fits, turned_fits, raised, raised_fits, raised_is, positive_low, positive_high, Positive, above_zero}
use Rattle.turbulence.proofs.random.start.Goals.{then-seed-le0, else-seed-le0}
use Rattle.turbulence.proofs.random.start.Goals as goal

-- the seed comes back from its pattern, and either branch gives the positive number
module _ (seed : ℤ) (f : SFits w32 seed) where
  seed_back : to_z w32 (of_z w32 seed) ≡ seed
  seed_back = to_z-of_z w32 seed f

  above : Positive seed
  above = above_zero seed f

  low : {v : ℤ} → v ≡ to_z w32 (of_z w32 (raised (to_z w32 (of_z w32 seed)) 2147483646)) → le_z (to_z w32 (of_z w32 seed)) (pos 0) ≡ true → v ≡ pos above.size
  low {v} e h =
      let l = rw seed_back at h in
      e ∙ rw seed_back (raised_is seed f l _ (omega arith) (omega arith) ∙ sym (positive_low seed l)) ∙ above.is

  high : {v : ℤ} → v ≡ to_z w32 (of_z w32 seed) → le_z (to_z w32 (of_z w32 seed)) (pos 0) ≡ false → v ≡ pos above.size
  high {v} e h = e ∙ seed_back ∙ sym (positive_high seed (rw seed_back at h)) ∙ above.is

pub nonzero_rem-positive : goal.nonzero_rem-positive
nonzero_rem-positive c = rw (seed_back c.args.seed c.ranges.seed) (omega arith, quotient_fits c.args.seed _ c.ranges.seed)

pub overflow_sub-positive : goal.overflow_sub-positive
overflow_sub-positive c =
    let back = seed_back c.args.seed c.ranges.seed in
    rw back (turned_fits c.args.seed c.ranges.seed (rw back at c.if-seed-le0.true) _ (omega arith) (omega arith))

pub overflow_add-positive : goal.overflow_add-positive
overflow_add-positive c =
    let back = seed_back c.args.seed c.ranges.seed in
    rw back (raised_fits c.args.seed c.ranges.seed (rw back at c.if-seed-le0.true) _ (omega arith) (omega arith))

pub overflow_cast-positive : goal.overflow_cast-positive
overflow_cast-positive c =
    let p = above c.args.seed c.ranges.seed in
    let value : to_z w32 c.if-seed-le0.positive-bits ≡ pos p.size =
    elim c.if-seed-le0.branch [ then-seed-le0 w ↦ low c.args.seed c.ranges.seed w.positive-is w.if-seed-le0.true | else-seed-le0 w ↦ high c.args.seed c.ranges.seed w.positive-is w.if-seed-le0.false ] in
    let h = p.high in
    rw value (tt, record { fits = omega arith })

pub returns : goal.returns
unfolding start_of
returns c =
    let p = above c.args.seed c.ranges.seed in
    let value : to_z w32 c.if-seed-le0.positive-bits ≡ pos p.size =
    elim c.if-seed-le0.branch [ then-seed-le0 w ↦ low c.args.seed c.ranges.seed w.positive-is w.if-seed-le0.true | else-seed-le0 w ↦ high c.args.seed c.ranges.seed w.positive-is w.if-seed-le0.false ] in
    let l = p.low in
    let least = c.min.ensures in
    rw (least, value, p.is) (refl, record { low = omega arith; high = omega arith })

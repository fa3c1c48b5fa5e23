-- Before step i the slots are as the first i steps leave them.
use borrow.Author.Rules.{rules}
use mathlib.Core.Path.{◌≡◌, sym, ap, ◌∙◌}
use native.Mathlib.Omega.{arith}
use Rattle.sheet.specs.Tabulate.{zeros}
use Rattle.filter.specs.Slots.{act}
use Rattle.filter.proofs.Acting.{fits_of, acts_none, acts_more}
use Rattle.filter.proofs.step.do_steps.Goals as goal

pub loop-i-init : goal.loop-i-init
loop-i-init c = (search rules, sym (acts_none _ _ _ _ _))

pub do_step-requires : goal.do_step-requires
do_step-requires c =
    record { fits = fits_of c.requires.fits.sized (c.requires.fits.slot 0 (omega arith)) (c.loop-i.invariant.0.one ∙ c.requires.fits.slot 1 (omega arith)) (c.loop-i.invariant.0.two ∙ c.requires.fits.slot 2 (omega arith)) (c.loop-i.invariant.0.three ∙ c.requires.fits.slot 3 (omega arith)) (c.loop-i.invariant.0.spare ∙ c.requires.fits.spare); legal = c.requires.by_index _ c.loop-i-test.true }

pub loop-i-preserved : goal.loop-i-preserved
loop-i-preserved c =
    (search rules, c.do_step.ensures ∙ (ap (act _ _ _ _) c.loop-i.invariant.1 ∙ sym (acts_more _ _ _ _ _ _)))

pub returns : goal.returns
returns c =
    let z : c.loop-i.i ≡ c.args.recipe.count = omega arith in
    record { s3_value = cc (c.loop-i.invariant.1, z); scratch_value = c.clear.ensures ∙ ap zeros c.loop-i.invariant.0.spare }

-- By how many slots are read, from what is picked.
use Prim.Native.Nat.{zero-le}
use mathlib.Core.Path.{refl, sym, ◌∙◌}
use mathlib.Core.Logic.{inl, inr}
use Rattle.filter.proofs.Acting.{all_fit}
use Rattle.filter.proofs.step.work_into.Goals as goal

pub work_on-requires : goal.work_on-requires
work_on-requires c =
    record { scratch_value = all_fit c.requires.fits c.requires.out_len 0 0 zero-le zero-le refl refl; pool_value = c.requires.pool_value }

pub work_on-requires-in-One : goal.work_on-requires-in-One
work_on-requires-in-One c =
    let low = rw (sym c.inputs.ensures ∙ c.in-One.is) at c.requires.by_index in
    record { scratch_value = all_fit c.requires.fits c.requires.out_len _ _ (low _ refl) (low _ refl) c.of-src.ensures c.of-src.ensures; pool_value = c.requires.pool_value }

pub work_on-requires-in-Two : goal.work_on-requires-in-Two
work_on-requires-in-Two c =
    let low = rw (sym c.inputs.ensures ∙ c.in-Two.is) at c.requires.by_index in
    record { scratch_value = all_fit c.requires.fits c.requires.out_len _ _ (low _ (inl refl)) (low _ (inr refl)) c.of.ensures c.of-in-Two.ensures; pool_value = c.requires.pool_value }

pub returns-in-None : goal.returns-in-None
returns-in-None c =
    let is = sym c.inputs.ensures ∙ c.in-None.is in
    c.work_on.ensures _ (rw is tt)

pub returns-in-One : goal.returns-in-One
returns-in-One c =
    let is = sym c.inputs.ensures ∙ c.in-One.is in
    c.work_on-in-One.ensures _ (rw is (sym c.of-src.ensures))

pub returns-in-Two : goal.returns-in-Two
returns-in-Two c =
    let is = sym c.inputs.ensures ∙ c.in-Two.is in
    c.work_on-in-Two.ensures _ (rw is (sym c.of.ensures, sym c.of-in-Two.ensures))

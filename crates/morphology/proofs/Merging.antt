-- One byte more is merged: the bytes merged so far keep, and the byte at hand was untouched.
use Prim.Native.Nat.{ℕ, ◌+◌, ◌<◌}
use mathlib.Core.Path.{◌≡◌, refl, ap, ◌∙◌}
use mathlib.Core.List.{List}
use native.Mathlib.Nat.{le_refl, not-suc-le-zero}
use native.Mathlib.Omega.{arith}
use borrow.Author.Count.{below_more}
use lib.ListN.{length, get_or, set, length-set}
use lib.Seq.{get_or-set_same, get_or-set_other}
use Rattle.morphology.specs.declared.operator.MorphologyOperator.{MorphologyOperator}
use Rattle.morphology.specs.Extremum.{more_extreme}
use Rattle.morphology.specs.Inner.Lines.{Merged}

module _ (op : MorphologyOperator) (from : List ℕ) (other : ℕ) (into : List ℕ) (at : ℕ) where
  pub merged_none : Merged op from other into at 0 into
  merged_none = record { same = refl; inside = λ i h. absurd (not-suc-le-zero h); before = λ k h. refl; after = λ k h. refl }

  pub merged_more : {i v : ℕ} {d : List ℕ} → Merged op from other into at i d → at + i < length d → v ≡ more_extreme op (get_or d (at + i) 0) (get_or from (other + i) 0) → Merged op from other into at (i + 1) (set d (at + i) v)
  merged_more {i} {v} {d} m h e = record {
    same = length-set d (at + i) v ∙ m.same;
    inside = below_more (λ j. get_or (set d (at + i) v) (at + j) 0 ≡ more_extreme op (get_or into (at + j) 0) (get_or from (other + j) 0)) i
        (λ j l. get_or-set_other d (at + i) (at + j) v 0 (omega arith) ∙ m.inside j l)
        (get_or-set_same d (at + i) v 0 h ∙ (e ∙ ap (λ (x : ℕ). more_extreme op x (get_or from (other + i) 0)) (m.after (at + i) (le_refl (at + i)))));
    before = λ k l. get_or-set_other d (at + i) k v 0 (omega arith) ∙ m.before k l;
    after = λ k l. get_or-set_other d (at + i) k v 0 (omega arith) ∙ m.after k (omega arith);
  }

-- The laws of the channels' numbers.
use Prim.Native.Nat.{ℕ}
use mathlib.Core.Path.{◌≡◌, refl}
use mathlib.Core.Bool.{Bool, true, false, cond}
use lib.Dec.{ltb}
use Rattle.std.specs.Prelude.{Err}
use Rattle.sheet.specs.declared.Refusal.{Refusal}
use Rattle.sheet.specs.Answer.{Done, refusal}
use Rattle.nuprikhen.specs.Channels.{named_channel, named_channels}

-- both are tested in turn
module _ (x y : ℕ) where
  pub first_unnamed : {r : Refusal} → named_channel x ≡ Err r → named_channels x y ≡ Err r
  unfolding named_channel named_channels
  first_unnamed e = by (ltb 3 x) e
    where
      by : (t : Bool) {r : Refusal} → cond t (refusal 5) Done ≡ Err r → cond t (refusal 5) (cond (ltb 3 y) (refusal 5) Done) ≡ Err r
      by true e = e
      by false e = cc

  pub second_named : named_channel x ≡ Done → named_channels x y ≡ named_channel y
  unfolding named_channel named_channels
  second_named e = by (ltb 3 x) e
    where
      by : (t : Bool) → cond t (refusal 5) Done ≡ Done → cond t (refusal 5) (cond (ltb 3 y) (refusal 5) Done) ≡ cond (ltb 3 y) (refusal 5) Done
      by true e = cc
      by false e = refl

-- The channels' numbers and the numbers' channels are each other's.
use Rattle.std.proofs.Common.{◌≡◌, ℕ, zero, suc, refl}
use Rattle.std.specs.Prelude.{Ok}
use Rattle.displacement_map.specs.declared.ColorChannel.{ColorChannel}
use Rattle.displacement_map.specs.declared.ColorChannel.TheVariants.{R, G, B, A}
use Rattle.displacement_map.specs.DisplacementMap.{channel_number}
use Rattle.displacement_map.specs.Numbered.{channel_by}

pub channel_again : (channel : ColorChannel) → channel_by (channel_number channel) ≡ Ok channel
channel_again R = refl
channel_again G = refl
channel_again B = refl
channel_again A = refl

pub number_again : (n : ℕ) (channel : ColorChannel) → channel_by n ≡ Ok channel → n ≡ channel_number channel
number_again zero channel e = cc
number_again (suc zero) channel e = cc
number_again (suc (suc zero)) channel e = cc
number_again (suc (suc (suc zero))) channel e = cc
number_again (suc (suc (suc (suc n)))) channel e = cc

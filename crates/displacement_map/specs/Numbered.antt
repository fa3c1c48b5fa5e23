-- The channel that a number names.
use Rattle.std.specs.Prelude.{ℕ, zero, suc, Result, Ok, Err}
use Rattle.displacement_map.specs.declared.ColorChannel.{ColorChannel}
use Rattle.displacement_map.specs.declared.ColorChannel.TheVariants.{R, G, B, A}
use Rattle.displacement_map.specs.declared.UnknownChannel.{UnknownChannel}

-- the channel with this number; past the last, the number is refused
abbrev pub channel_by : ℕ → Result ColorChannel UnknownChannel
channel_by zero = Ok R
channel_by (suc zero) = Ok G
channel_by (suc (suc zero)) = Ok B
channel_by (suc (suc (suc zero))) = Ok A
channel_by (suc (suc (suc (suc n)))) = Err (record { 0 = suc (suc (suc (suc n))) })

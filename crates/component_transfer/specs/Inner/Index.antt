-- The word of the contract of `index`: how the Rust's floats choose an entry. No public contract cites it.
use Rattle.std.specs.Prelude.{ℕ, min, Float}
use Rattle.floats.specs.Floor.{floor_to}
use Rattle.floats.specs.Operators.{◌⊗◌}
use Rattle.component_transfer.specs.Functions.{as_float}

-- `min((c * (n as f32)).floor() as usize, most)`
abbrev pub index : Float → ℕ → ℕ → ℕ
index c n most = min (floor_to 64 (c ⊗ as_float n)) most

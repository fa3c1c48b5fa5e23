-- The edge mode that a number names, and the number of each.
use Rattle.std.specs.Prelude.{ℕ, zero, suc, Result, Ok, Err}
use Rattle.convolve_matrix.specs.declared.edge.EdgeMode.{EdgeMode}
use Rattle.convolve_matrix.specs.declared.edge.EdgeMode.TheVariants.{None, Duplicate, Wrap}
use Rattle.convolve_matrix.specs.declared.edge.UnknownEdgeMode.{UnknownEdgeMode}

abbrev pub edge_mode_number : EdgeMode → ℕ
edge_mode_number None = 0
edge_mode_number Duplicate = 1
edge_mode_number Wrap = 2

-- the edge mode with this number; past the last, the number is refused
abbrev pub edge_mode_by : ℕ → Result EdgeMode UnknownEdgeMode
edge_mode_by zero = Ok None
edge_mode_by (suc zero) = Ok Duplicate
edge_mode_by (suc (suc zero)) = Ok Wrap
edge_mode_by (suc (suc (suc n))) = Err (record { 0 = suc (suc (suc n)) })

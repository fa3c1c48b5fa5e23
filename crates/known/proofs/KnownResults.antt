-- The definitions, computed at every row of the table, give what the document says. Assumes nothing.
use mathlib.Core.Path.{◌≡◌, refl}
use mathlib.Core.List.{map}
use Rattle.known.specs.Known.{Row, table}

pub known_results : map (λ (row : Row). row.0) table ≡ map (λ (row : Row). row.1) table
unfolding table
known_results = refl

-- The kind that a number names.
use Rattle.std.specs.Prelude.{ℕ, zero, suc, Result, Ok, Err}
use Rattle.recipe.specs.declared.Kind.{Kind}
use Rattle.recipe.specs.declared.Kind.TheVariants.{Straight, Premultiplied}
use Rattle.recipe.specs.declared.UnknownKind.{UnknownKind}

-- the kind with this number; past the last, the number is refused
abbrev pub kind_by : ℕ → Result Kind UnknownKind
kind_by zero = Ok Straight
kind_by (suc zero) = Ok Premultiplied
kind_by (suc (suc n)) = Err (record { 0 = suc (suc n) })

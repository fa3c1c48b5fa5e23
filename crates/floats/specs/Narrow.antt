-- An `f64` as an `f32`.
use Rattle.std.specs.Prelude.{◌*◌, Float}
use Rattle.std.specs.Float.{nan, inf, fin, Format}
use Rattle.std.specs.Float.Ieee.{up, down, round}

-- Rust's `x as f32`, for binary32: the value of the format f that is nearest to x, a tie to the even one, and an infinity where that overflows
unfoldable pub narrow_to : Format → Float → Float
unfolding round
narrow_to f nan = nan
narrow_to f (inf s) = inf s
narrow_to f (fin s m e) = round f s (m * up e) (down e)

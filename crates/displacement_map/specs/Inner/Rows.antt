-- What a picture's pixels become along two axes.
use Rattle.std.specs.Prelude.{ℕ, ◌%◌, List, ℤ}
use Rattle.sheet.specs.Pixel.{column, row}
use Rattle.displacement_map.specs.declared.axis.Axis.{Axis}
use Rattle.displacement_map.specs.declared.landing.Picture.{Picture}
use Rattle.displacement_map.specs.DisplacementMap.{target_of, map_at, picture_at}

-- the column that column i reads at byte k's pixel of the map, or the row
abbrev pub target_along : Axis → List ℕ → (i k : ℕ) → ℤ
target_along axis map i k = target_of axis.s axis.scale i (map_at axis.selector map k)

-- byte k
abbrev pub moved_at : (columns rows : Axis) → Picture → List ℕ → ℕ → ℕ
moved_at columns rows picture map k =
    picture_at picture.src.now picture.width picture.height (target_along columns map (column picture.width k) k) (target_along rows map (row picture.width k) k) (k % 4)

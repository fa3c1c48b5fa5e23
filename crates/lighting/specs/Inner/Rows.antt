-- Words of the passes' contracts: work space of one place a column of a row, and the bytes of the row.
use Rattle.std.specs.Prelude.{ℕ, ◌+◌, ◌*◌, ◌/◌, ◌%◌, ◌<◌, ◌≡◌, List, length, get_or, Float}
use Rattle.std.specs.Float.{nan}
use Rattle.sheet.specs.Inner.Strips.{Changed, Worked}
use Rattle.surface.specs.declared.strip.Row.{Row}
use Rattle.surface.specs.declared.strip.Strip.{Strip}
use Rattle.surface.specs.Inner.Rows.{alpha_in, normal_in, normal_of}
use Rattle.lighting.specs.declared.light.LightSource.TheVariants.{Point}
use Rattle.lighting.specs.declared.light.Ray.{Ray}
use Rattle.lighting.specs.declared.light.Rays.{Rays}
use Rattle.lighting.specs.declared.light.Rays.TheVariants.{Same, To}
use Rattle.lighting.specs.declared.pixel.Lighting.{Lighting}
use Rattle.lighting.specs.declared.vector.Vector3.{Vector3}
use Rattle.lighting.specs.Vectors as Vectors
use Rattle.lighting.specs.Light.{light_vector, ray_of, normal_vector}
use Rattle.lighting.specs.Lighting.{lit_channel, lit_at}
use Rattle.lighting.specs.Inner.Rays.{from_surface, unit_by, ray_vector, ray_by}

-- each number stands in R to its place and to what stood there
pub record Filled (R : ℕ → Float → Float → Type 0) (old new : List Float) : Type 0 where
  pub same : length new ≡ length old
  pub each : (i : ℕ) → i < length old → R i (get_or old i nan) (get_or new i nan)

-- each number is the length of a vector that stands in V to its place
pub record Measured (V : ℕ → Vector3 → Type 0) (old new : List Float) : Type 0 where
  pub same : length new ≡ length old
  pub each : (i : ℕ) → i < length old → (v : Vector3) × V i v × (get_or new i nan ≡ Vectors.length v)

-- a row's columns are those of its sheet, and so are the lengths of their normal vectors
pub record Sloped (scale : Float) (row : Row) (sums above below : List ℕ) (lengths : List Float) : Type 0 where
  pub normals : (i : ℕ) → i < row.strip.count → normal_in row.strip sums above below i row.y ≡ normal_of row i
  pub same : length lengths ≡ row.strip.count
  pub each : (i : ℕ) → i < row.strip.count → get_or lengths i nan ≡ Vectors.length (normal_vector scale (normal_of row i))

-- ---- rays
-- a distant light's are one at every pixel; a point's go to its place
abbrev pub RaysOf : Lighting → Rays → Type 0
RaysOf l (Same v n) = (a x y : ℕ) → ray_by l.reflection v n ≡ ray_of l.reflection (light_vector l.light l.scale a x y)
RaysOf l (To p) = l.light ≡ Point p.x p.y p.z

-- ---- rays from a row's column i
-- the vector to a point, not divided by its length yet
abbrev pub from_row : Vector3 → (scale : Float) → Row → ℕ → Vector3
from_row point scale row i = from_surface point scale (alpha_in row (row.strip.left + i) row.y) (row.strip.left + i) row.y

-- the vector of the ray to a point, where the distances are given
abbrev pub point_vector : Lighting → Vector3 → Row → (spans : List Float) → ℕ → Vector3
point_vector l point row spans i = ray_vector l.reflection (unit_by (from_row point l.scale row i) (get_or spans i nan))

-- that ray, where the vectors' lengths are given too
abbrev pub point_ray : Lighting → Vector3 → Row → (spans sizes : List Float) → ℕ → Ray
point_ray l point row spans sizes i = ray_by l.reflection (point_vector l point row spans i) (get_or sizes i nan)

-- the ray by the definition
abbrev pub ray_at : Lighting → Row → ℕ → Ray
ray_at l row i = ray_of l.reflection (light_vector l.light l.scale (alpha_in row (row.strip.left + i) row.y) (row.strip.left + i) row.y)

-- ---- bytes
-- d has the length of a strip's sheet
abbrev pub IsSheetOf : Strip → List ℕ → Type 0
IsSheetOf strip d = length d ≡ 4 * strip.width * strip.height

-- where a row's bytes begin
abbrev pub start_of : Row → ℕ
start_of row = 4 * (row.y * row.strip.width + row.strip.left)

-- they became those of pixels that are lit by factors
abbrev pub LitRow : Lighting → (factors : List Float) → Row → (d d' : List ℕ) → Type 0
LitRow l factors row d d' = Changed 0 (λ j. lit_channel l.reflection l.color (get_or factors (j / 4) nan) (j % 4)) (start_of row) (4 * row.strip.count) d d'

-- they became the result's
abbrev pub RowDone : Lighting → Row → (d d' : List ℕ) → Type 0
RowDone l row d d' =
    Changed 0 (λ j. lit_at l row.strip.width row.strip.height row.src.now (start_of row + j)) (start_of row) (4 * row.strip.count) d d'

-- the result stands in the columns before a strip, and in the strip's rows above y
abbrev pub StripDone : Lighting → Strip → List ℕ → ℕ → List ℕ → Type 0
StripDone l strip s y d = Worked (lit_at l strip.width strip.height s) strip.width strip.left strip.count y d

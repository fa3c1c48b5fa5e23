-- What diffuse and specular lighting answer, and what byte k of their result is.
use Rattle.std.specs.Prelude.{ℕ, zero, suc, ◌*◌, ◌%◌, max, Bool, true, false, cond, List, [], ◌∷◌, length, eqb, ltb, pos, Float}
use Rattle.std.specs.Float.{binary32}
use Rattle.std.specs.Float.Ieee.{of_bits, of_int, to_unsigned}
use Rattle.std.specs.Float.Ieee.Scale.{finite}
use Rattle.floats.specs.Constants.{c0, half, c1, c255, c65536, m65536}
use Rattle.floats.specs.Operators.{◌⊕◌, ◌⊗◌}
use Rattle.floats.specs.Order.{bound, within}
use Rattle.floats.specs.Unit.{unit_triple}
use Rattle.sheet.specs.Answer.{Answer, Done, refusal, and_then}
use Rattle.sheet.specs.Size.{sheets_answer}
use Rattle.sheet.specs.Tabulate.{tabulate, zeros}
use Rattle.sheet.specs.Pixel.{column, row}
use Rattle.surface.specs.Surface.{alpha_at, normal_at}
use Rattle.lighting.specs.declared.light.LightSource.{LightSource}
use Rattle.lighting.specs.declared.light.LightSource.TheVariants.{Distant, Point}
use Rattle.lighting.specs.declared.light.Reflection.{Reflection}
use Rattle.lighting.specs.declared.light.Reflection.TheVariants.{Diffuse, Specular}
use Rattle.lighting.specs.declared.pixel.Color.{Color}
use Rattle.lighting.specs.declared.pixel.Lighting.{Lighting}
use Rattle.lighting.specs.Light.{light_vector, ray_of, light_factor}

-- ---- tests 4 and 5
abbrev pub all3 : (Float → Bool) → Float → Float → Float → Bool
all3 p x y z = cond (p x) (cond (p y) (p z) false) false

abbrev pub finite_light : LightSource → Bool
finite_light (Distant x y z) = all3 finite x y z
finite_light (Point x y z) = all3 finite x y z

-- within -65,536..=65,536
abbrev pub in_reach : Float → Bool
in_reach x = within m65536 x c65536

-- a direction's exact sum of squares is about 1; a point's place is within the range of numbers
abbrev pub light_in_range : LightSource → Bool
light_in_range (Distant x y z) = unit_triple x y z
light_in_range (Point x y z) = all3 in_reach x y z

abbrev pub c256 : Float
c256 = of_bits binary32 0x4380_0000

-- -256.0
abbrev pub m256 : Float
m256 = of_bits binary32 0xc380_0000

-- of the light, the surface scale and the constant
unfoldable pub finite_numbers : LightSource → (scale constant : Float) → Bool
finite_numbers light scale constant = cond (finite_light light) (cond (finite scale) (finite constant) false) false

unfoldable pub numbers_in_range : LightSource → (scale constant : Float) → Bool
numbers_in_range light scale constant = cond (light_in_range light) (cond (within m256 scale c256) (within c0 constant c256) false) false

-- test 4, then 5
abbrev pub tested : Bool → Bool → Answer
tested finites inRanges = cond finites (cond inRanges Done (refusal 5)) (refusal 4)

unfoldable pub diffuse_answer : LightSource → (scale constant : Float) → Answer
diffuse_answer light scale constant = tested (finite_numbers light scale constant) (numbers_in_range light scale constant)

-- the exponent's only value in range is 1
unfoldable pub specular_answer : LightSource → (scale constant exponent : Float) → Answer
specular_answer light scale constant exponent =
    tested (cond (finite_numbers light scale constant) (finite exponent) false)
    (cond (numbers_in_range light scale constant) (within c1 exponent c1) false)

-- the whole answer, for a sheet and a destination, where the numbers' tests answer t
unfoldable pub answer : Answer → ℕ → ℕ → List ℕ → List ℕ → Answer
answer t w h src dest = and_then (sheets_answer w h (length src ∷ length dest ∷ [])) t

-- ---- the bytes
-- a colour's channel c by a factor, before it is brought to 0 to 255
abbrev pub lit_value : ℕ → Float → Float
lit_value c factor = of_int binary32 (pos c) ⊗ factor

-- resvg's `(f32_bound(0.0, c as f32 * factor, 255.0) + 0.5) as u8`
unfoldable pub lit_colour : ℕ → Float → ℕ
lit_colour c factor = to_unsigned 8 (bound c0 (lit_value c factor) c255 ⊕ half)

-- channel c of the light's colour
abbrev pub colour_of : Color → ℕ → ℕ
colour_of color zero = color.red
colour_of color (suc zero) = color.green
colour_of color (suc (suc c)) = color.blue

-- diffuse light is opaque; specular light is as opaque as its largest colour
abbrev pub lit_alpha : Reflection → (r g b : ℕ) → ℕ
lit_alpha Diffuse r g b = 255
lit_alpha Specular r g b = max (max r g) b

-- channel c of a pixel that is lit by a factor
abbrev pub lit_channel : Reflection → Color → Float → ℕ → ℕ
lit_channel reflection color factor c =
    cond (eqb c 3) (lit_alpha reflection (lit_colour color.red factor) (lit_colour color.green factor) (lit_colour color.blue factor))
    (lit_colour (colour_of color c) factor)

-- the factor of the pixel in column x and row y
unfoldable pub factor_at : Lighting → (w h : ℕ) → List ℕ → (x y : ℕ) → Float
factor_at l w h s x y =
    light_factor l.scale l.constant (normal_at w h s x y)
    (ray_of l.reflection (light_vector l.light l.scale (alpha_at w s x y) x y))

-- byte k
abbrev pub lit_at : Lighting → (w h : ℕ) → List ℕ → ℕ → ℕ
lit_at l w h s k = lit_channel l.reflection l.color (factor_at l w h s (column w k) (row w k)) (k % 4)

-- the sheet is narrower or lower than three pixels
unfoldable pub small : ℕ → ℕ → Bool
small w h = cond (ltb w 3) true (ltb h 3)

-- the result; a small sheet is only cleared
unfoldable pub lit : Lighting → (w h : ℕ) → List ℕ → List ℕ
lit l w h s = cond (small w h) (zeros (4 * w * h)) (tabulate (4 * w * h) (lit_at l w h s))

abbrev pub diffuse : LightSource → (scale constant : Float) → Color → Lighting
diffuse light scale constant color = record { reflection = Diffuse; light = light; scale = scale; constant = constant; color = color }

abbrev pub specular : LightSource → (scale constant : Float) → Color → Lighting
specular light scale constant color = record { reflection = Specular; light = light; scale = scale; constant = constant; color = color }

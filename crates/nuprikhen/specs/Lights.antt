-- What a light's number names across the C boundary, and the contracts of the two lightings.
use Rattle.std.specs.Prelude.{ℕ, zero, suc, Float}
use Rattle.floats.specs.Constants.{c0}
use Rattle.sheet.specs.Answer.{Answer}
use Rattle.sheet.specs.Contract.{Lent, was}
use Rattle.lighting.specs.declared.light.LightSource.{LightSource}
use Rattle.lighting.specs.declared.light.LightSource.TheVariants.{Distant, Point}
use Rattle.lighting.specs.declared.pixel.Color.{Color}
use Rattle.lighting.specs.declared.pixel.Lighting.{Lighting}
use Rattle.lighting.specs.Lighting.{diffuse_answer, specular_answer, answer, lit, diffuse, specular}
use Rattle.nuprikhen.specs.declared.nup_answer.{nup_answer}
use Rattle.nuprikhen.specs.Called.{Called}

-- 0 is Distant, 1 is Point; any other is a direction of no length, which is out of range whatever x, y and z are
abbrev pub light_of : ℕ → Float → Float → Float → LightSource
light_of zero x y z = Distant x y z
light_of (suc zero) x y z = Point x y z
light_of (suc (suc n)) x y z = Distant c0 c0 c0

abbrev pub color_of : (red green blue : ℕ) → Color
color_of red green blue = record { red = red; green = green; blue = blue }

-- the contract of a lighting whose numbers' tests answer `tested`: what the call told, and the destination
abbrev pub Lit : Answer → Lighting → ℕ → ℕ → Lent ℕ → nup_answer → Lent ℕ → Type 0
Lit tested lighting w h src r dest = Called (answer tested w h (was src) (was dest)) r (lit lighting w h (was src)) dest

abbrev pub DiffuseLit : LightSource → (scale constant : Float) → Color → ℕ → ℕ → Lent ℕ → nup_answer → Lent ℕ → Type 0
DiffuseLit light scale constant color = Lit (diffuse_answer light scale constant) (diffuse light scale constant color)

abbrev pub SpecularLit : LightSource → (scale constant exponent : Float) → Color → ℕ → ℕ → Lent ℕ → nup_answer → Lent ℕ → Type 0
SpecularLit light scale constant exponent color = Lit (specular_answer light scale constant exponent) (specular light scale constant color)

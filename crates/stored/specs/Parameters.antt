-- What the numbers of choices name, the last case for those that name none, and values of several words.
use Rattle.std.specs.Prelude.{ℕ, ◌+◌, ◌%◌, Bool, cond, List, ◌==◌}
use Rattle.convolve_matrix.specs.declared.edge.EdgeMode.{EdgeMode}
use Rattle.convolve_matrix.specs.declared.edge.EdgeMode.TheVariants.{None, Duplicate, Wrap}
use Rattle.displacement_map.specs.declared.ColorChannel.{ColorChannel}
use Rattle.displacement_map.specs.declared.ColorChannel.TheVariants.{R, G, B, A}
use Rattle.lighting.specs.declared.light.LightSource.{LightSource}
use Rattle.lighting.specs.declared.light.LightSource.TheVariants.{Distant, Point}
use Rattle.lighting.specs.declared.pixel.Color.{Color}
use Rattle.turbulence.specs.declared.Turbulence.{Turbulence}
use Rattle.stored.specs.Words.{word, float, double, signed}

abbrev pub edge_of : ℕ → EdgeMode
edge_of n = cond (n == 0) None (cond (n == 1) Duplicate Wrap)

abbrev pub channel_of : ℕ → ColorChannel
channel_of n = cond (n == 0) R (cond (n == 1) G (cond (n == 2) B A))

abbrev pub light_at : List ℕ → (at i : ℕ) → LightSource
light_at s at i =
    cond (word s at i == 0) (Distant (float s at (i + 1)) (float s at (i + 2)) (float s at (i + 3)))
    (Point (float s at (i + 1)) (float s at (i + 2)) (float s at (i + 3)))

abbrev pub color_at : List ℕ → (at i : ℕ) → Color
color_at s at i = record {
  red = word s at i % 256;
  green = word s at (i + 1) % 256;
  blue = word s at (i + 2) % 256;
}

abbrev pub turbulence_at : List ℕ → (at i : ℕ) → Bool → Turbulence
turbulence_at s at i fractal = record {
  offset_x = double s at i;
  offset_y = double s at (i + 2);
  sx = double s at (i + 4);
  sy = double s at (i + 6);
  base_frequency_x = double s at (i + 8);
  base_frequency_y = double s at (i + 10);
  num_octaves = word s at (i + 12);
  seed = signed (word s at (i + 13));
  fractal_noise = fractal;
}

-- What turbulence's numbers name across the C boundary.
use Rattle.std.specs.Prelude.{ℕ, cond, List, ℤ, eqb, ltb, Float}
use Rattle.sheet.specs.Answer.{Answer, Done, refusal, and_then}
use Rattle.sheet.specs.Contract.{Lent, was}
use Rattle.turbulence.specs.declared.Turbulence.{Turbulence}
use Rattle.turbulence.specs.Turbulence.{answer, drawn}
use Rattle.nuprikhen.specs.declared.nup_answer.{nup_answer}
use Rattle.nuprikhen.specs.Called.{Called}

-- kind 1 is fractal noise
abbrev pub turbulence_of : (ox oy sx sy fx fy : Float) → ℕ → ℤ → ℕ → Turbulence
turbulence_of ox oy sx sy fx fy octaves seed kind = record {
  offset_x = ox;
  offset_y = oy;
  sx = sx;
  sy = sy;
  base_frequency_x = fx;
  base_frequency_y = fy;
  num_octaves = octaves;
  seed = seed;
  fractal_noise = eqb kind 1;
}

-- no stitching, and the kind 0 or 1
unfoldable pub named_kind : ℕ → ℕ → Answer
named_kind stitch kind = cond (ltb 0 stitch) (refusal 5) (cond (ltb 1 kind) (refusal 5) Done)

-- the numbers are tested with the ranges, the last of the tests
unfoldable pub noise_answer : ℕ → ℕ → Turbulence → ℕ → ℕ → List ℕ → Answer
noise_answer stitch kind t w h dest = and_then (answer t w h dest) (named_kind stitch kind)

-- the contract: what the call told, and the sheet
abbrev pub Drawn : (stitch kind : ℕ) → Turbulence → ℕ → ℕ → nup_answer → Lent ℕ → Type 0
Drawn stitch kind t w h r dest = Called (noise_answer stitch kind t w h (was dest)) r (drawn t w h) dest

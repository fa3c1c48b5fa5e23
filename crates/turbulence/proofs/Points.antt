-- A noise of equal parts is the definition's.
use Prim.Native.Nat.{ℕ}
use mathlib.Core.Path.{◌≡◌}
use mathlib.Core.List.{List}
use lib.Ieee.{Float}
use Rattle.turbulence.specs.declared.noise.Point.{Point}
use Rattle.turbulence.specs.Noise.{lerp, along, noise}

-- the noise, line by line
pub noise_is : (gx gy : List Float) (c : ℕ) (p : Point) {u v a u' v' b n : Float} → u ≡ along gx gy c p.b00 p.rx0 p.ry0 → v ≡ along gx gy c p.b10 p.rx1 p.ry0 → a ≡ lerp p.sx u v
    → u' ≡ along gx gy c p.b01 p.rx0 p.ry1 → v' ≡ along gx gy c p.b11 p.rx1 p.ry1 → b ≡ lerp p.sx u' v' → n ≡ lerp p.sy a b → n ≡ noise gx gy c p
unfolding noise
noise_is gx gy c p {u} {v} {a} {u'} {v'} {b} {n} e f g e' f' g' h = rw (h, g, e, f, g', e', f')

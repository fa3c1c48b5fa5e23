-- A product of two floats that are not negative, by any fractions that they equal, in any format.
use Rattle.std.proofs.Common.{◌≡◌, ℕ, ◌*◌, ◌<◌, true, false, ap, ◌∙◌, true≢false, mul-pos}
use native.Mathlib.Nat.{mul-mul-mul_comm}
use lib.Ieee.{Float, nan, inf, fin, Format, up, down, round, mul}
use lib.Ieee.Fits.{down_pos}
use lib.Ieee.Exact.{HasValue}
use lib.Ieee.Scale.{round_same}

pub times_at : (f : Format) (x y : Float) (a c b d : ℕ) → 0 < c → 0 < d → HasValue x false a c → HasValue y false b d → mul f x y ≡ round f false (a * b) (c * d)
unfolding mul
times_at f nan y a c b d C D h k = absurd h
times_at f (inf s) y a c b d C D h k = absurd h
times_at f (fin s m e) nan a c b d C D h k = absurd k
times_at f (fin s m e) (inf t) a c b d C D h k = absurd k
times_at f (fin true m e) (fin t n g) a c b d C D h k = absurd (true≢false h.0)
times_at f (fin false m e) (fin true n g) a c b d C D h k = absurd (true≢false k.0)
times_at f (fin false m e) (fin false n g) a c b d C D h k =
    round_same f false (m * up e * (n * up g)) (down e * down g) (a * b) (c * d) (mul-pos (down_pos e) (down_pos g)) (mul-pos C D)
    (mul-mul-mul_comm (m * up e) (n * up g) c d ∙ ap (λ (z : ℕ). z * (n * up g * d)) h.1 ∙ ap (λ (z : ℕ). a * down e * z) k.1 ∙ mul-mul-mul_comm a (down e) b (down g))

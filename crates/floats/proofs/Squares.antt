-- The square of a finite `f32` has 48 digits at most, so that it is exact in `f64`. Assumes nothing.
use Rattle.std.proofs.Common.{◌≡◌, ℕ, ◌+◌, ◌*◌, ◌^◌, ◌<◌, ◌≤◌, Bool, true, false, T, sym, refl, ap, ◌∙◌, subst, true≢false, le_of_eq, lt_of_lt_of_le, lt_of_le_of_lt, le_of_lt, mul-le-mul_right, mul_assoc, mul-le-mul, mul-le-mul_left, mul-lt-mul_of_pos_right, mul-pos, lit≤, pow_pos, pow_mono, pow-add}
use native.Mathlib.Nat.{mul-mul-mul_comm}
use lib.Pow.{pow-lt}
use lib.Ieee.{Float, nan, inf, fin, Format, binary32, binary64, up, down, round, mul, fits}
use lib.Ieee.Fits.{down_pos}
use lib.Ieee.Exact.{HasValue, round_exact}
use lib.Ieee.Scale.{round_same, finite}
use Rattle.floats.specs.Unit.{in_units, squared}
use Rattle.floats.specs.Inner.Steps.{plain, ExactSquare}
use Rattle.floats.proofs.Fractions.{revalue}
use Rattle.floats.proofs.Units.{Finite, in_units_lem}
use Rattle.floats.proofs.SumTests.{units_are}

crossed : (X E a c : ℕ) → X * c ≡ a * E → X * X * (c * c) ≡ a * a * (E * E)
crossed X E a c h = mul-mul-mul_comm X X c c ∙ ap (λ (z : ℕ). z * z) h ∙ mul-mul-mul_comm a E a E

square_at : (f : Format) (x : Float) (s : Bool) (a c : ℕ) → 0 < c → HasValue x s a c → mul f x x ≡ round f false (a * a) (c * c)
unfolding mul
square_at f nan s a c C h = absurd h
square_at f (inf t) s a c C h = absurd h
square_at f (fin true m e) s a c C h = round_same f false (m * up e * (m * up e)) (down e * down e) (a * a) (c * c) (mul-pos (down_pos e) (down_pos e)) (mul-pos C C) (crossed (m * up e) (down e) a c h.1)
square_at f (fin false m e) s a c C h = round_same f false (m * up e * (m * up e)) (down e * down e) (a * a) (c * c) (mul-pos (down_pos e) (down_pos e)) (mul-pos C C) (crossed (m * up e) (down e) a c h.1)

sign : Float → Bool
sign nan = false
sign (inf s) = s
sign (fin s m e) = s

finite_sign : (x : Float) → T (finite x) → Finite x (sign x)
unfolding sign
finite_sign nan h = absurd h
finite_sign (inf s) h = absurd h
finite_sign (fin s m e) h = refl

pub plain_of : (x : Float) (A c : ℕ) → HasValue x false A c → T (plain x)
plain_of nan A c h = absurd h
plain_of (inf s) A c h = absurd h
plain_of (fin true m e) A c h = absurd (true≢false h.0)
plain_of (fin false m e) A c h = tt

pub squares : (x : Float) → T (fits binary32 x) → T (finite x) → ExactSquare (squared x) (mul binary64 x x)
squares x F h =
    let u = in_units_lem binary32 (sign x) x F (finite_sign x h) in
    let X = u.q * 2 ^ u.j in
    let is : mul binary64 x x ≡ round binary64 false (X * X) (2 ^ 298) = square_at binary64 x (sign x) X (2 ^ 149) (pow_pos 149) u.value in
    let joined : X * X ≡ u.q * u.q * 2 ^ (u.j + u.j) = mul-mul-mul_comm u.q (2 ^ u.j) u.q (2 ^ u.j) ∙ ap (λ (z : ℕ). u.q * u.q * z) (sym (pow-add 2 u.j u.j)) in
    let up_by : u.q * u.q * 2 ^ (u.j + u.j + 776) ≡ X * X * 2 ^ 776 = ap (λ (z : ℕ). u.q * u.q * z) (pow-add 2 (u.j + u.j) 776) ∙ sym (mul_assoc (u.q * u.q) (2 ^ (u.j + u.j)) (2 ^ 776)) ∙ ap (λ (z : ℕ). z * 2 ^ 776) (sym joined) in
    let few : u.q * u.q < 2 ^ 48 = below u.q u.small in
    let most : X * X ≤ 2 ^ 554 = mul-le-mul (le_of_lt u.fine) (le_of_lt u.fine) in
    let val : HasValue (mul binary64 x x) false (X * X) (2 ^ 298) =
    subst (λ (z : Float). HasValue z false (X * X) (2 ^ 298)) (sym is)
    (round_exact binary64 false (X * X) (2 ^ 298) (u.q * u.q) (u.j + u.j + 776) (pow_pos 298) (lt_of_lt_of_le few (pow_mono {i = 48} {j = 53} (lit≤ tt)))
    (lt_of_le_of_lt (le_of_eq up_by) (lt_of_le_of_lt (mul-le-mul_right (2 ^ 776) most) (pow-lt {i = 1330} {j = 2098} (lit≤ tt))))
    (sym (mul_assoc (X * X) (2 ^ 776) (2 ^ 298)) ∙ ap (λ (z : ℕ). z * 2 ^ 298) (sym up_by))) in
    let val' : HasValue (mul binary64 x x) false (X * X * 2 ^ 776) (2 ^ 1074) = revalue (mul binary64 x x) false (X * X) (2 ^ 298) (X * X * 2 ^ 776) (2 ^ 1074) (pow_pos 298) (mul_assoc (X * X) (2 ^ 776) (2 ^ 298)) val in
    let at : in_units binary64 (mul binary64 x x) ≡ X * X * 2 ^ 776 = units_are binary64 (mul binary64 x x) false (X * X * 2 ^ 776) val' in
    let own : in_units binary32 x ≡ X = units_are binary32 x (sign x) X u.value in
    record {
      digits = record { flat = plain_of (mul binary64 x x) (X * X) (2 ^ 298) val; q = u.q * u.q; j = u.j + u.j + 776; few = few; at = at ∙ sym up_by };
      is = at ∙ ap (λ (z : ℕ). z * z * 2 ^ 776) (sym own);
    }
  where
    below : (q : ℕ) → q < 2 ^ 24 → q * q < 2 ^ 48
    below q h = lt_of_le_of_lt (mul-le-mul_left q (le_of_lt h)) (mul-lt-mul_of_pos_right h (pow_pos 24))

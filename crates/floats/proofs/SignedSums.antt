-- A sum by the signs of its parts and any fractions that they equal, in any format. Assumes nothing.
use Rattle.std.proofs.Common.{◌≡◌, ℕ, ◌+◌, ◌-◌, ◌*◌, ◌<◌, Bool, ◌&&◌, ltb, sym, ap, ◌∙◌, le_of_eq, lt_of_lt_of_le, lt_of_le_of_lt, add-mul, lt_of_mul-lt-mul_right, mul-lt-mul_of_pos_right, mul-pos, ltb→lt, lt→ltb}
use lib.Ieee.{Float, nan, inf, fin, Format, up, down, round, sum, add}
use lib.Ieee.Fits.{down_pos}
use lib.Ieee.Exact.{HasValue}
use lib.Ieee.Scale.{round_same}
use Rattle.floats.proofs.Tests.{same_test, sub_mul}
use Rattle.floats.proofs.Fractions.{left, right}

sum_same : (f : Format) (s t : Bool) (a b c a' b' c' : ℕ) → 0 < c → 0 < c' → a * c' ≡ a' * c → b * c' ≡ b' * c → sum f s a t b c ≡ sum f s a' t b' c'
unfolding sum
sum_same f s t a b c a' b' c' C C' p q =
    let ab : ltb a b ≡ ltb a' b' = same_test (ltb a b) (ltb a' b') (λ h. lt→ltb a' b' (order a b c a' b' c' C' p q (ltb→lt a b h))) (λ h. lt→ltb a b (order a' b' c' a b c C (sym p) (sym q) (ltb→lt a' b' h))) in
    let ba : ltb b a ≡ ltb b' a' = same_test (ltb b a) (ltb b' a') (λ h. lt→ltb b' a' (order b a c b' a' c' C' q p (ltb→lt b a h))) (λ h. lt→ltb b a (order b' a' c' b a c C (sym q) (sym p) (ltb→lt b' a' h))) in
    let x : round f s (a + b) c ≡ round f s (a' + b') c' = round_same f s (a + b) c (a' + b') c' C C' (add-mul a b c' ∙ ap (λ (z : ℕ). z + b * c') p ∙ ap (λ (z : ℕ). a' * c + z) q ∙ sym (add-mul a' b' c)) in
    let y : round f t (b - a) c ≡ round f t (b' - a') c' = round_same f t (b - a) c (b' - a') c' C C' (less b a b' a' q p) in
    let z : round f (s && ltb b' a') (a - b) c ≡ round f (s && ltb b' a') (a' - b') c' = round_same f (s && ltb b' a') (a - b) c (a' - b') c' C C' (less a b a' b' p q) in
    cc
  where
    order : (a b c a' b' c' : ℕ) → 0 < c' → a * c' ≡ a' * c → b * c' ≡ b' * c → a < b → a' < b'
    order a b c a' b' c' C' p q h = lt_of_mul-lt-mul_right c (lt_of_le_of_lt (le_of_eq (sym p)) (lt_of_lt_of_le (mul-lt-mul_of_pos_right h C') (le_of_eq q)))

    less : (a b a' b' : ℕ) → a * c' ≡ a' * c → b * c' ≡ b' * c → (a - b) * c' ≡ (a' - b') * c
    less a b a' b' p q = sub_mul a b c' ∙ ap (λ (z : ℕ). z - b * c') p ∙ ap (λ (z : ℕ). a' * c - z) q ∙ sym (sub_mul a' b' c)

pub add_signed : (f : Format) (x y : Float) (s t : Bool) (a c b d : ℕ) → 0 < c → 0 < d → HasValue x s a c → HasValue y t b d → add f x y ≡ sum f s (a * d) t (b * c) (c * d)
unfolding add
add_signed f nan y s t a c b d C D h k = absurd h
add_signed f (inf u) y s t a c b d C D h k = absurd h
add_signed f (fin u m e) nan s t a c b d C D h k = absurd k
add_signed f (fin u m e) (inf v) s t a c b d C D h k = absurd k
add_signed f (fin u m e) (fin v n g) s t a c b d C D h k =
    sum_same f u v (m * up e * down g) (n * up g * down e) (down e * down g) (a * d) (b * c) (c * d) (mul-pos (down_pos e) (down_pos g)) (mul-pos C D)
    (left (m * up e) (down e) (n * up g) (down g) a c b d h.1 k.1)
    (right (m * up e) (down e) (n * up g) (down g) a c b d h.1 k.1)
    ∙ ap (λ (w : Bool). sum f w (a * d) v (b * c) (c * d)) h.0
    ∙ ap (λ (w : Bool). sum f s (a * d) w (b * c) (c * d)) k.0

-- The difference of two small numbers fits an `i16`, and comes back from its pattern.
use Prim.Native.Nat.{ℕ, zero, suc, ◌+◌, ◌-◌, ◌≤◌, ◌<◌}
use mathlib.Core.Path.{◌≡◌, refl, sym, ap, ◌∙◌}
use native.Mathlib.Omega.{arith}
use native.Mathlib.Decide.{dec_lt}
use borrow.Author.Tests.{lt-ltb, le-ltb}
use lib.IntN.{ℤ, pos, negsuc, neg_ℤ, sub_ℕ, ◌-ℤ◌}
use lib.Signed.{mag}
use mir.Syntax.{w16}
use mir.Val.{to_z, of_z, SFits}
use mir.Facts.{to_z-of_z, to_z_pos}

sub_less : (a b : ℕ) → a < b → sub_ℕ a b ≡ negsuc (b - suc a)
sub_less a b h = rw (lt-ltb a b h)

sub_more : (a b : ℕ) → b ≤ a → sub_ℕ a b ≡ pos (a - b)
sub_more a b h = rw (le-ltb a b h)

neg_pos : (n m : ℕ) → n ≡ suc m → neg_ℤ (pos n) ≡ negsuc m
neg_pos n m e = rw e

-- a difference turned round
pub neg_sub : (a b : ℕ) → neg_ℤ (sub_ℕ a b) ≡ sub_ℕ b a
neg_sub a b = go (dec_lt a b) (dec_lt b a)
  where
    go : Dec (a < b) → Dec (b < a) → neg_ℤ (sub_ℕ a b) ≡ sub_ℕ b a
    go (yes p) q = ap neg_ℤ (sub_less a b p) ∙ (ap pos (let z : suc (b - suc a) ≡ b - a = omega arith in z) ∙ sym (sub_more b a (omega arith)))
    go (no p) (yes q) = ap neg_ℤ (sub_more a b (omega arith)) ∙ (neg_pos (a - b) (a - suc b) (omega arith) ∙ sym (sub_less b a q))
    go (no p) (no q) =
        let z : a ≡ b = omega arith in
        rw z (ap neg_ℤ (sub_more b b (omega arith)) ∙ (ap (λ (n : ℕ). neg_ℤ (pos n)) (let z : b - b ≡ 0 = omega arith in z) ∙ (ap pos (let z : 0 ≡ b - b = omega arith in z) ∙ sym (sub_more b b (omega arith)))))

minus_sub : (a b : ℕ) → pos b -ℤ pos a ≡ sub_ℕ b a
minus_sub zero b = ap pos (let z : b + 0 ≡ b - 0 = omega arith in z) ∙ sym (sub_more b 0 (omega arith))
minus_sub (suc a) b = refl

mag_sub : (a b : ℕ) → a ≤ 1020 → b ≤ 1020 → mag (sub_ℕ b a) < 32768
mag_sub a b p q = go (dec_lt b a)
  where
    go : Dec (b < a) → mag (sub_ℕ b a) < 32768
    go (yes l) = rw (sub_less b a l) (omega arith)
    go (no l) = let z : a ≤ b = omega arith in rw (sub_more b a z) (omega arith)

module _ (a b : ℕ) (p : a ≤ 1020) (q : b ≤ 1020) where
  minus_is : to_z w16 b -ℤ to_z w16 a ≡ sub_ℕ b a
  minus_is =
      let ea : to_z w16 a ≡ pos a = to_z_pos w16 (let z : a < 32768 = omega arith in z) in
      let eb : to_z w16 b ≡ pos b = to_z_pos w16 (let z : b < 32768 = omega arith in z) in
      ap (λ (x : ℤ). x -ℤ to_z w16 a) eb ∙ (ap (λ (x : ℤ). pos b -ℤ x) ea ∙ minus_sub a b)

  pub difference_fits : SFits w16 (to_z w16 b -ℤ to_z w16 a)
  difference_fits = record { sfits = rw minus_is (mag_sub a b p q) }

  pub difference_back : to_z w16 (of_z w16 (to_z w16 b -ℤ to_z w16 a)) ≡ neg_ℤ (sub_ℕ a b)
  difference_back = to_z-of_z difference_fits ∙ (minus_is ∙ sym (neg_sub a b))

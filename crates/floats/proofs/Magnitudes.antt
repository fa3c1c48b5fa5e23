-- |x| cut to 2 ^ 31 rounds to the size that `round_to 31` gives x, by cases of x and of its sign. Assumes nothing.
use Rattle.std.proofs.Common.{◌≡◌, ℕ, ◌+◌, ◌*◌, ◌<◌, ◌≤◌, min, true, false, not, T, pos, neg_ℤ, sym, refl, ap, arith, le→leb, ltb→lt, nltb→le}
use native.Mathlib.Nat.{min-eq_right}
use lib.Ieee.{Float, nan, inf, fin, up, down, neg, lt}
use lib.Ieee.Fits.{down_pos}
use Rattle.floats.specs.Round.{away, round_to}
use Rattle.floats.proofs.Away.{away_ge, away_zero}
use Rattle.floats.specs.Inner.Steps.{signed_by, Magnitude}
use Rattle.floats.proofs.Fractions.{nought}

-- 2 ^ 31
abbrev pub word : Float
word = fin false 1 (pos 31)

none_below : (n d : ℕ) → n * 1 < 0 * 1 * d → ⊥
none_below n d h = omega arith

-- ---- `magnitude`
under : (n d : ℕ) → n * 1 < 1 * 2147483648 * d → n ≤ 2147483648 * d
under n d h = omega arith

pub as_it_is : (x : Float) → T (lt nought x) → T (lt x word) → Magnitude false x x
unfolding lt signed_by round_to
as_it_is nan a b = absurd a
as_it_is (inf true) a b = absurd a
as_it_is (inf false) a b = absurd b
as_it_is (fin true m e) a b = absurd a
as_it_is (fin false m e) a b = record { inside = le→leb (m * up e) (2147483648 * down e) (under (m * up e) (down e) (ltb→lt (m * up e * 1) (1 * 2147483648 * down e) b)); same = refl }

over : (n d : ℕ) → 1 * 2147483648 * d ≤ n * 1 → 2147483648 * d ≤ n
over n d h = omega arith

less : (a : ℕ) → 2147483648 ≤ a → 2147483647 ≤ a
less a h = omega arith

pub over_top : (x : Float) → T (lt nought x) → T (not (lt x word)) → Magnitude false x word
unfolding lt signed_by round_to
over_top nan a b = absurd a
over_top (inf true) a b = absurd a
over_top (inf false) a b = record { inside = tt; same = refl }
over_top (fin true m e) a b = absurd a
over_top (fin false m e) a b = record {
  inside = tt;
  same = ap pos (sym (min-eq_right (less (away (m * up e) (down e)) (away_ge (m * up e) (down e) 2147483648 (down_pos e) (over (m * up e) (down e) (nltb→le (m * up e * 1) (1 * 2147483648 * down e) b))))));
}

pub negated : (x : Float) → T (lt x nought) → T (lt (fin true 1 (pos 31)) x) → Magnitude true x (neg x)
unfolding lt signed_by round_to neg
negated nan a b = absurd a
negated (inf true) a b = absurd b
negated (inf false) a b = absurd a
negated (fin false m e) a b = absurd (none_below (m * up e) (down e) (ltb→lt (m * up e * 1) (0 * 1 * down e) a))
negated (fin true m e) a b = record { inside = le→leb (m * up e) (2147483648 * down e) (under (m * up e) (down e) (ltb→lt (m * up e * 1) (1 * 2147483648 * down e) b)); same = refl }

pub under_bottom : (x : Float) → T (lt x nought) → T (not (lt (fin true 1 (pos 31)) x)) → Magnitude true x word
unfolding lt signed_by round_to
under_bottom nan a b = absurd a
under_bottom (inf true) a b = record { inside = tt; same = refl }
under_bottom (inf false) a b = absurd a
under_bottom (fin false m e) a b = absurd (none_below (m * up e) (down e) (ltb→lt (m * up e * 1) (0 * 1 * down e) a))
under_bottom (fin true m e) a b = record {
  inside = tt;
  same = ap (λ (k : ℕ). neg_ℤ (pos k)) (sym (min-eq_right (away_ge (m * up e) (down e) 2147483648 (down_pos e) (over (m * up e) (down e) (nltb→le (m * up e * 1) (1 * 2147483648 * down e) b)))));
}

pub zero_size : (n d : ℕ) → n * 1 ≤ 0 * 1 * d → n ≡ 0
zero_size n d h = omega arith

pub zero_neg : (n d : ℕ) → n * 1 + 0 * 1 * d ≤ 0 → n ≡ 0
zero_neg n d h = omega arith

min_zero : (a c : ℕ) → a ≡ 0 → min a c ≡ 0
min_zero a c h = omega arith

pub neither : (x : Float) → T (not (lt nought x)) → T (not (lt x nought)) → Magnitude false x nought
unfolding lt signed_by round_to
neither nan a b = record { inside = tt; same = refl }
neither (inf true) a b = absurd b
neither (inf false) a b = absurd a
neither (fin false m e) a b = record {
  inside = tt;
  same = ap pos (sym (min_zero (away (m * up e) (down e)) 2147483647 (away_zero (m * up e) (down e) (down_pos e) (zero_size (m * up e) (down e) (nltb→le (0 * 1 * down e) (m * up e * 1) a)))));
}
neither (fin true m e) a b = record {
  inside = tt;
  same = ap (λ (k : ℕ). neg_ℤ (pos k)) (sym (min_zero (away (m * up e) (down e)) 2147483648 (away_zero (m * up e) (down e) (down_pos e) (zero_neg (m * up e) (down e) (nltb→le 0 (m * up e * 1 + 0 * 1 * down e) b)))));
}

-- The root at a zero, an infinity, a NaN and below zero, over the format. Assumes nothing.
use Rattle.std.proofs.Common.{◌≡◌, ℕ, zero, suc, ◌+◌, ◌*◌, ◌/◌, ◌%◌, ◌<◌, ◌≤◌, Bool, true, false, cond, not, T, eqb, leb, sym, refl, ap, ◌∙◌, subst, zero-lt-suc, mul-pos, arith, ltb→lt, nltb→le}
use lib.Dec.{nleb→lt}
use lib.Ieee.{Float, nan, inf, fin, Format, binary32, binary64, prec, low, hid, ones, top, up, down, odd, of_bits, to_bits, of_fields, is_nan, fits, lt, div}
use lib.Ieee.Fits.{up_pos}
use lib.Ieee.Bits.{of_bits-to_bits}
use Rattle.floats.specs.Root.{sqrt_of}
use Rattle.floats.proofs.Fractions.{nought}
use Rattle.floats.proofs.Tests.{T_false}
use Rattle.floats.proofs.Patterns.{unsigned}

-- what is above something is no NaN
pub over_none : (x y : Float) → T (lt x y) → T (not (is_nan y))
unfolding lt is_nan
over_none nan y h = absurd h
over_none (inf s) nan h = absurd h
over_none (inf s) (inf t) h = tt
over_none (inf s) (fin t n d) h = tt
over_none (fin s m e) nan h = absurd h
over_none (fin s m e) (inf t) h = tt
over_none (fin s m e) (fin t n d) h = tt

zero_bits : (f : Format) → of_bits f 0 ≡ nought
unfolding of_bits
zero_bits binary32 = refl
zero_bits binary64 = refl

not_over_itself : T (lt nought nought) → ⊥
unfolding lt
not_over_itself h = h

pub some_pattern : (f : Format) (x : Float) → T (fits f x) → T (lt nought x) → 0 < to_bits f x
some_pattern f x F l = go (to_bits f x) (of_bits-to_bits f x F)
  where
    go : (b : ℕ) → of_bits f b ≡ x → 0 < b
    go zero e = absurd (not_over_itself (subst (λ (y : Float). T (lt nought y)) (sym e ∙ zero_bits f) l))
    go (suc b) e = omega arith

-- above zero, with a pattern from the infinity's on: the infinity
negative : (q k d l : ℕ) → T (lt nought (odd d true q k l)) → ⊥
unfolding lt odd
negative zero k d l h = h
negative (suc q) k d l h = h

over_negative : (f : Format) (x t : ℕ) → T (lt nought (of_fields f true x t)) → ⊥
unfolding of_fields lt
over_negative f zero t h = negative t 0 (prec f) (low f) h
over_negative f (suc x) t h = go (eqb (suc x) (ones f)) (eqb t 0) h
  where
    go : (a b : Bool) → T (lt nought (cond a (cond b (inf true) nan) (odd (prec f) true (hid f + t) x (low f)))) → ⊥
    go true true h = h
    go true false h = h
    go false b h = negative (hid f + t) x (prec f) (low f) h

infinite : (b : Bool) → T (lt nought (cond b (inf false) nan)) → cond b (inf false) nan ≡ inf false
unfolding lt
infinite true h = refl
infinite false h = absurd h

at_ones : (f : Format) (t : ℕ) → T (lt nought (of_fields f false (ones f) t)) → of_fields f false (ones f) t ≡ inf false
unfolding of_fields
at_ones binary32 t h = infinite (eqb t 0) h
at_ones binary64 t h = infinite (eqb t 0) h

of_bits_is : (f : Format) (b : ℕ) → of_bits f b ≡ of_fields f (leb (top f) b) (b % top f / hid f) (b % hid f)
unfolding of_bits
of_bits_is f b = refl

from_ones : (f : Format) (b : ℕ) → ones f * hid f ≤ b → T (lt nought (of_bits f b)) → of_bits f b ≡ inf false
from_ones f b h l = go (leb (top f) b) refl
  where
    expo : (f : Format) (b : ℕ) → ones f * hid f ≤ b → b < top f → b / hid f ≡ ones f
    expo binary32 b h k = omega arith
    expo binary64 b h k = omega arith

    go : (s : Bool) → leb (top f) b ≡ s → of_bits f b ≡ inf false
    go true e = absurd (over_negative f (b % top f / hid f) (b % hid f) (subst (λ (y : Float). T (lt nought y)) (of_bits_is f b ∙ ap (λ (s : Bool). of_fields f s (b % top f / hid f) (b % hid f)) e) l))
    go false e =
        let under : b < top f = nleb→lt (top f) b (T_false e) in
        let is : of_bits f b ≡ of_fields f false (ones f) (b % hid f) = unsigned f b under ∙ ap (λ (x : ℕ). of_fields f false x (b % hid f)) (expo f b h under) in
        is ∙ at_ones f (b % hid f) (subst (λ (y : Float). T (lt nought y)) is l)

root_inf : (f : Format) → inf false ≡ sqrt_of f (inf false)
unfolding sqrt_of
root_inf f = refl

pub root_infinite : (f : Format) (x : Float) → T (fits f x) → T (lt nought x) → ones f * hid f ≤ to_bits f x → x ≡ sqrt_of f x
root_infinite f x F l h =
    let back = of_bits-to_bits f x F in
    let is : x ≡ inf false = sym back ∙ from_ones f (to_bits f x) h (subst (λ (y : Float). T (lt nought y)) (sym back) l) in
    is ∙ root_inf f ∙ ap (sqrt_of f) (sym is)

pub root_below : (f : Format) (x : Float) → T (not (lt nought x)) → T (lt x nought) → div f nought nought ≡ sqrt_of f x
unfolding lt sqrt_of div
root_below f nan a l = absurd l
root_below f (inf true) a l = refl
root_below f (inf false) a l = absurd l
root_below f (fin false m e) a l = absurd (no (m * up e) (down e) (ltb→lt (m * up e * 1) (0 * 1 * down e) l))
  where
    no : (n d : ℕ) → n * 1 < 0 * 1 * d → ⊥
    no n d h = omega arith
root_below f (fin true zero e) a l = absurd (no (up e) (down e) (ltb→lt 0 (0 * up e * 1 + 0 * 1 * down e) l))
  where
    no : (u d : ℕ) → 0 < 0 * u * 1 + 0 * 1 * d → ⊥
    no u d h = omega arith
root_below f (fin true (suc m) e) a l = refl

pub root_kept : (f : Format) (x : Float) → T (not (lt nought x)) → T (not (lt x nought)) → x ≡ sqrt_of f x
unfolding lt sqrt_of
root_kept f nan a l = refl
root_kept f (inf true) a l = absurd l
root_kept f (inf false) a l = absurd a
root_kept f (fin s zero e) a l = refl
root_kept f (fin false (suc m) e) a l = absurd (no (suc m * up e) (down e) (mul-pos (zero-lt-suc m) (up_pos e)) (nltb→le (0 * 1 * down e) (suc m * up e * 1) a))
  where
    no : (n d : ℕ) → 0 < n → n * 1 ≤ 0 * 1 * d → ⊥
    no n d p h = omega arith
root_kept f (fin true (suc m) e) a l = absurd (no (suc m * up e) (down e) (mul-pos (zero-lt-suc m) (up_pos e)) (nltb→le 0 (suc m * up e * 1 + 0 * 1 * down e) l))
  where
    no : (n d : ℕ) → 0 < n → n * 1 + 0 * 1 * d ≤ 0 → ⊥
    no n d p h = omega arith

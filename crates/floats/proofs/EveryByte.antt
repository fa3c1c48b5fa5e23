-- A test that is computed at each number below n holds of every number below n; so `normalized` of a byte is two products and a sum.
use Rattle.std.proofs.Common.{◌≡◌, ℕ, zero, suc, ◌<◌, ◌≤◌, Bool, true, false, ◌&&◌, T, eqb, pos, sym, ap, ◌∙◌, subst, not-suc-le-zero, arith, eqb→eq}
use lib.Arith.{lt_of_le-ne}
use lib.Ieee.{Float, Format, binary32, add, mul, div, fits, of_int, of_bits, to_bits}
use lib.Ieee.Fits.{and_l, and_r, add-fits, div-fits, eq→eqb}
use lib.Ieee.Bits.{of_bits-to_bits}
use Rattle.floats.specs.Channel.{normalized}

-- the test f passes at each number below n
unfoldable pub every : (ℕ → Bool) → ℕ → Bool
every f zero = true
every f (suc n) = f n && every f n

pub below : (f : ℕ → Bool) (n : ℕ) → T (every f n) → (k : ℕ) → k < n → T (f k)
unfolding every
below f zero t k h = absurd (not-suc-le-zero h)
below f (suc n) t k h = go (eqb k n) (eqb→eq k n) (λ (e : k ≡ n). eq→eqb e) (below f n (and_r (f n) (every f n) t) k)
  where
    last : k < suc n → k ≤ n
    last h = omega arith

    go : (b : Bool) → (T b → k ≡ n) → (k ≡ n → T b) → (k < n → T (f k)) → T (f k)
    go true y z w = subst (λ (m : ℕ). T (f m)) (sym (y tt)) (and_l (f n) (every f n) t)
    go false y z w = w (lt_of_le-ne (last h) z)

same_pattern : (f : Format) (x y : Float) → T (fits f x) → T (fits f y) → T (eqb (to_bits f x) (to_bits f y)) → x ≡ y
same_pattern f x y F G h = sym (of_bits-to_bits f x F) ∙ ap (of_bits f) (eqb→eq (to_bits f x) (to_bits f y) h) ∙ of_bits-to_bits f y G

-- c times 1 / 255, in two parts: its first 24 binary digits, and the next 24
abbrev pub in_parts : ℕ → Float
in_parts c = add binary32 (mul binary32 (of_int binary32 (pos c)) (of_bits binary32 0x3b80_8080)) (mul binary32 (of_int binary32 (pos c)) (of_bits binary32 0x2f80_8080))

agrees : ℕ → Bool
agrees c = eqb (to_bits binary32 (in_parts c)) (to_bits binary32 (normalized c))

all_agree : T (every agrees 256)
unfolding every agrees normalized add mul div of_int of_bits to_bits
all_agree = tt

pub in_parts_lem : (c : ℕ) → c < 256 → in_parts c ≡ normalized c
unfolding agrees normalized
in_parts_lem c h = same_pattern binary32 (in_parts c) (normalized c) (add-fits binary32 _ _) (div-fits binary32 _ _) (below agrees 256 all_agree c h)

-- A kernel of the one number 1, with divisor 1 and bias 0, leaves a sheet as it is whose colours are within their alpha: each sum is the channel's own number, which the bounds pass.
use Prim.Native.Nat.{ℕ, ◌+◌, ◌-◌, ◌*◌, ◌/◌, ◌%◌, ◌^◌, ◌≤◌, ◌<◌}
use mathlib.Core.Path.{◌≡◌, refl, sym, ap, ◌∙◌}
use mathlib.Core.Bool.{Bool, true, false, cond}
use mathlib.Core.List.{List, [], ◌∷◌}
use native.Mathlib.Omega.{arith}
use borrow.Author.Tests.{eqb-true}
use lib.Dec.{T, eqb, eqb→eq}
use lib.ListN.{length, get_or}
use lib.Pow.{pow_pos}
use lib.IntN.{ℤ}
use lib.Ieee.{Float, nan, inf, fin, binary32, low, up, down, round, add, mul, div, le, fits, of_int, of_bits, to_unsigned}
use lib.Ieee.Fits.{down_pos, round-fits, div-fits}
use lib.Ieee.Exact.{round_exact}
use lib.Ieee.Scale.{round_same}
use Rattle.floats.specs.Channel.{normalized}
use Rattle.floats.specs.Constants.{c0, c1}
use Rattle.floats.specs.Operators.{◌⊕◌, ◌⊗◌, ◌⊘◌}
use Rattle.floats.specs.Order.{bound}
use Rattle.floats.specs.Inner.Steps.{plain}
use Rattle.floats.proofs.EveryByte.{every, below}
use Rattle.floats.proofs.ByteNumbers.{times_one, zero_times, plus_zero, zero_plus, clamp_passes, top_number}
use Rattle.floats.proofs.Units.{value_unique, in_units_lem}
use Rattle.sheet.specs.Answer.{Done}
use Rattle.sheet.specs.Pixel.{column, row, byte_at}
use Rattle.sheet.proofs.Apart.{Bytes}
use Rattle.sheet.proofs.Places.{column_inside, row_inside, byte_place}
use Rattle.sheet.proofs.Tabulated.{tabulated}
use Rattle.convolve_matrix.specs.declared.edge.EdgeMode.{EdgeMode}
use Rattle.convolve_matrix.specs.declared.ConvolveMatrix.{ConvolveMatrix}
use Rattle.convolve_matrix.specs.Edges.{place}
use Rattle.pool.specs.Pool.{all, is_in, numbers_of}
use Rattle.convolve_matrix.specs.ConvolveMatrix.{is_side, is_divisor, is_kernel, are_finite, are_in_range, kernel_answer, in_order, row_sum, sum_at, sum_of, new_alpha, colour_value, bounded_colour, bounded, to_byte, channel_of, alpha_at, convolved_at, convolved_by}
use Rattle.convolve_matrix.proofs.Edging.{own_place, own_read}
use Rattle.convolve_matrix.proofs.Reading.{wide}

-- one number 1, with divisor 1 and bias 0
abbrev pub alone : EdgeMode → ConvolveMatrix
alone mode = record {
  columns = 1;
  rows = 1;
  target_x = 0;
  target_y = 0;
  matrix = record { start = 0; count = 1 };
  divisor = c1;
  bias = c0;
  edge_mode = mode;
  preserve_alpha = false;
}

-- m with divisor 1 and bias 0
abbrev pub plain_of : ConvolveMatrix → Bool → ConvolveMatrix
plain_of m preserve = record {
  columns = m.columns;
  rows = m.rows;
  target_x = m.target_x;
  target_y = m.target_y;
  matrix = m.matrix;
  divisor = c1;
  bias = c0;
  edge_mode = m.edge_mode;
  preserve_alpha = preserve;
}

-- ---- a number of the format divided by 1
module _ (m : ℕ) (e : ℤ) (F : T (fits binary32 (fin false m e))) where
  by_one : fin false m e ⊘ c1 ≡ fin false m e
  unfolding div of_bits
  by_one =
      let U = in_units_lem binary32 false (fin false m e) F refl in
      let Q = U.q * 2 ^ U.j in
      let L = 2 ^ low binary32 in
      round_same binary32 false (m * up e * 1) (1 * 1 * down e) Q L (one_more (down e) (down_pos e)) (pow_pos (low binary32)) (same (m * up e) (down e) Q L U.value.1)
      ∙ value_unique binary32 (round binary32 false Q L) (fin false m e) false Q L (pow_pos (low binary32)) (round-fits binary32 false Q L) F (round_exact binary32 false Q L U.q U.j (pow_pos (low binary32)) U.small U.fine refl) U.value
    where
      one_more : (d : ℕ) → 0 < d → 0 < 1 * 1 * d
      one_more d h = omega arith

      same : (a d q l : ℕ) → a * l ≡ q * d → a * 1 * l ≡ q * (1 * 1 * d)
      same a d q l h = omega arith

-- ---- what is computed of each byte
all_plain : T (every (λ c. plain (normalized c)) 256)
unfolding every normalized div of_int of_bits
all_plain = tt

all_back : T (every (λ c. eqb (to_byte (normalized c)) c) 256)
unfolding every to_byte normalized add mul div of_int of_bits to_unsigned
all_back = tt

fits_number : (c : ℕ) → T (fits binary32 (normalized c))
unfolding normalized
fits_number c = div-fits binary32 _ _

module _ (c : ℕ) (h : c ≤ 255) where
  pub to_byte_back : to_byte (normalized c) ≡ c
  to_byte_back = eqb→eq (to_byte (normalized c)) c (below (λ c. eqb (to_byte (normalized c)) c) 256 all_back c (omega arith))

  divided : normalized c ⊘ c1 ≡ normalized c
  divided = go (normalized c) (below (λ c. plain (normalized c)) 256 all_plain c (omega arith)) (fits_number c)
    where
      go : (x : Float) → T (plain x) → T (fits binary32 x) → x ⊘ c1 ≡ x
      go nan t F = absurd t
      go (inf s) t F = absurd t
      go (fin true m e) t F = absurd t
      go (fin false m e) t F = by_one m e F

-- ---- the sum of one number
first_place : (mode : EdgeMode) (n i : ℕ) → i < n → place mode 0 n (i + 0) ≡ i
first_place mode n i h = own_place 0 n (i + 0) (omega arith) (omega arith) mode ∙ (let z : i + 0 - 0 ≡ i = omega arith in z)

module _ (mode : EdgeMode) (w h : ℕ) (s : List ℕ) (bytes : Bytes s) where
  sum_alone : (x y c : ℕ) → x < w → y < h → sum_at (alone mode) (c1 ∷ []) w h s x y c ≡ normalized (get_or s (byte_at w x y c) 0)
  unfolding sum_at row_sum in_order
  sum_alone x y c p q =
      let b = bytes (byte_at w x y c) in
      rw (own_read mode 0 h y q, first_place mode h y q, own_read mode 0 w x p, first_place mode w x p)
      (ap (λ (f : Float). c0 ⊕ f) (times_one (get_or s (byte_at w x y c) 0) b) ∙ zero_plus (get_or s (byte_at w x y c) 0) b)

-- channel c by the numbers of the bytes x and a
pub bounded_number : (a : ℕ) → a ≤ 255 → bounded (normalized a) ≡ normalized a
bounded_number a h = ap (bound c0 (normalized a)) (sym top_number) ∙ clamp_passes a 255 h (omega arith)

pub plain_colour : (m : ConvolveMatrix) (preserve : Bool) (x a : ℕ) → x ≤ 255 → a ≤ 255 → colour_value (plain_of m preserve) (normalized x) (normalized a) ≡ normalized x
unfolding colour_value
plain_colour m preserve x a k h = ap (λ (f : Float). f ⊕ c0 ⊗ normalized a) (divided x k) ∙ (ap (λ (f : Float). normalized x ⊕ f) (zero_times a h) ∙ plus_zero x k)

pub plain_alpha : (m : ConvolveMatrix) (a own : ℕ) → a ≤ 255 → new_alpha (plain_of m false) (normalized a) own ≡ normalized a
unfolding new_alpha
plain_alpha m a own h = ap (λ (f : Float). f ⊕ c0) (divided a h) ∙ plus_zero a h

pub channel_kept : (m : ConvolveMatrix) (c x a own : ℕ) → x ≤ a → a ≤ 255 → (c ≡ 3 → x ≡ a) → channel_of (plain_of m false) c (normalized x) (new_alpha (plain_of m false) (normalized a) own) ≡ x
unfolding bounded_colour
channel_kept m c x a own l h alpha =
    let k : x ≤ 255 = omega arith in
    rw (plain_alpha m a own h, bounded_number a h, plain_colour m false x a k h, clamp_passes x a l h, to_byte_back a h, to_byte_back x k) (go (eqb c 3) (eqb-true c 3))
  where
    go : (t : Bool) → (t ≡ true → c ≡ 3) → cond t a x ≡ x
    go true e = sym (alpha (e refl))
    go false e = refl

-- each byte is within its pixel's alpha
abbrev pub WithinAlpha : List ℕ → Type 0
WithinAlpha s = (k : ℕ) → k < length s → get_or s k 0 ≤ alpha_at s k

pub alone_changes_nothing : (mode : EdgeMode) (w h : ℕ) (s : List ℕ) → length s ≡ 4 * w * h → Bytes s → WithinAlpha s → convolved_by (alone mode) (c1 ∷ []) w h s ≡ s
unfolding convolved_by
alone_changes_nothing mode w h s e bytes inside = sym (tabulated s (4 * w * h) (convolved_at (alone mode) (c1 ∷ []) w h s) e byte_kept)
  where
    byte_kept : (k : ℕ) → k < 4 * w * h → get_or s k 0 ≡ convolved_at (alone mode) (c1 ∷ []) w h s k
    byte_kept k l =
        let p = wide w h k l in
        let x = column_inside w h k p l in
        let y = row_inside w h k p l in
        let own : sum_of (alone mode) (c1 ∷ []) w h s k (k % 4) ≡ normalized (get_or s k 0) = sum_alone mode w h s bytes (column w k) (row w k) (k % 4) x y ∙ ap (λ (j : ℕ). normalized (get_or s j 0)) (sym (byte_place w h k p l)) in
        let at : byte_at w (column w k) (row w k) 3 ≡ 4 * (k / 4) + 3 = let z = byte_place w h k p l in omega arith in
        let alphas : sum_of (alone mode) (c1 ∷ []) w h s k 3 ≡ normalized (alpha_at s k) = sum_alone mode w h s bytes (column w k) (row w k) 3 x y ∙ ap (λ (j : ℕ). normalized (get_or s j 0)) at in
        sym (rw (own, alphas) (channel_kept (alone mode) (k % 4) (get_or s k 0) (alpha_at s k) (alpha_at s k) (inside k (omega arith)) (bytes (4 * (k / 4) + 3)) (λ f. ap (λ (j : ℕ). get_or s j 0) (let z : k ≡ 4 * (k / 4) + 3 = omega arith in z))))

pub alone_accepted : (mode : EdgeMode) → kernel_answer (alone mode) (c1 ∷ []) ≡ Done
unfolding kernel_answer is_kernel is_side are_finite are_in_range is_divisor numbers_of is_in all le of_bits
alone_accepted mode = refl

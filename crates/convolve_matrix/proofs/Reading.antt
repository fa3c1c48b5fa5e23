-- What a byte of the result reads: it depends on nothing else, it reads some byte, and all that it reads lies in the sheet.
use Prim.Native.Nat.{ℕ, zero, suc, ◌+◌, ◌*◌, ◌/◌, ◌%◌, ◌<◌}
use mathlib.Core.Path.{◌≡◌, refl, sym, ap, ◌∙◌}
use mathlib.Core.Bool.{Bool, true, false, cond}
use mathlib.Core.List.{List}
use mathlib.Core.Logic.{inl, inr, ⊎_elim}
use native.Mathlib.Nat.{mul_assoc}
use native.Mathlib.Omega.{arith}
use lib.ListN.{length, get_or}
use lib.Ieee.{Float}
use Rattle.floats.specs.Channel.{normalized}
use Rattle.floats.specs.Constants.{c0}
use Rattle.floats.specs.Operators.{◌⊕◌, ◌⊗◌}
use Rattle.sheet.specs.Pixel.{column, row, byte_at}
use Rattle.sheet.proofs.Places.{place_inside}
use Rattle.sheet.proofs.Tabulated.{length_tabulate, get_d_tabulate}
use Rattle.convolve_matrix.specs.declared.ConvolveMatrix.{ConvolveMatrix}
use Rattle.convolve_matrix.specs.Edges.{is_read, place}
use Rattle.convolve_matrix.specs.ConvolveMatrix.{in_order, turned, tapped, row_sum, sum_at, sum_of, new_alpha, alpha_at, channel_of, convolved_at, convolved_by}
use Rattle.convolve_matrix.specs.Reads.{Taps, Reads}
use Rattle.convolve_matrix.proofs.Edging.{placed}
use Rattle.convolve_matrix.proofs.Orders.{in_order_ext}

-- a test decides which of two is meant: what holds where it passes suffices
cond_ext : (t : Bool) (a b d : Float) → (t ≡ true → a ≡ b) → cond t a d ≡ cond t b d
cond_ext true a b d e = e refl
cond_ext false a b d e = refl

module _ (m : ConvolveMatrix) (kernel : List Float) (w h : ℕ) where
  pub length_convolved : (s : List ℕ) → length (convolved_by m kernel w h s) ≡ 4 * w * h
  unfolding convolved_by
  length_convolved s = length_tabulate (4 * w * h) (convolved_at m kernel w h s)

  pub byte_convolved : (s : List ℕ) (k : ℕ) → k < 4 * w * h → get_or (convolved_by m kernel w h s) k 0 ≡ convolved_at m kernel w h s k
  unfolding convolved_by
  byte_convolved s k l = get_d_tabulate (4 * w * h) (convolved_at m kernel w h s) k l

  -- sheets that agree on what channel c of byte k's pixel reads have the same sum
  module _ (a b : List ℕ) (k c : ℕ) (agree : (j : ℕ) → Taps m w h k c j → get_or a j 0 ≡ get_or b j 0) where
    abbrev line : ℕ → ℕ
    line oy = place m.edge_mode m.target_y h (row w k + oy)

    tap_same : (oy ox : ℕ) → oy < m.rows → ox < m.columns → is_read m.edge_mode m.target_y h (row w k + oy) ≡ true → (t : Float) → tapped m kernel w a (column w k) c (line oy) oy ox t ≡ tapped m kernel w b (column w k) c (line oy) oy ox t
    tap_same oy ox p q e t =
        let x = place m.edge_mode m.target_x w (column w k + ox) in
        cond_ext (is_read m.edge_mode m.target_x w (column w k + ox))
        (t ⊕ normalized (get_or a (byte_at w x (line oy) c) 0) ⊗ turned m kernel oy ox)
        (t ⊕ normalized (get_or b (byte_at w x (line oy) c) 0) ⊗ turned m kernel oy ox)
        t
        (λ f. ap (λ (n : ℕ). t ⊕ normalized n ⊗ turned m kernel oy ox) (agree (byte_at w x (line oy) c) (record {
          x = x;
          y = line oy;
          met_column = record { o = ox; in_kernel = q; read = f; is = refl };
          met_row = record { o = oy; in_kernel = p; read = e; is = refl };
          is = refl;
        })))

    row_same : (oy : ℕ) → oy < m.rows → (t : Float) → row_sum m kernel w h a (column w k) (row w k) c oy t ≡ row_sum m kernel w h b (column w k) (row w k) c oy t
    unfolding row_sum
    row_same oy p t =
        cond_ext (is_read m.edge_mode m.target_y h (row w k + oy))
        (in_order m.columns (tapped m kernel w a (column w k) c (line oy) oy) t)
        (in_order m.columns (tapped m kernel w b (column w k) c (line oy) oy) t)
        t
        (λ e. in_order_ext m.columns (tapped m kernel w a (column w k) c (line oy) oy) (tapped m kernel w b (column w k) c (line oy) oy) t (λ ox q t. tap_same oy ox p q e t))

    pub sum_same : sum_of m kernel w h a k c ≡ sum_of m kernel w h b k c
    unfolding sum_at
    sum_same = in_order_ext m.rows (row_sum m kernel w h a (column w k) (row w k) c) (row_sum m kernel w h b (column w k) (row w k) c) c0 row_same

  -- sheets that agree on what byte k reads give the same byte k
  pub reads_all : (a b : List ℕ) (k : ℕ) → k < 4 * w * h → ((j : ℕ) → Reads m w h k j → get_or a j 0 ≡ get_or b j 0) → get_or (convolved_by m kernel w h a) k 0 ≡ get_or (convolved_by m kernel w h b) k 0
  reads_all a b k l agree =
      let own = sum_same a b k (k % 4) (λ j r. agree j (inl r)) in
      let alphas = sum_same a b k 3 (λ j r. agree j (inr (inl r))) in
      let alpha : alpha_at a k ≡ alpha_at b k = agree (4 * (k / 4) + 3) (inr (inr refl)) in
      byte_convolved a k l
      ∙ (ap (λ (s : Float). channel_of m (k % 4) s (new_alpha m (sum_of m kernel w h a k 3) (alpha_at a k))) own
      ∙ (ap (λ (s : Float). channel_of m (k % 4) (sum_of m kernel w h b k (k % 4)) (new_alpha m s (alpha_at a k))) alphas
      ∙ (ap (λ (n : ℕ). channel_of m (k % 4) (sum_of m kernel w h b k (k % 4)) (new_alpha m (sum_of m kernel w h b k 3) n)) alpha
      ∙ sym (byte_convolved b k l))))

-- a sheet with a byte has a column and a row
pub wide : (w h k : ℕ) → k < 4 * w * h → 0 < w
wide zero h k l = omega arith
wide (suc w) h k l = omega arith

pub high : (w h k : ℕ) → k < 4 * w * h → 0 < h
high w zero k l = omega arith
high w (suc h) k l = omega arith

module _ (m : ConvolveMatrix) (w h k : ℕ) where
  -- a byte reads its pixel's alpha
  pub reads_something : Reads m w h k (4 * (k / 4) + 3)
  reads_something = inr (inr refl)

  module _ (l : k < 4 * w * h) where
    taps_inside : (c j : ℕ) → c < 4 → Taps m w h k c j → j < 4 * w * h
    taps_inside c j s r =
        let x : r.x < w = rw r.met_column.is (placed m.target_x w (column w k + r.met_column.o) (wide w h k l) m.edge_mode) in
        let y : r.y < h = rw r.met_row.is (placed m.target_y h (row w k + r.met_row.o) (high w h k l) m.edge_mode) in
        rw r.is (place_inside w h r.x r.y c x y s)

    pub reads_inside : (j : ℕ) → Reads m w h k j → j < 4 * w * h
    reads_inside j r =
        ⊎_elim (λ t. taps_inside (k % 4) j (omega arith) t)
        (λ t. ⊎_elim (λ t. taps_inside 3 j (omega arith) t) (λ e. omega (arith, mul_assoc 4 w h)) t)
        r

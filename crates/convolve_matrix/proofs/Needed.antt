-- Every byte that a byte of the result reads is needed, so its reach is the least: by a kernel of one number 1 among zeros, with divisor 1 and bias 0, in a sheet of bytes 255, a byte 0 where
-- that number falls gives 0; and so does an alpha 0 that is preserved.
use Prim.Native.Nat.{ℕ, zero, suc, ◌+◌, ◌-◌, ◌*◌, ◌/◌, ◌%◌, ◌≤◌, ◌<◌}
use mathlib.Core.Path.{◌≡◌, refl, sym, ap, ◌∙◌}
use mathlib.Core.Bool.{Bool, true, false, cond}
use mathlib.Core.List.{List}
use mathlib.Core.Logic.{◌⊎◌, ⊎_elim}
use native.Mathlib.Nat.{not-suc-le-zero, mul-add-div_right, mul-add-mod_self_right, mod-eq_of_lt, div-eq_of_lt, mul_assoc}
use native.Mathlib.Omega.{arith}
use native.Mathlib.Decide.{ℕ_discrete}
use lib.Dec.{eqb}
use lib.ListN.{get_or, set, replicate, length-replicate, get_or-replicate}
use lib.Seq.{get_or-set_same, get_or-set_other}
use lib.Ieee.{Float, nan}
use Rattle.floats.specs.Channel.{normalized}
use Rattle.floats.specs.Constants.{c0, c1}
use Rattle.floats.specs.Operators.{◌⊕◌, ◌⊗◌}
use Rattle.floats.proofs.ByteNumbers.{times_one, times_zero, plus_zero, zero_plus, zero_number, top_number}
use Rattle.sheet.specs.Pixel.{column, row, byte_at}
use Rattle.sheet.proofs.Apart.{Bytes, Needed, all_but, at_but, not_at_but, all_same, needed, bytes_inside, length_all_but}
use Rattle.sheet.proofs.Places.{place_inside, column_inside, row_inside}
use Rattle.convolve_matrix.specs.declared.ConvolveMatrix.{ConvolveMatrix}
use Rattle.convolve_matrix.specs.Edges.{is_read, place}
use Rattle.convolve_matrix.specs.ConvolveMatrix.{in_order, turned, tapped, row_sum, sum_at, new_alpha, bounded_colour, to_byte, channel_of, alpha_at, alpha_of, convolved_by}
use Rattle.convolve_matrix.specs.Reads.{Taps}
use Rattle.convolve_matrix.proofs.Edging.{placed, own_read}
use Rattle.convolve_matrix.proofs.Summing.{turned_inside}
use Rattle.convolve_matrix.proofs.Reading.{byte_convolved, wide, high}
use Rattle.convolve_matrix.proofs.Unchanged.{plain_of, bounded_number, plain_colour, plain_alpha, channel_kept, to_byte_back}
use Rattle.convolve_matrix.proofs.WithinAlpha.{alpha_fits, channel_within}

-- ---- a kernel of one number 1 among zeros
abbrev index : ConvolveMatrix → (oy ox : ℕ) → ℕ
index m oy ox = (m.rows - oy - 1) * m.columns + (m.columns - ox - 1)

abbrev pub one_at : ConvolveMatrix → (oy ox : ℕ) → List Float
one_at m oy ox = set (replicate (m.rows * m.columns) c0) (index m oy ox) c1

module _ (m : ConvolveMatrix) (oy ox : ℕ) (p : oy < m.rows) (q : ox < m.columns) where
  at_one : get_or (one_at m oy ox) (index m oy ox) nan ≡ c1
  at_one = get_or-set_same (replicate (m.rows * m.columns) c0) (index m oy ox) c1 nan (let l = length-replicate (m.rows * m.columns) c0 in let t = turned_inside m.rows m.columns oy ox p q in omega arith)

  same_row : (v u : ℕ) → v < m.rows → u < m.columns → index m v u ≡ index m oy ox → v ≡ oy
  same_row v u a b e =
      let C = m.columns in
      let part : (i o : ℕ) → i < C → (o * C + i) / C ≡ o = λ i o h. mul-add-div_right (let z : 0 < C = omega arith in z) o i ∙ (ap (λ (n : ℕ). o + n) (div-eq_of_lt h) ∙ omega arith) in
      let z = sym (part (C - u - 1) (m.rows - v - 1) (omega arith)) ∙ (ap (λ (n : ℕ). n / C) e ∙ part (C - ox - 1) (m.rows - oy - 1) (omega arith)) in
      omega arith

  same_column : (v u : ℕ) → v < m.rows → u < m.columns → index m v u ≡ index m oy ox → u ≡ ox
  same_column v u a b e =
      let C = m.columns in
      let part : (i o : ℕ) → i < C → (o * C + i) % C ≡ i = λ i o h. mul-add-mod_self_right o C i ∙ mod-eq_of_lt h in
      let z = sym (part (C - u - 1) (m.rows - v - 1) (omega arith)) ∙ (ap (λ (n : ℕ). n % C) e ∙ part (C - ox - 1) (m.rows - oy - 1) (omega arith)) in
      omega arith

  not_at_one : (v u : ℕ) → v < m.rows → u < m.columns → (v ≡ oy → u ≡ ox → ⊥) → get_or (one_at m oy ox) (index m v u) nan ≡ c0
  not_at_one v u a b d =
      get_or-set_other (replicate (m.rows * m.columns) c0) (index m oy ox) (index m v u) c1 nan (λ e. d (same_row v u a b e) (same_column v u a b e))
      ∙ get_or-replicate (m.rows * m.columns) (index m v u) c0 nan (turned_inside m.rows m.columns v u a b)

-- ---- steps of which one alone adds
in_order_kept : (n : ℕ) (f : ℕ → Float → Float) (x : Float) → ((o : ℕ) → o < n → f o x ≡ x) → in_order n f x ≡ x
unfolding in_order
in_order_kept zero f x e = refl
in_order_kept (suc n) f x e = ap (f n) (in_order_kept n f x (λ o h. e o (omega arith))) ∙ e n (omega arith)

in_order_hit : (n o : ℕ) (f : ℕ → Float → Float) (v : ℕ) → o < n → v ≤ 255 → ((i : ℕ) → i < n → (i ≡ o → ⊥) → (b : ℕ) → b ≤ 255 → f i (normalized b) ≡ normalized b) → f o (normalized 0) ≡ normalized v → in_order n f (normalized 0) ≡ normalized v
unfolding in_order
in_order_hit zero o f v h l others hit = absurd (not-suc-le-zero h)
in_order_hit (suc n) o f v h l others hit = go (ℕ_discrete o n) (λ g. in_order_hit n o f v g l (λ i k. others i (omega arith)) hit)
  where
    go : Dec (o ≡ n) → (o < n → in_order n f (normalized 0) ≡ normalized v) → f n (in_order n f (normalized 0)) ≡ normalized v
    go (yes e) before = ap (f n) (in_order_kept n f (normalized 0) (λ i g. others i (omega arith) (λ z. let no : ⊥ = omega arith in no) 0 (omega arith))) ∙ rw (← e) hit
    go (no d) before = ap (f n) (before (omega arith)) ∙ others n (omega arith) (λ z. d (sym z)) v l

-- ---- the sum by such a kernel
module _ (m : ConvolveMatrix) (preserve : Bool) (oy ox : ℕ) (p : oy < m.rows) (q : ox < m.columns) (w h : ℕ) (s : List ℕ) (bytes : Bytes s) (x y : ℕ) (across : is_read m.edge_mode m.target_x w (x + ox) ≡ true) (down : is_read m.edge_mode m.target_y h (y + oy) ≡ true) where
  abbrev M : ConvolveMatrix
  M = plain_of m preserve

  abbrev K : List Float
  K = one_at m oy ox

  abbrev met : ℕ → ℕ
  met c = get_or s (byte_at w (place m.edge_mode m.target_x w (x + ox)) (place m.edge_mode m.target_y h (y + oy)) c) 0

  tap_other : (c line v u : ℕ) → v < m.rows → u < m.columns → (v ≡ oy → u ≡ ox → ⊥) → (b : ℕ) → b ≤ 255 → tapped M K w s x c line v u (normalized b) ≡ normalized b
  tap_other c line v u a d e b l =
      let j = byte_at w (place m.edge_mode m.target_x w (x + u)) line c in
      let z : normalized b ⊕ normalized (get_or s j 0) ⊗ turned M K v u ≡ normalized b = ap (λ (f : Float). normalized b ⊕ normalized (get_or s j 0) ⊗ f) (not_at_one m oy ox p q v u a d e) ∙ (ap (λ (f : Float). normalized b ⊕ f) (times_zero (get_or s j 0) (bytes j)) ∙ plus_zero b l) in
      either (is_read m.edge_mode m.target_x w (x + u)) z
    where
      either : {f g : Float} (t : Bool) → f ≡ g → cond t f g ≡ g
      either true e = e
      either false e = refl

  tap_hit : (c : ℕ) → tapped M K w s x c (place m.edge_mode m.target_y h (y + oy)) oy ox (normalized 0) ≡ normalized (met c)
  tap_hit c =
      let b = bytes (byte_at w (place m.edge_mode m.target_x w (x + ox)) (place m.edge_mode m.target_y h (y + oy)) c) in
      rw (across, at_one m oy ox p q, zero_number) (ap (λ (f : Float). c0 ⊕ f) (times_one (met c) b) ∙ zero_plus (met c) b)

  row_other : (c v : ℕ) → v < m.rows → (v ≡ oy → ⊥) → (b : ℕ) → b ≤ 255 → row_sum M K w h s x y c v (normalized b) ≡ normalized b
  unfolding row_sum
  row_other c v a d b l = either (is_read m.edge_mode m.target_y h (y + v)) (in_order_kept m.columns (tapped M K w s x c (place m.edge_mode m.target_y h (y + v)) v) (normalized b) (λ u e. tap_other c (place m.edge_mode m.target_y h (y + v)) v u a e (λ z z'. d z) b l))
    where
      either : {f g : Float} (t : Bool) → f ≡ g → cond t f g ≡ g
      either true e = e
      either false e = refl

  row_hit : (c : ℕ) → row_sum M K w h s x y c oy (normalized 0) ≡ normalized (met c)
  unfolding row_sum
  row_hit c = rw down (in_order_hit m.columns ox (tapped M K w s x c (place m.edge_mode m.target_y h (y + oy)) oy) (met c) q (bytes _) (λ u e d. tap_other c (place m.edge_mode m.target_y h (y + oy)) oy u p e (λ z z'. d z')) (tap_hit c))

  sum_hit : (c : ℕ) → sum_at M K w h s x y c ≡ normalized (met c)
  unfolding sum_at
  sum_hit c = ap (in_order m.rows (row_sum M K w h s x y c)) (sym zero_number) ∙ in_order_hit m.rows oy (row_sum M K w h s x y c) (met c) p (bytes _) (λ v e d. row_other c v e d) (row_hit c)

-- ---- a sheet of bytes 255 but one
module _ (n j : ℕ) (inside : j < n) (v : ℕ) (l : v ≤ 255) where
  bytes_but : Bytes (all_but n 255 j v)
  bytes_but = bytes_inside (all_but n 255 j v) (λ i b. go i (let z = length_all_but n 255 j inside v in omega arith) (ℕ_discrete i j))
    where
      go : (i : ℕ) → i < n → Dec (i ≡ j) → get_or (all_but n 255 j v) i 0 ≤ 255
      go i b (yes e) = rw (e, at_but n 255 j inside v) l
      go i b (no d) = let z = not_at_but n 255 j inside v i b d in omega arith

zero_alpha : (m : ConvolveMatrix) (c own : ℕ) (sum alphas : Float) → new_alpha m alphas own ≡ normalized 0 → channel_of m c sum (new_alpha m alphas own) ≡ 0
zero_alpha m c own sum alphas e =
    let a : alpha_of (new_alpha m alphas own) ≡ 0 = ap alpha_of e ∙ (ap to_byte (bounded_number 0 (omega arith)) ∙ to_byte_back 0 (omega arith)) in
    let z = channel_within m c sum (new_alpha m alphas own) (alpha_fits m alphas own) in
    omega arith

-- ---- what is read for a number of the kernel
module _ (m : ConvolveMatrix) (w h k c j : ℕ) (l : k < 4 * w * h) (which : (c ≡ k % 4) ⊎ (c ≡ 3)) (r : Taps m w h k c j) where
  abbrev n : ℕ
  n = 4 * w * h

  abbrev ox : ℕ
  ox = r.met_column.o

  abbrev oy : ℕ
  oy = r.met_row.o

  abbrev X : ℕ
  X = place m.edge_mode m.target_x w (column w k + ox)

  abbrev Y : ℕ
  Y = place m.edge_mode m.target_y h (row w k + oy)

  there : (d : ℕ) → d < 4 → byte_at w X Y d < n
  there d b = place_inside w h X Y d (placed m.target_x w (column w k + ox) (wide w h k l) m.edge_mode) (placed m.target_y h (row w k + oy) (high w h k l) m.edge_mode) b

  tap_is : j ≡ byte_at w X Y c
  tap_is = r.is ∙ (ap (λ (x : ℕ). byte_at w x r.y c) r.met_column.is ∙ ap (λ (y : ℕ). byte_at w X y c) r.met_row.is)

  small : c < 4
  small = ⊎_elim (λ e. omega arith) (λ e. omega arith) which

  inside : j < n
  inside = rw tap_is (there c small)

  module _ (v : ℕ) (b : v ≤ 255) where
    abbrev s : List ℕ
    s = all_but n 255 j v

    byte_is : get_or (convolved_by (plain_of m false) (one_at m oy ox) w h s) k 0 ≡ channel_of (plain_of m false) (k % 4) (normalized (get_or s (byte_at w X Y (k % 4)) 0)) (new_alpha (plain_of m false) (normalized (get_or s (byte_at w X Y 3) 0)) (alpha_at s k))
    byte_is =
        let hit = sum_hit m false oy ox r.met_row.in_kernel r.met_column.in_kernel w h s (bytes_but n j inside v b) (column w k) (row w k) r.met_column.read r.met_row.read in
        byte_convolved (plain_of m false) (one_at m oy ox) w h s k l
        ∙ (ap (λ (f : Float). channel_of (plain_of m false) (k % 4) f (new_alpha (plain_of m false) (sum_at (plain_of m false) (one_at m oy ox) w h s (column w k) (row w k) 3) (alpha_at s k))) (hit (k % 4))
        ∙ ap (λ (f : Float). channel_of (plain_of m false) (k % 4) (normalized (get_or s (byte_at w X Y (k % 4)) 0)) (new_alpha (plain_of m false) f (alpha_at s k))) (hit 3))

  raised : get_or (convolved_by (plain_of m false) (one_at m oy ox) w h (all_but n 255 j 255)) k 0 ≡ 255
  raised =
      let x = all_same n 255 j inside (byte_at w X Y (k % 4)) (there (k % 4) (omega arith)) in
      let a = all_same n 255 j inside (byte_at w X Y 3) (there 3 (omega arith)) in
      byte_is 255 (omega arith) ∙ rw (x, a) (channel_kept m (k % 4) 255 255 (alpha_at (all_but n 255 j 255) k) (omega arith) (omega arith) (λ e. refl))

  lowered : get_or (convolved_by (plain_of m false) (one_at m oy ox) w h (all_but n 255 j 0)) k 0 ≡ 0
  lowered = byte_is 0 (omega arith) ∙ ⊎_elim colour alpha which
    where
      zero_there : get_or (all_but n 255 j 0) (byte_at w X Y c) 0 ≡ 0
      zero_there = ap (λ (i : ℕ). get_or (all_but n 255 j 0) i 0) (sym tap_is) ∙ at_but n 255 j inside 0

      colour : c ≡ k % 4 → channel_of (plain_of m false) (k % 4) (normalized (get_or (all_but n 255 j 0) (byte_at w X Y (k % 4)) 0)) (new_alpha (plain_of m false) (normalized (get_or (all_but n 255 j 0) (byte_at w X Y 3) 0)) (alpha_at (all_but n 255 j 0) k)) ≡ 0
      colour e =
          let z : get_or (all_but n 255 j 0) (byte_at w X Y (k % 4)) 0 ≡ 0 = ap (λ (d : ℕ). get_or (all_but n 255 j 0) (byte_at w X Y d) 0) (sym e) ∙ zero_there in
          rw z (channel_kept m (k % 4) 0 (get_or (all_but n 255 j 0) (byte_at w X Y 3) 0) (alpha_at (all_but n 255 j 0) k) (omega arith) (bytes_but n j inside 0 (omega arith) (byte_at w X Y 3)) (λ f. sym (ap (λ (d : ℕ). get_or (all_but n 255 j 0) (byte_at w X Y d) 0) (sym f) ∙ z)))

      alpha : c ≡ 3 → channel_of (plain_of m false) (k % 4) (normalized (get_or (all_but n 255 j 0) (byte_at w X Y (k % 4)) 0)) (new_alpha (plain_of m false) (normalized (get_or (all_but n 255 j 0) (byte_at w X Y 3) 0)) (alpha_at (all_but n 255 j 0) k)) ≡ 0
      alpha e =
          let z : get_or (all_but n 255 j 0) (byte_at w X Y 3) 0 ≡ 0 = ap (λ (d : ℕ). get_or (all_but n 255 j 0) (byte_at w X Y d) 0) (sym e) ∙ zero_there in
          zero_alpha (plain_of m false) (k % 4) (alpha_at (all_but n 255 j 0) k) (normalized (get_or (all_but n 255 j 0) (byte_at w X Y (k % 4)) 0)) (normalized (get_or (all_but n 255 j 0) (byte_at w X Y 3) 0)) (plain_alpha m (get_or (all_but n 255 j 0) (byte_at w X Y 3) 0) (alpha_at (all_but n 255 j 0) k) (omega arith) ∙ ap normalized z)

  -- its channel and alpha, where a number of the kernel falls
  pub taps_needed : Needed (4 * w * h) j k (convolved_by (plain_of m false) (one_at m r.met_row.o r.met_column.o) w h)
  taps_needed = let e = raised in needed n 255 j inside k (convolved_by (plain_of m false) (one_at m oy ox) w h) (omega arith) lowered (omega arith)

-- ---- its own alpha
preserved : (m : ConvolveMatrix) (sum : Float) (own : ℕ) → new_alpha (plain_of m true) sum own ≡ normalized own
unfolding new_alpha
preserved m sum own = refl

whole_colour : (m : ConvolveMatrix) (c : ℕ) → channel_of (plain_of m true) c (normalized 255) (normalized 255) ≡ 255
unfolding bounded_colour
whole_colour m c =
    let b = bounded_number 255 (omega arith) in
    let one : normalized 255 ⊗ normalized 255 ≡ normalized 255 = ap (λ (f : Float). normalized 255 ⊗ f) top_number ∙ times_one 255 (omega arith) in
    rw (plain_colour m true 255 255 (omega arith) (omega arith), b, one, to_byte_back 255 (omega arith)) (go 255 (eqb c 3))
  where
    go : (n : ℕ) (t : Bool) → cond t n n ≡ n
    go n true = refl
    go n false = refl

module _ (m : ConvolveMatrix) (w h k : ℕ) (l : k < 4 * w * h) (p : m.target_y < m.rows) (q : m.target_x < m.columns) where
  abbrev size : ℕ
  size = 4 * w * h

  abbrev own : ℕ
  own = 4 * (k / 4) + 3

  abbrev X' : ℕ
  X' = place m.edge_mode m.target_x w (column w k + m.target_x)

  abbrev Y' : ℕ
  Y' = place m.edge_mode m.target_y h (row w k + m.target_y)

  own_inside : 4 * (k / 4) + 3 < 4 * w * h
  own_inside = omega (arith, mul_assoc 4 w h)

  own_byte : (v : ℕ) → v ≤ 255 → get_or (convolved_by (plain_of m true) (one_at m m.target_y m.target_x) w h (all_but size 255 own v)) k 0 ≡ channel_of (plain_of m true) (k % 4) (normalized (get_or (all_but size 255 own v) (byte_at w X' Y' (k % 4)) 0)) (new_alpha (plain_of m true) (sum_at (plain_of m true) (one_at m m.target_y m.target_x) w h (all_but size 255 own v) (column w k) (row w k) 3) v)
  own_byte v b =
      let s = all_but size 255 own v in
      let hit = sum_hit m true m.target_y m.target_x p q w h s (bytes_but size own own_inside v b) (column w k) (row w k) (own_read m.edge_mode m.target_x w (column w k) (column_inside w h k (wide w h k l) l)) (own_read m.edge_mode m.target_y h (row w k) (row_inside w h k (wide w h k l) l)) in
      let sum = sum_at (plain_of m true) (one_at m m.target_y m.target_x) w h s (column w k) (row w k) 3 in
      byte_convolved (plain_of m true) (one_at m m.target_y m.target_x) w h s k l
      ∙ (ap (λ (f : Float). channel_of (plain_of m true) (k % 4) f (new_alpha (plain_of m true) sum (alpha_at s k))) (hit (k % 4))
      ∙ ap (λ (a : ℕ). channel_of (plain_of m true) (k % 4) (normalized (get_or s (byte_at w X' Y' (k % 4)) 0)) (new_alpha (plain_of m true) sum a)) (at_but size 255 own own_inside v))

  own_raised : get_or (convolved_by (plain_of m true) (one_at m m.target_y m.target_x) w h (all_but size 255 own 255)) k 0 ≡ 255
  own_raised =
      let x = all_same size 255 own own_inside (byte_at w X' Y' (k % 4)) (place_inside w h X' Y' (k % 4) (placed m.target_x w (column w k + m.target_x) (wide w h k l) m.edge_mode) (placed m.target_y h (row w k + m.target_y) (high w h k l) m.edge_mode) (omega arith)) in
      own_byte 255 (omega arith) ∙ rw (x, preserved m (sum_at (plain_of m true) (one_at m m.target_y m.target_x) w h (all_but size 255 own 255) (column w k) (row w k) 3) 255) (whole_colour m (k % 4))

  own_lowered : get_or (convolved_by (plain_of m true) (one_at m m.target_y m.target_x) w h (all_but size 255 own 0)) k 0 ≡ 0
  own_lowered =
      let sum = sum_at (plain_of m true) (one_at m m.target_y m.target_x) w h (all_but size 255 own 0) (column w k) (row w k) 3 in
      own_byte 0 (omega arith) ∙ zero_alpha (plain_of m true) (k % 4) 0 (normalized (get_or (all_but size 255 own 0) (byte_at w X' Y' (k % 4)) 0)) sum (preserved m sum 0)

  pub own_needed : Needed (4 * w * h) (4 * (k / 4) + 3) k (convolved_by (plain_of m true) (one_at m m.target_y m.target_x) w h)
  own_needed = let e = own_raised in needed size 255 own own_inside k (convolved_by (plain_of m true) (one_at m m.target_y m.target_x) w h) (omega arith) own_lowered (omega arith)

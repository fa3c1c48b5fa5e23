-- Sums that grow: each column of the window by a stretch, each row by its columns.
use Prim.Native.Nat.{ℕ, suc, ◌+◌, ◌-◌, ◌*◌, ◌≤◌, ◌<◌}
use mathlib.Core.Path.{◌≡◌, refl, sym, ap, ◌∙◌}
use mathlib.Core.Bool.{true, false, cond}
use mathlib.Core.List.{List}
use native.Mathlib.Nat.{suc-mul, mul-le-mul_right}
use native.Mathlib.Omega.{arith}
use native.Mathlib.Decide.{dec_lt}
use borrow.Rule.Slice.PartMut.{mid_of, put_mid}
use lib.ListN.{length, get_or, take, drop}
use lib.Ieee.{Float, nan}
use Rattle.std.proofs.lemmas.Grind.{common_steps, elements}
use Rattle.floats.specs.Channel.{normalized}
use Rattle.floats.specs.Operators.{◌⊕◌, ◌⊗◌}
use Rattle.sheet.specs.Pixel.{byte_at}
use Rattle.sheet.specs.Inner.Strips.{Changed}
use Rattle.sheet.proofs.Places.{rows}
use Rattle.convolve_matrix.specs.declared.edge.EdgeMode.{EdgeMode}
use Rattle.convolve_matrix.specs.declared.ConvolveMatrix.{ConvolveMatrix}
use Rattle.convolve_matrix.specs.Edges.{is_read, place}
use Rattle.convolve_matrix.specs.ConvolveMatrix.{in_order, turned, tapped, row_sum}
use Rattle.convolve_matrix.specs.Inner.Rows.{Span, Widened, Added, shifted}
use Rattle.convolve_matrix.proofs.Edging.{placed}
use Rattle.convolve_matrix.proofs.Widening.{changed_part}
use Rattle.convolve_matrix.proofs.Orders.{in_order_none, in_order_more, in_order_ext}

-- the turned kernel's numbers are inside
pub turned_inside : (rows columns oy ox : ℕ) → oy < rows → ox < columns → (rows - oy - 1) * columns + (columns - ox - 1) < rows * columns
turned_inside rows columns oy ox p q =
    let m = mul-le-mul_right {m = suc (rows - oy - 1)} {n = rows} columns (omega arith) in
    let s = suc-mul (rows - oy - 1) columns in
    omega arith

-- a row of the sheet lies in it
pub line_inside : (w h v : ℕ) → v < h → 4 * (v * w) + 4 * w ≤ 4 * w * h
line_inside w h v q = omega (arith, rows w h, suc-mul v w, mul-le-mul_right {m = suc v} {n = h} w q)

-- ---- steps of all sums
module _ (n : ℕ) where
  pub added_none : (f : ℕ → ℕ → ℕ → Float → Float) (l : List Float) → Added (λ i c. in_order 0 (f i c)) n l l
  added_none f l = record { same = refl; each = λ i c p q. sym (in_order_none (f i c) (get_or l (4 * i + c) nan)) }

  pub added_more : (f : ℕ → ℕ → ℕ → Float → Float) (o : ℕ) {l l' l'' : List Float} → Added (λ i c. in_order o (f i c)) n l l' → Added (λ i c. f i c o) n l' l'' → Added (λ i c. in_order (o + 1) (f i c)) n l l''
  added_more f o {l} {l'} {l''} a b = record {
    same = b.same ∙ a.same;
    each = λ i c p q. b.each i c p q ∙ (ap (f i c o) (a.each i c p q) ∙ sym (in_order_more o (f i c) (get_or l (4 * i + c) nan)));
  }

  pub added_as : (f g : ℕ → ℕ → Float → Float) {l l' : List Float} → Added f n l l' → ((i c : ℕ) → i < n → c < 4 → (s : Float) → f i c s ≡ g i c s) → Added g n l l'
  added_as f g {l} {l'} a e = record { same = a.same; each = λ i c p q. a.each i c p q ∙ e i c p q (get_or l (4 * i + c) nan) }

-- ---- one column of the window
-- a part of the sums that was lent has taken in a part of the row, times k
pub sums_grown : (k : Float) (row l p : List Float) (from at n a b : ℕ) → from + n ≤ length row → at + n ≤ length l → length p ≡ n → a ≡ n → b ≡ n → ((i : ℕ) → i < length (take a (drop from row)) → get_or p i nan ≡ get_or (mid_of at b l) i nan ⊕ get_or (take a (drop from row)) i nan ⊗ k) → Changed nan (λ i. get_or l (at + i) nan ⊕ get_or row (from + i) nan ⊗ k) at n l (put_mid at b l p)
sums_grown k row l p from at n a b within room long e f each =
    changed_part nan (λ i. get_or l (at + i) nan ⊕ get_or row (from + i) nan ⊗ k) at n b l p room long f
    (λ i h. each i (inside i h) ∙ (ap (λ (x : Float). x ⊕ get_or (take a (drop from row)) i nan ⊗ k) (sum i h) ∙ ap (λ (x : Float). get_or l (at + i) nan ⊕ x ⊗ k) (number i h)))
  where
    inside : (i : ℕ) → i < n → i < length (take a (drop from row))
    inside i h = grind (arith, common_steps)

    sum : (i : ℕ) → i < n → get_or (mid_of at b l) i nan ≡ get_or l (at + i) nan
    sum i h = grind (arith, elements)

    number : (i : ℕ) → i < n → get_or (take a (drop from row)) i nan ≡ get_or row (from + i) nan
    number i h = grind (arith, elements)

module _ (mode : EdgeMode) (target w x n : ℕ) (kernel : List Float) (base columns : ℕ) (row : List Float) (ox from to : ℕ) (span : Span mode target w n (x + ox) from to) (l l' : List Float) where
  abbrev k : Float
  k = get_or kernel (base + (columns - ox - 1)) nan

  module _ (a : Changed nan (λ j. get_or l (4 * from + j) nan ⊕ get_or row (4 * (from + ox) + j) nan ⊗ k) (4 * from) (4 * (to - from)) l l') where
    read_here : (i c : ℕ) → from ≤ i → i < to → c < 4 → get_or l' (4 * i + c) nan ≡ get_or l (4 * i + c) nan ⊕ get_or row (4 * (i + ox) + c) nan ⊗ k
    read_here i c u v q =
        let s : 4 * i + c ≡ 4 * from + (4 * (i - from) + c) = omega arith in
        let r : 4 * (i + ox) + c ≡ 4 * (from + ox) + (4 * (i - from) + c) = omega arith in
        rw (s, r) (a.inside (4 * (i - from) + c) (omega arith))

    pub column_added : Added (λ i c. shifted mode target w x kernel base columns row i c ox) n l l'
    column_added = record { same = a.same; each = λ i c p q. go i c p q (dec_lt i from) (dec_lt i to) }
      where
        go : (i c : ℕ) → i < n → c < 4 → Dec (i < from) → Dec (i < to) → get_or l' (4 * i + c) nan ≡ shifted mode target w x kernel base columns row i c ox (get_or l (4 * i + c) nan)
        go i c p q (yes u) v = let z : x + i + ox ≡ i + (x + ox) = omega arith in rw (z, span.left i u) (a.before (4 * i + c) (omega arith))
        go i c p q (no u) (yes v) =
            let z : x + i + ox ≡ i + (x + ox) = omega arith in
            let h : from ≤ i = omega arith in
            rw (z, span.read i h v) (read_here i c h v q)
        go i c p q (no u) (no v) =
            let z : x + i + ox ≡ i + (x + ox) = omega arith in
            let o = span.ordered in
            let h : to ≤ i = omega arith in
            rw (z, span.right i h p) (a.after (4 * i + c) (omega arith))

-- ---- one row of the window, whose numbers are those of row y of the sheet
module _ (m : ConvolveMatrix) (kernel : List Float) (w h : ℕ) (s : List ℕ) (x n y oy : ℕ) where
  abbrev line : ℕ
  line = place m.edge_mode m.target_y h (y + oy)

  abbrev by_row : List Float → (i c ox : ℕ) → Float → Float
  by_row row = shifted m.edge_mode m.target_x w x kernel ((m.rows - oy - 1) * m.columns) m.columns row

  pub row_skipped : is_read m.edge_mode m.target_y h (y + oy) ≡ false → (l : List Float) → Added (λ i c. row_sum m kernel w h s (x + i) y c oy) n l l
  unfolding row_sum
  row_skipped e l = record { same = refl; each = λ i c p q. rw e }

  pub row_added : {row₀ row l l' : List Float} (bytes : List ℕ) → ((k : ℕ) → k < 4 * w → get_or bytes k 0 ≡ get_or s (4 * (line * w) + k) 0) → 0 < w → is_read m.edge_mode m.target_y h (y + oy) ≡ true → Widened m.edge_mode m.target_x w bytes x 0 (n + (m.columns - 1)) row₀ row → Added (λ i c. in_order m.columns (by_row row i c)) n l l' → Added (λ i c. row_sum m kernel w h s (x + i) y c oy) n l l'
  unfolding row_sum
  row_added {row₀} {row} {l} {l'} bytes of_line some e wide a =
      added_as n (λ i c. in_order m.columns (by_row row i c)) (λ i c. row_sum m kernel w h s (x + i) y c oy) a
      (λ i c p q t. rw e (in_order_ext m.columns (by_row row i c) (tapped m kernel w s (x + i) c line oy) t (λ ox u t. same i c ox t p q u)))
    where
      same : (i c ox : ℕ) (t : Float) → i < n → c < 4 → ox < m.columns → by_row row i c ox t ≡ tapped m kernel w s (x + i) c line oy ox t
      same i c ox t p q u =
          let o : x + (i + ox) ≡ x + i + ox = omega arith in
          let v = place m.edge_mode m.target_x w (x + i + ox) in
          let inside = placed m.target_x w (x + i + ox) some m.edge_mode in
          let z : 4 * (line * w) + (4 * v + c) ≡ byte_at w v line c = omega arith in
          let r : get_or row (4 * (i + ox) + c) nan ≡ normalized (get_or s (byte_at w v line c) 0) =
          rw o at (wide.inside (i + ox) c (omega arith) (omega arith) q) ∙ ap normalized (of_line (4 * v + c) (omega arith) ∙ ap (λ (j : ℕ). get_or s j 0) z) in
          ap (λ (f : Float). cond (is_read m.edge_mode m.target_x w (x + i + ox)) (t ⊕ f ⊗ turned m kernel oy ox) t) r

-- The two passes: rows one after the other, then all columns at once, make the extremum over the rectangle.
use Prim.Native.Nat.{ℕ, suc, ◌+◌, ◌*◌, ◌%◌, ◌≤◌, ◌<◌, zero-le}
use mathlib.Core.Path.{◌≡◌, sym, ap, ◌∙◌}
use mathlib.Core.List.{List}
use mathlib.Core.Logic.{⊎_elim}
use native.Mathlib.Nat.{mul-suc, not-suc-le-zero, le_of_suc-le-suc, eq-or-lt_of_le}
use native.Mathlib.Numerals.{add-one}
use native.Mathlib.Omega.{arith}
use lib.ListN.{length, get_or}
use Rattle.sheet.specs.Pixel.{column, row, byte_at}
use Rattle.sheet.proofs.Places.{rows, place_inside, column_inside, row_inside, byte_place}
use Rattle.sheet.proofs.Tabulated.{tabulated}
use Rattle.morphology.specs.declared.operator.MorphologyOperator.{MorphologyOperator}
use Rattle.morphology.specs.Extremum.{window}
use Rattle.morphology.specs.Inner.Lines.{Lines, Spread, Rows, place}
use Rattle.morphology.specs.Morphology.{spread_at, spread_over}
use Rattle.morphology.proofs.Windows.{window_ext}
use Rattle.morphology.proofs.Spreading.{shift_inside}

-- one row more ends where the next begins
pub next_row : (w y : ℕ) → 4 * w * (y + 1) ≡ 4 * w * y + 4 * w
next_row w y = ap (λ (n : ℕ). 4 * w * n) (add-one y) ∙ mul-suc (4 * w) y

module _ (op : MorphologyOperator) (r w h : ℕ) (src : List ℕ) where
  pub rows_none : (d : List ℕ) → d ≡ src → Rows op r w h 0 src d
  rows_none d e = record {
    within = zero-le;
    same = ap length e;
    spread = λ x y c p q l. absurd (not-suc-le-zero q);
    rest = λ k l. ap (λ (s : List ℕ). get_or s k 0) e;
  }

  module _ (y : ℕ) (d : List ℕ) (e : length src ≡ 4 * w * h) (before : Rows op r w h y src d) (q : y < h) where
    pub row_lines : r < w → Lines r 4 w (4 * w * y) src d
    row_lines s =
        let l = shift_inside (4 * w) (y + 1) h (omega arith) in
        let n = next_row w y in
        record { short = s; inside = omega arith; same = before.same; agree = λ k a b. before.rest k a }

    pub rows_more : (d' : List ℕ) → Spread op r 4 w (4 * w * y) src d d' → Rows op r w h (y + 1) src d'
    rows_more d' s = record {
      within = omega arith;
      same = s.same ∙ before.same;
      spread = λ x y' c p l m. ⊎_elim (λ z. here x y' c p z m) (λ z. earlier x y' c p z m) (eq-or-lt_of_le (le_of_suc-le-suc (let t : suc y' ≤ suc y = omega arith in t)));
      rest = λ k l. let n = next_row w y in s.after k (omega arith) ∙ before.rest k (omega arith);
    }
      where
        earlier : (x y' c : ℕ) → x < w → y' < y → c < 4 → get_or d' (byte_at w x y' c) 0 ≡ window op r w (λ u. get_or src (byte_at w u y' c) 0) x
        earlier x y' c p l m = s.before (byte_at w x y' c) (place_inside w y x y' c p l m) ∙ before.spread x y' c p l m

        here : (x y' c : ℕ) → x < w → y' ≡ y → c < 4 → get_or d' (byte_at w x y' c) 0 ≡ window op r w (λ u. get_or src (byte_at w u y' c) 0) x
        here x y' c p z m =
            let i : (u : ℕ) → byte_at w u y' c ≡ 4 * w * y + c + 4 * u = λ u. ap (λ (n : ℕ). byte_at w u n c) z ∙ omega (arith, rows w y) in
            ap (λ (k : ℕ). get_or d' k 0) (i x) ∙ (s.inside c x m p ∙ window_ext op r w (place src 4 (4 * w * y) c) (λ u. get_or src (byte_at w u y' c) 0) x p (λ u a b l. ap (λ (k : ℕ). get_or src k 0) (sym (i u))))

-- the columns' pass over the rows' pass
module _ (op : MorphologyOperator) (rx ry w h : ℕ) (src mid mid' new : List ℕ) (wide : 0 < w) (e : length src ≡ 4 * w * h) (across : Rows op rx w h h src mid) (down : Spread op ry (4 * w) h 0 mid mid' new) (same : length mid' ≡ 4 * w * h) where
  at_place : (x y c : ℕ) → x < w → y < h → c < 4 → get_or new (byte_at w x y c) 0 ≡ window op ry h (λ v. window op rx w (λ u. get_or src (byte_at w u v c) 0) x) y
  at_place x y c p q m =
      let i : (v : ℕ) → byte_at w x v c ≡ 0 + (4 * x + c) + 4 * w * v = λ v. omega (arith, rows w v) in
      ap (λ (k : ℕ). get_or new k 0) (i y) ∙ (down.inside (4 * x + c) y (omega arith) q ∙ window_ext op ry h (place mid (4 * w) 0 (4 * x + c)) (λ v. window op rx w (λ u. get_or src (byte_at w u v c) 0) x) y q (λ v a b l. ap (λ (k : ℕ). get_or mid k 0) (sym (i v)) ∙ across.spread x v c p l m))

  at_byte : (k : ℕ) → k < 4 * w * h → get_or new k 0 ≡ spread_at op rx ry w h src k
  at_byte k l =
      ap (λ (n : ℕ). get_or new n 0) (byte_place w h k wide l) ∙ at_place (column w k) (row w k) (k % 4) (column_inside w h k wide l) (row_inside w h k wide l) (omega arith)

  pub passes : new ≡ spread_over op rx ry w h src
  unfolding spread_over
  passes = tabulated new (4 * w * h) (spread_at op rx ry w h src) (down.same ∙ same) at_byte

-- all columns together are lines from the first byte on
pub column_lines : (r w h : ℕ) (s d : List ℕ) → r < h → length s ≡ 4 * w * h → d ≡ s → Lines r (4 * w) h 0 s d
column_lines r w h s d q e z = record { short = q; inside = omega arith; same = ap length z; agree = λ k a b. ap (λ (l : List ℕ). get_or l k 0) z }

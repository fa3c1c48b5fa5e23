-- The columns of a strip, stored one after the other.
use Prim.Native.Nat.{ℕ, suc, ◌+◌, ◌-◌, ◌*◌, ◌≤◌, ◌<◌}
use mathlib.Core.Path.{◌≡◌, sym, ap, ◌∙◌}
use mathlib.Core.List.{List}
use native.Mathlib.Nat.{mul-le-mul_right}
use native.Mathlib.Omega.{arith}
use borrow.Author.Count.{below_more}
use borrow.Rule.Slice.PartMut.{put_mid}
use lib.ListN.{length, drop}
use lib.Ieee.{Float}
use Rattle.std.specs.List.{slice_range}
use Rattle.std.proofs.lemmas.Slice.{between_is, between-put_mid, take-put_mid_below}
use Rattle.sheet.specs.Inner.Strips.{strip_limit}
use Rattle.turbulence.specs.declared.Turbulence.{Turbulence}
use Rattle.turbulence.specs.declared.tables.Tables.{Tables}
use Rattle.turbulence.specs.declared.noise.ColumnOctave.{ColumnOctave}
use Rattle.turbulence.specs.Inner.Rows.{column_point}
use Rattle.turbulence.specs.Inner.Columns.{ColumnAt, ColumnsOf}

-- ---- the room
pub columns_fit : (i octaves : ℕ) → i < strip_limit → octaves ≤ 8 → i * octaves + octaves ≤ 8 * strip_limit
columns_fit i octaves h most =
    let more : suc i * octaves ≤ strip_limit * octaves = mul-le-mul_right octaves h in
    omega arith

-- ---- the columns
-- what was stored before a stretch stands as it was
kept : {A : Type 0} (xs ys : List A) (a k i j : ℕ) → j ≤ a → a ≤ length xs → slice_range (put_mid a k xs ys) i j ≡ slice_range xs i j
kept xs ys a k i j h l = between_is (put_mid a k xs ys) i j ∙ ap (drop i) (take-put_mid_below a k xs ys j h l) ∙ sym (between_is xs i j)

module _ (t : Turbulence) (tables : Tables) (first : ℕ) where
  -- a column more
  pub columns_more : (n : ℕ) (columns column : List ColumnOctave) {x0 : Float} → n * t.num_octaves + t.num_octaves ≤ length columns → length column ≡ t.num_octaves → x0 ≡ column_point t (first + n) → ColumnAt tables x0 column → ColumnsOf t tables first n columns
      → ColumnsOf t tables first (n + 1) (put_mid (n * t.num_octaves) (n * t.num_octaves + t.num_octaves - n * t.num_octaves) columns column)
  columns_more n columns column {x0} room long p stored c =
      below_more (λ i. ColumnAt tables (column_point t (first + i)) (slice_range all (i * t.num_octaves) (i * t.num_octaves + t.num_octaves))) n old new
    where
      all : List ColumnOctave
      all = put_mid (n * t.num_octaves) (n * t.num_octaves + t.num_octaves - n * t.num_octaves) columns column

      old : (i : ℕ) → i < n → ColumnAt tables (column_point t (first + i)) (slice_range all (i * t.num_octaves) (i * t.num_octaves + t.num_octaves))
      old i h =
          let before : suc i * t.num_octaves ≤ n * t.num_octaves = mul-le-mul_right t.num_octaves h in
          rw (kept columns column (n * t.num_octaves) (n * t.num_octaves + t.num_octaves - n * t.num_octaves) (i * t.num_octaves) (i * t.num_octaves + t.num_octaves) (omega arith) (omega arith)) (c i h)

      new : ColumnAt tables (column_point t (first + n)) (slice_range all (n * t.num_octaves) (n * t.num_octaves + t.num_octaves))
      new = rw (between-put_mid (n * t.num_octaves) (n * t.num_octaves + t.num_octaves - n * t.num_octaves) columns column (n * t.num_octaves + t.num_octaves) (omega arith) (omega arith), ← p) stored

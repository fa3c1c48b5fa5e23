-- A scale of 0 leaves the picture: whatever the map is, each target is its own place.
use Rattle.std.proofs.Common.{◌≡◌, ℕ, ◌*◌, ◌<◌, List, length, get_or, sym, ap, ◌∙◌, lt_of_lt_of_le, arith, lt-ltb}
use lib.Ieee.{Float, of_bits}
use Rattle.floats.specs.Constants.{c0}
use Rattle.sheet.specs.Pixel.{column, row}
use Rattle.sheet.specs.Size.{Sized}
use Rattle.sheet.specs.Answer.{Done}
use Rattle.sheet.proofs.Places.{column_inside, row_inside, byte_place}
use Rattle.sheet.proofs.Tabulated.{tabulated}
use Rattle.displacement_map.specs.declared.ColorChannel.{ColorChannel}
use Rattle.displacement_map.specs.DisplacementMap.{scales_answer, map_at, displaced_at, displaced}
use Rattle.displacement_map.proofs.Distance.{accepted, lands_at}
use Rattle.displacement_map.proofs.Bytes.{byte_few}

module _ (xs ys : ColorChannel) (sx sy : Float) (w h : ℕ) (src map : List ℕ) (sized : Sized w h) (tests : scales_answer sx sy c0 ≡ Done) (e : length src ≡ 4 * w * h) where
  own_place : (k : ℕ) → k < 4 * w * h → get_or src k 0 ≡ displaced_at xs ys sx sy c0 w h src map k
  unfolding of_bits
  own_place k l =
      let scales = accepted sx sy c0 tests in
      let i = column_inside w h k sized.wide l in
      let j = row_inside w h k sized.wide l in
      let x = lands_at (column w k) (map_at xs map k) sx c0 (lt_of_lt_of_le i sized.wide_most) (byte_few xs map k) scales.column scales.map (omega arith) in
      let y = lands_at (row w k) (map_at ys map k) sy c0 (lt_of_lt_of_le j sized.high_most) (byte_few ys map k) scales.row scales.map (omega arith) in
      ap (λ (n : ℕ). get_or src n 0) (byte_place w h k sized.wide l)
      ∙ sym (rw (x, y, lt-ltb (column w k) w i, lt-ltb (row w k) h j))

  pub displaced_by_none : displaced xs ys sx sy c0 w h src map ≡ src
  unfolding displaced
  displaced_by_none = sym (tabulated src (4 * w * h) (displaced_at xs ys sx sy c0 w h src map) e own_place)

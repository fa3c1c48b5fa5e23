-- Every byte that a byte of a Matrix's result reads is needed, so its reach is the least: under a matrix of ones each channel is the sum of all four.
-- docs/LAW.md counts all four channels of the pixel for the other kinds too. There some are not needed: Saturate and HueRotate keep alpha, which so depends on no
-- colour, and their colours do not depend on alpha; LuminanceToAlpha's alpha depends on the three colours, and its colours, which are 0, on nothing.
use Prim.Native.Nat.{ℕ, zero, suc, ◌+◌, ◌*◌, ◌/◌, ◌%◌, ◌≤◌, ◌<◌}
use mathlib.Core.Path.{◌≡◌, refl, ap, ◌∙◌}
use mathlib.Core.Bool.{Bool, true, false, cond}
use mathlib.Core.List.{List, [], ◌∷◌}
use native.Mathlib.Omega.{arith}
use borrow.Author.Tests.{eqb-true, eqb-false}
use lib.ListN.{length, get_or}
use lib.Dec.{eqb}
use lib.Ieee.{Float, le, of_bits}
use Rattle.floats.specs.Constants.{c0, c1}
use Rattle.floats.specs.Channel.{normalized, from_normalized}
use Rattle.floats.proofs.ByteNumbers.{neutral}
use Rattle.sheet.specs.Answer.{Done}
use Rattle.sheet.proofs.Apart.{Needed, all_but, length_all_but, at_but, not_at_but, needed}
use Rattle.sheet.proofs.Tabulated.{get_d_tabulate}
use Rattle.pool.specs.declared.Numbers.{Numbers}
use Rattle.pool.specs.Pool.{all, is_in, numbers_of, numbers_answer, range_answer}
use Rattle.color_matrix.specs.declared.ColorMatrix.TheVariants.{Matrix}
use Rattle.color_matrix.specs.declared.pixel.Row.{Row}
use Rattle.color_matrix.specs.Rows.{row_of, sum}
use Rattle.color_matrix.specs.ColorMatrix.{matrix_answer, twenty_answer, matrix_at, matrixed, recoloured}
use Rattle.color_matrix.specs.Reads.{Reads}

-- 1.0 at the four channels of every row, and nothing added
abbrev pub ones : List Float
ones =
    c1 ∷ c1 ∷ c1 ∷ c1 ∷ c0 ∷
    c1 ∷ c1 ∷ c1 ∷ c1 ∷ c0 ∷
    c1 ∷ c1 ∷ c1 ∷ c1 ∷ c0 ∷
    c1 ∷ c1 ∷ c1 ∷ c1 ∷ c0 ∷
    []

-- the whole of that pool
abbrev pub twenty : Numbers
twenty = record { start = 0; count = 20 }

pub ones_accepted : matrix_answer (Matrix twenty) ones ≡ Done
unfolding twenty_answer range_answer is_in numbers_of numbers_answer all le of_bits
ones_accepted = refl

abbrev ones_row : Row
ones_row = record { r = c1; g = c1; b = c1; a = c1; added = c0 }

each_row : (c : ℕ) → c < 4 → row_of ones c ≡ ones_row
each_row zero h = refl
each_row (suc zero) h = refl
each_row (suc (suc zero)) h = refl
each_row (suc (suc (suc zero))) h = refl
each_row (suc (suc (suc (suc c)))) h = let no : ⊥ = omega arith in absurd no

-- where channel i is v and the others are 0, the sum is v
summed : (i v : ℕ) → i < 4 → v ≤ 255 → from_normalized (sum ones_row (record {
  r = normalized (cond (eqb i 0) v 0);
  g = normalized (cond (eqb i 1) v 0);
  b = normalized (cond (eqb i 2) v 0);
  a = normalized (cond (eqb i 3) v 0);
})) ≡ v
unfolding sum
summed zero v h l = simp neutral
summed (suc zero) v h l = simp neutral
summed (suc (suc zero)) v h l = simp neutral
summed (suc (suc (suc zero))) v h l = simp neutral
summed (suc (suc (suc (suc i)))) v h l = omega arith

module _ (n k j i : ℕ) (whole : n % 4 ≡ 0) (l : k < n) (at : j ≡ 4 * (k / 4) + i) (small : i < 4) where
  inside : j < n
  inside = omega arith

  channel_at : (v p c : ℕ) → p ≡ 4 * (k / 4) + c → c < 4 → get_or (all_but n 0 j v) p 0 ≡ cond (eqb i c) v 0
  channel_at v p c e h = go (eqb i c) (eqb-true i c) (eqb-false i c)
    where
      go : (t : Bool) → (t ≡ true → i ≡ c) → (t ≡ false → i ≡ c → ⊥) → get_or (all_but n 0 j v) p 0 ≡ cond t v 0
      go true y z = let f = y refl in let q : p ≡ j = omega arith in ap (λ (m : ℕ). get_or (all_but n 0 j v) m 0) q ∙ at_but n 0 j inside v
      go false y z = not_at_but n 0 j inside v p (omega arith) (λ q. z refl (omega arith))

  byte_is : (v : ℕ) → v ≤ 255 → get_or (recoloured (Matrix twenty) ones (all_but n 0 j v)) k 0 ≡ v
  unfolding matrixed numbers_of is_in
  byte_is v h =
      get_d_tabulate (length (all_but n 0 j v)) (matrix_at ones (all_but n 0 j v)) k (let z = length_all_but n 0 j inside v in omega arith)
      ∙ rw (each_row (k % 4) (omega arith), channel_at v (4 * (k / 4)) 0 (omega arith) (omega arith), channel_at v (4 * (k / 4) + 1) 1 (omega arith) (omega arith), channel_at v (4 * (k / 4) + 2) 2 (omega arith) (omega arith), channel_at v (4 * (k / 4) + 3) 3 (omega arith) (omega arith))
      (summed i v small h)

-- in a sheet of whole pixels
pub reads_needed : (n k j : ℕ) → n % 4 ≡ 0 → k < n → Reads k j → Needed n j k (recoloured (Matrix twenty) ones)
reads_needed n k j whole l e =
    let at : j ≡ 4 * (k / 4) + j % 4 = omega arith in
    let small : j % 4 < 4 = omega arith in
    let z = byte_is n k j (j % 4) whole l at small 255 (omega arith) in
    needed n 0 j (omega arith) k (recoloured (Matrix twenty) ones) (omega arith) (byte_is n k j (j % 4) whole l at small 0 (omega arith)) (omega arith)

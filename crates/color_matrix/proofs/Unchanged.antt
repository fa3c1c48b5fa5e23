-- A matrix of ones on the diagonal changes nothing: in each row one product is the channel and all else is 0.
use Prim.Native.Nat.{ℕ, zero, suc, ◌+◌, ◌*◌, ◌/◌, ◌%◌, ◌≤◌, ◌<◌}
use mathlib.Core.Path.{◌≡◌, refl, sym, ap, ◌∙◌}
use mathlib.Core.List.{List, [], ◌∷◌}
use native.Mathlib.Omega.{arith}
use lib.ListN.{length, get_or}
use lib.Ieee.{Float}
use Rattle.floats.specs.Constants.{c0, c1}
use Rattle.floats.specs.Channel.{normalized, from_normalized}
use Rattle.floats.proofs.ByteNumbers.{neutral}
use Rattle.sheet.proofs.Tabulated.{tabulated}
use Rattle.sheet.proofs.Apart.{Bytes}
use Rattle.color_matrix.specs.Rows.{row_of, sum}
use Rattle.color_matrix.specs.ColorMatrix.{matrix_at, matrixed}

-- 1.0 on the diagonal of the four channels, 0.0 elsewhere
abbrev pub diagonal : List Float
diagonal =
    c1 ∷ c0 ∷ c0 ∷ c0 ∷ c0 ∷
    c0 ∷ c1 ∷ c0 ∷ c0 ∷ c0 ∷
    c0 ∷ c0 ∷ c1 ∷ c0 ∷ c0 ∷
    c0 ∷ c0 ∷ c0 ∷ c1 ∷ c0 ∷
    []

-- the byte of channel c, of a pixel's four
kept : (c : ℕ) → c < 4 → (r g b a : ℕ) → r ≤ 255 → g ≤ 255 → b ≤ 255 → a ≤ 255 → from_normalized (sum (row_of diagonal c) (record { r = normalized r; g = normalized g; b = normalized b; a = normalized a })) ≡ get_or (r ∷ g ∷ b ∷ a ∷ []) c 0
unfolding sum
kept zero h r g b a hr hg hb ha = simp neutral
kept (suc zero) h r g b a hr hg hb ha = simp neutral
kept (suc (suc zero)) h r g b a hr hg hb ha = simp neutral
kept (suc (suc (suc zero))) h r g b a hr hg hb ha = simp neutral
kept (suc (suc (suc (suc c)))) h r g b a hr hg hb ha = omega arith

own_channel : (s : List ℕ) (k c : ℕ) → c < 4 → get_or (get_or s k 0 ∷ get_or s (k + 1) 0 ∷ get_or s (k + 2) 0 ∷ get_or s (k + 3) 0 ∷ []) c 0 ≡ get_or s (k + c) 0
own_channel s k zero h = ap (λ (j : ℕ). get_or s j 0) (let z : k ≡ k + 0 = omega arith in z)
own_channel s k (suc zero) h = refl
own_channel s k (suc (suc zero)) h = refl
own_channel s k (suc (suc (suc zero))) h = refl
own_channel s k (suc (suc (suc (suc c)))) h = omega arith

pub diagonal_changes_nothing : (s : List ℕ) → Bytes s → matrixed diagonal s ≡ s
unfolding matrixed
diagonal_changes_nothing s bytes =
    sym (tabulated s (length s) (matrix_at diagonal s) refl
    (λ k l.
    let q = 4 * (k / 4) in
    let z : k ≡ q + k % 4 = omega arith in
    sym (kept (k % 4) (omega arith) _ _ _ _ (bytes q) (bytes (q + 1)) (bytes (q + 2)) (bytes (q + 3)) ∙ own_channel s q (k % 4) (omega arith) ∙ ap (λ (j : ℕ). get_or s j 0) (sym z))))

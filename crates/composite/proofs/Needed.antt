-- Every byte that a byte of the result reads in either input is needed, so its reach is the least: by k2 = 1 or k3 = 1 alone, in a sheet of bytes 255, a colour 0 gives 0,
-- and an alpha 0 clears its pixel.
use Prim.Native.Nat.{ℕ, ◌+◌, ◌*◌, ◌/◌, ◌%◌, ◌<◌}
use mathlib.Core.Path.{◌≡◌, refl, sym, ap, ◌∙◌}
use mathlib.Core.List.{List}
use mathlib.Core.Logic.{⊎_elim}
use native.Mathlib.Omega.{arith}
use native.Mathlib.Decide.{ℕ_discrete}
use lib.ListN.{length, get_or}
use lib.Ieee.{Float}
use Rattle.sheet.proofs.Apart.{Bytes, Needed, all_but, length_all_but, at_but, not_at_but, all_same, needed}
use Rattle.sheet.proofs.Tabulated.{get_d_tabulate}
use Rattle.composite.specs.Arithmetic.{calc}
use Rattle.composite.specs.Composite.{alpha_at, composed_at, composed}
use Rattle.composite.specs.Reads.{Reads}
use Rattle.composite.proofs.Unchanged.{first_alone, second_alone, Own, first_own, second_own, channel_by, channel_kept, channel_cleared}

-- byte k of a sheet s with another sheet t, by the sum f
abbrev byte_by : (ℕ → ℕ → Float → Float) → List ℕ → ℕ → List ℕ → ℕ
byte_by f t k s = channel_by f (k % 4) (get_or s k 0) (get_or t k 0) (alpha_at s k) (alpha_at t k)

module _ (f : ℕ → ℕ → Float → Float) (own : Own f) (n k j : ℕ) (whole : n % 4 ≡ 0) (l : k < n) (t : List ℕ) (bytes : Bytes t) (r : Reads k j) where
  inside : j < n
  inside = ⊎_elim (λ e. omega arith) (λ e. omega arith) r

  raised : byte_by f t k (all_but n 255 j 255) ≡ 255
  raised =
      let x = all_same n 255 j inside k l in
      let a = all_same n 255 j inside (4 * (k / 4) + 3) (omega arith) in
      rw (x, a) (sym (channel_kept f own (k % 4) 255 (get_or t k 0) 255 (alpha_at t k) (omega arith) (omega arith) (bytes k) (bytes (4 * (k / 4) + 3)) (λ e. refl)))

  lowered : byte_by f t k (all_but n 255 j 0) ≡ 0
  lowered = go (ℕ_discrete j (4 * (k / 4) + 3))
    where
      go : Dec (j ≡ 4 * (k / 4) + 3) → byte_by f t k (all_but n 255 j 0) ≡ 0
      go (yes e) =
          let a : alpha_at (all_but n 255 j 0) k ≡ 0 = ap (λ (i : ℕ). get_or (all_but n 255 j 0) i 0) (sym e) ∙ at_but n 255 j inside 0 in
          rw a (sym (channel_cleared f own (k % 4) (get_or (all_but n 255 j 0) k 0) (get_or t k 0) (alpha_at t k) (bytes (4 * (k / 4) + 3))))
      go (no d) =
          let at : j ≡ k = ⊎_elim (λ e. e) (λ e. absurd (d e)) r in
          let x : get_or (all_but n 255 j 0) k 0 ≡ 0 = ap (λ (i : ℕ). get_or (all_but n 255 j 0) i 0) (sym at) ∙ at_but n 255 j inside 0 in
          let a = not_at_but n 255 j inside 0 (4 * (k / 4) + 3) (omega arith) (λ e. d (sym e)) in
          rw (x, a) (sym (channel_kept f own (k % 4) 0 (get_or t k 0) 255 (alpha_at t k) (omega arith) (omega arith) (bytes k) (bytes (4 * (k / 4) + 3)) (λ e. let no : ⊥ = d (omega arith) in absurd no)))

  needed_by : (g : List ℕ → List ℕ) → ((s : List ℕ) → length s ≡ n → get_or (g s) k 0 ≡ byte_by f t k s) → Needed n j k g
  needed_by g is =
      let full = is (all_but n 255 j 255) (length_all_but n 255 j inside 255) ∙ raised in
      needed n 255 j inside k g (omega arith) (is (all_but n 255 j 0) (length_all_but n 255 j inside 0) ∙ lowered) (omega arith)

-- in sheets of whole pixels, whatever the other input is
module _ (n k j : ℕ) (whole : n % 4 ≡ 0) (l : k < n) (t : List ℕ) (bytes : Bytes t) (r : Reads k j) where
  pub reads_needed_first : Needed n j k (λ s. composed first_alone s t)
  unfolding composed
  reads_needed_first =
      needed_by (calc first_alone) first_own n k j whole l t bytes r (λ s. composed first_alone s t)
      (λ s e. get_d_tabulate (length s) (composed_at first_alone s t) k (omega arith))

  pub reads_needed_second : length t ≡ n → Needed n j k (λ s. composed second_alone t s)
  unfolding composed
  reads_needed_second same =
      needed_by (λ c d max. calc second_alone d c max) second_own n k j whole l t bytes r (λ s. composed second_alone t s)
      (λ s e. get_d_tabulate (length t) (composed_at second_alone t s) k (omega arith))

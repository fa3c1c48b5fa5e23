-- The steps with lists: a row of numbers, and then a matrix, four functions, or a kernel and a row.
use Prim.Native.Nat.{ℕ, zero, suc, ◌≤◌}
use mathlib.Core.Path.{◌≡◌, refl, sym, ◌∙◌}
use mathlib.Core.List.{List, [], ◌∷◌}
use native.Mathlib.Omega.{arith}
use lib.Dec.{eqb}
use lib.Ieee.{binary32, of_bits}
use Rattle.std.specs.Prelude.{Ok}
use Rattle.number.specs.declared.reader.Reader.{Reader}
use Rattle.number.specs.Words.{Words, Got, got, wrong, and_then}
use Rattle.pool.specs.declared.Numbers.{Numbers}
use Rattle.color_matrix.specs.declared.ColorMatrix.{ColorMatrix as ColorMatrixType}
use Rattle.component_transfer.specs.declared.TransferFunction.{TransferFunction}
use Rattle.recipe.specs.declared.Work.TheVariants.{ColorMatrix, ComponentTransfer, ConvolveMatrix}
use Rattle.recipe.specs.declared.Step.{Step}
use Rattle.message.specs.declared.lists.Pool.{Pool}
use Rattle.message.specs.Fields.{Field, float, up_to, numbers, read_numbers, read_field, read, pooled_by, pooled}
use Rattle.message.specs.Steps.{range, colour, matrix_at, function, past, function_of, step, edge_by, form_of, read_form}
use Rattle.message.specs.Inner.Reading.{words, Took, Fitting, Taken, read_block, StepFine}
use Rattle.message.proofs.PlainRows.{bounds_of, values_of, row_read}
use Rattle.message.proofs.Taking.{none_took, field_wrong, fields_wrong, fields_took, no_fields, form_taken}

abbrev pub any_two : List ℕ
any_two = 4294967295 ∷ 4294967295 ∷ []

-- ---- a colour matrix
module _ (ws : Words) (mid : Reader) {a o : ℕ} (e : read_block any_two ws ≡ got (a ∷ o ∷ []) (words mid)) {n : Reader} {p q : Pool} where
  pub colour_form :
      {m : ColorMatrixType} → Fitting (read_field colour (words mid)) (λ v l. (m ≡ matrix_at p.used v.0 v.1) × (pooled_by colour v ≡ l)) n p q
      → Taken (read_form p.used (form_of 2) ws) StepFine n p q (Ok (record { work = ColorMatrix a m; output = o }))
  unfolding pooled
  colour_form {m} w = form_taken 2 refl p.used ws mid e (fields_took colour [] (words mid) w.took (no_fields w.took.room)) refl (rw w.fits.0) (rw w.fits.1)

-- ---- four functions
abbrev pub functions : ℕ → List Field
functions zero = []
functions (suc n) = function ∷ functions n

abbrev FunctionFits : Reader → Reader → Pool → Pool → TransferFunction → Type 0
FunctionFits r n p q f = Fitting (read_field function (words r)) (λ v l. (f ≡ function_of p.used v) × (pooled_by function v ≡ l)) n p q

module _ (ws : Words) (m₀ : Reader) {a o : ℕ} (e : read_block any_two ws ≡ got (a ∷ o ∷ []) (words m₀)) (m₁ m₂ m₃ : Reader) {m₄ : Reader} {p₀ p₁ p₂ p₃ p₄ : Pool} where
  pub transfer_form :
      {r g b l : TransferFunction} → FunctionFits m₀ m₁ p₀ p₁ r → FunctionFits m₁ m₂ p₁ p₂ g → FunctionFits m₂ m₃ p₂ p₃ b → FunctionFits m₃ m₄ p₃ p₄ l
      → Taken (read_form p₀.used (form_of 3) ws) StepFine m₄ p₀ p₄ (Ok (record { work = ComponentTransfer a r g b l; output = o }))
  unfolding pooled
  transfer_form {r} {g} {b} {l} w₁ w₂ w₃ w₄ =
      let u₁ : past p₀.used w₁.value ≡ p₁.used = rw w₁.fits.1 (sym w₁.took.counted) in
      let u₂ : past p₁.used w₂.value ≡ p₂.used = rw w₂.fits.1 (sym w₂.took.counted) in
      let u₃ : past p₂.used w₃.value ≡ p₃.used = rw w₃.fits.1 (sym w₃.took.counted) in
      form_taken 3 refl p₀.used ws m₀ e
      (fields_took function (functions 3) (words m₀) w₁.took
      (fields_took function (functions 2) (words m₁) w₂.took
      (fields_took function (functions 1) (words m₂) w₃.took
      (fields_took function [] (words m₃) w₄.took (no_fields w₄.took.room)))))
      refl (rw (u₁, u₂, u₃, w₁.fits.0, w₂.fits.0, w₃.fits.0, w₄.fits.0)) (rw (w₁.fits.1, w₂.fits.1, w₃.fits.1, w₄.fits.1))

-- ---- a kernel, and the numbers after it
abbrev pub kernel_tail : List Field
kernel_tail = float ∷ float ∷ up_to 2 ∷ up_to 1 ∷ []

tail_read : (ws : Words) → read kernel_tail ws ≡ and_then (read_block (bounds_of kernel_tail) ws) (λ l rest. got (values_of kernel_tail l tt) rest)
unfolding read
tail_read ws = row_read kernel_tail refl ws ∙ go (read_block (bounds_of kernel_tail) ws)
  where
    go : (g : Got (List ℕ)) → and_then g (λ l rest. and_then (read [] rest) (λ vs rest'. got (values_of kernel_tail l vs) rest')) ≡ and_then g (λ l rest. got (values_of kernel_tail l tt) rest)
    go (got l rest) = refl
    go (wrong p) = refl

module _ (m : Reader) where
  pub kernel_wrong : {w : ℕ} → read_numbers (words m) ≡ wrong w → read (numbers ∷ kernel_tail) (words m) ≡ wrong w
  unfolding read_field
  kernel_wrong f = field_wrong numbers kernel_tail (words m) f

  module _ {n : Reader} {p q : Pool} {k : Numbers} (w : Fitting (read_numbers (words m)) (λ v l. (v ≡ l) × (k ≡ range p.used v)) n p q) where
    pub kernel_tail_wrong : {x : ℕ} → read_block (bounds_of kernel_tail) (words n) ≡ wrong x → read (numbers ∷ kernel_tail) (words m) ≡ wrong x
    unfolding read_field
    kernel_tail_wrong f = fields_wrong numbers kernel_tail (words m) w.took (tail_read (words n) ∙ rw f)

    pub kernel_form :
        (ws : Words) {a o columns rows x y : ℕ} → read_block (4294967295 ∷ 4294967295 ∷ 4294967295 ∷ 4294967295 ∷ 4294967295 ∷ 4294967295 ∷ []) ws ≡ got (a ∷ o ∷ columns ∷ rows ∷ x ∷ y ∷ []) (words m)
        → (last : Reader) {d b e z : ℕ} → (read_block (4294967295 ∷ 4294967295 ∷ 2 ∷ 1 ∷ []) (words n) ≡ got (d ∷ b ∷ e ∷ z ∷ []) (words last)) × (n.at ≤ last.at)
        → {s : Step} → s ≡ step (ConvolveMatrix a (record {
          columns = columns;
          rows = rows;
          target_x = x;
          target_y = y;
          matrix = k;
          divisor = of_bits binary32 d;
          bias = of_bits binary32 b;
          edge_mode = edge_by e;
          preserve_alpha = eqb z 1;
        })) o
        → Taken (read_form p.used (form_of 5) ws) StepFine last p q (Ok s)
    unfolding read_field pooled
    kernel_form ws h last {d} {b} {e} {z} t {s} f =
        let r = w.took.room in
        let l = t.1 in
        let u : Took (read kernel_tail (words n)) (values_of kernel_tail (d ∷ b ∷ e ∷ z ∷ []) tt) [] last q q = none_took (tail_read (words n) ∙ rw t.0) (omega arith) in
        form_taken 5 refl p.used ws m h
        (fields_took numbers kernel_tail (words m) w.took u)
        refl (f ∙ rw w.fits.1) (rw w.fits.0)

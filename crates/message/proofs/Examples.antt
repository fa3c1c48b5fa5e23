-- Messages worked out: the first of docs/MESSAGES.md, one with numbers for the pool, a NaN, and one for each way of being wrong.
use Prim.Native.Nat.{ℕ}
use mathlib.Core.Path.{◌≡◌, refl}
use mathlib.Core.List.{List, [], ◌∷◌}
use lib.Ieee.{nan, binary32, of_bits, to_bits}
use Rattle.morphology.specs.declared.operator.MorphologyOperator.TheVariants.{Dilate}
use Rattle.color_matrix.specs.declared.ColorMatrix.TheVariants as matrix
use Rattle.recipe.specs.declared.Work.TheVariants.{Morphology, ColorMatrix}
use Rattle.recipe.specs.declared.Step.{Step}
use Rattle.number.specs.Number.{groups, groups_in, groups_at}
use Rattle.number.specs.Words.{words_from, words_at, bytes_of}
use Rattle.message.specs.Fields.{read_floats, read_numbers, read_shape, read_field, read, pooled, write_shape, write_field, write}
use Rattle.message.specs.Steps.{step, parts_of, words_of, read_form, read_step}
use Rattle.message.specs.Message.{read_steps, read_message, good, bad, steps_words, message_bytes}

-- one dilate of radius 1 by 0 from slot 0 to slot 1
dilate : Step
dilate = step (Morphology 0 Dilate (of_bits binary32 0x3f800000) (of_bits binary32 0)) 1

dilate_bytes : List ℕ
dilate_bytes = 0x01 ∷ 0x01 ∷ 0x00 ∷ 0x01 ∷ 0x00 ∷ 0x80 ∷ 0x80 ∷ 0x80 ∷ 0xfc ∷ 0x03 ∷ 0x00 ∷ []

dilate_is_read : read_message dilate_bytes ≡ good (record { steps = dilate ∷ []; numbers = [] })
unfolding dilate dilate_bytes read_message words_at words_from groups_at groups_in read_steps read_step read_form read read_field pooled
dilate_is_read = refl

dilate_is_written : message_bytes (parts_of [] dilate ∷ []) ≡ dilate_bytes
unfolding dilate dilate_bytes message_bytes bytes_of groups steps_words words_of write write_field to_bits of_bits
dilate_is_written = refl

-- a colour matrix of two numbers, which go to the pool
two_numbers :
    read_message (1 ∷ 2 ∷ 0 ∷ 1 ∷ 0 ∷ 2 ∷ 0 ∷ 1 ∷ [])
    ≡ good (record {
      steps = step (ColorMatrix 0 (matrix.Matrix (record { start = 0; count = 2 }))) 1 ∷ [];
      numbers = of_bits binary32 0 ∷ of_bits binary32 1 ∷ [];
    })
unfolding read_message words_at words_from groups_at groups_in read_steps read_step read_form read read_field read_shape read_numbers read_floats pooled
two_numbers = refl

-- a NaN is written as 7fc00000
nan_is_written : message_bytes (parts_of [] (step (ColorMatrix 0 (matrix.Saturate nan)) 1) ∷ []) ≡ 1 ∷ 2 ∷ 0 ∷ 1 ∷ 1 ∷ 0x80 ∷ 0x80 ∷ 0x80 ∷ 0xfe ∷ 0x07 ∷ []
unfolding message_bytes bytes_of groups steps_words words_of write write_field write_shape to_bits
nan_is_written = refl

-- the input's slot as 0x80 0x00, which is not the shortest form
longer_form : read_message (1 ∷ 1 ∷ 0x80 ∷ 0 ∷ 1 ∷ 0 ∷ 0 ∷ 0 ∷ []) ≡ bad 2
unfolding read_message words_at words_from groups_at groups_in read_steps read_step read_form read read_field pooled
longer_form = refl

-- no output
ends_early : read_message (1 ∷ 1 ∷ 0 ∷ []) ≡ bad 3
unfolding read_message words_at words_from groups_at groups_in read_steps read_step read_form read read_field pooled
ends_early = refl

left_over : read_message (1 ∷ 1 ∷ 0 ∷ 1 ∷ 0 ∷ 0 ∷ 0 ∷ 7 ∷ []) ≡ bad 7
unfolding read_message words_at words_from groups_at groups_in read_steps read_step read_form read read_field pooled
left_over = refl

-- no step has code 10; a later number that is not in shortest form comes too late
unknown_code : read_message (1 ∷ 10 ∷ 0x80 ∷ 0 ∷ []) ≡ bad 1
unfolding read_message words_at words_from groups_at groups_in read_steps read_step read_form read read_field pooled
unknown_code = refl

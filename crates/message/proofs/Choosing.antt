-- A kind, and what it calls for: nothing, one float, two, or a list.
use Prim.Native.Nat.{ℕ, ◌≤◌, ◌<◌}
use mathlib.Core.Path.{◌≡◌, refl, ◌∙◌}
use mathlib.Core.List.{List, [], ◌∷◌}
use borrow.Author.Tests.{lt-ltb, le-ltb}
use lib.ListN.{length, get_or}
use lib.Ieee.{Float, binary32, of_bits}
use Rattle.number.specs.declared.reader.Reader.{Reader}
use Rattle.number.specs.Words.{Words, word, stop, got, wrong, and_then}
use Rattle.message.specs.declared.lists.Pool.{Pool}
use Rattle.message.specs.Fields.{Shape, none, one, two, Payload, shape_of, choice, read_shape, read_field}
use Rattle.message.specs.Inner.Reading.{words, Took, read_block}
use Rattle.message.proofs.Taking.{none_took, made_took, took_as}

module _ (shapes : List Shape) (r : Reader) where
  pub no_kind : {w : ℕ} → words r ≡ stop w → read_field (choice shapes) (words r) ≡ wrong w
  unfolding read_field
  no_kind e = rw e

  module _ (m : Reader) {k : ℕ} (e : words r ≡ word r.at k (words m)) where
    pub unknown_kind : length shapes ≤ k → read_field (choice shapes) (words r) ≡ wrong r.at
    unfolding read_field
    unknown_kind h = rw (e, le-ltb k (length shapes) h)

    module _ (kind : ℕ) (is : k ≡ kind) (h : kind < length shapes) where
      pub kind_wrong : {w : ℕ} → read_shape (shape_of shapes kind) (words m) ≡ wrong w → read_field (choice shapes) (words r) ≡ wrong w
      unfolding read_field
      kind_wrong f = rw (e, is, lt-ltb kind (length shapes) h, f)

      pub kind_took :
          {v : Payload (shape_of shapes kind)} {l : List Float} {n : Reader} {p q : Pool} → Took (read_shape (shape_of shapes kind) (words m)) v l n p q
          → Took (read_field (choice shapes) (words r)) (kind, v) l n p q
      unfolding read_field
      kind_took t = took_as (rw (e, is, lt-ltb kind (length shapes) h)) (made_took t (λ v. (kind, v)))

-- ---- nothing, one float, two
module _ (m : Reader) where
  pub none_shape : {p : Pool} → p.used ≤ m.at → Took (read_shape none (words m)) tt [] m p p
  unfolding read_shape
  none_shape r = none_took refl r

  one_float : (ws : Words) → read_shape one ws ≡ and_then (read_block (4294967295 ∷ []) ws) (λ l rest. got (of_bits binary32 (get_or l 0 0)) rest)
  unfolding read_shape read_block
  one_float (word p k ws) = refl
  one_float (stop p) = refl

  two_floats :
      (ws : Words) → read_shape two ws ≡ and_then (read_block (4294967295 ∷ 4294967295 ∷ []) ws) (λ l rest. got (of_bits binary32 (get_or l 0 0), of_bits binary32 (get_or l 1 0)) rest)
  unfolding read_shape read_block
  two_floats (word p k (word q j ws)) = refl
  two_floats (word p k (stop q)) = refl
  two_floats (stop p) = refl

  pub one_wrong : {w : ℕ} → read_block (4294967295 ∷ []) (words m) ≡ wrong w → read_shape one (words m) ≡ wrong w
  one_wrong f = one_float (words m) ∙ rw f

  pub two_wrong : {w : ℕ} → read_block (4294967295 ∷ 4294967295 ∷ []) (words m) ≡ wrong w → read_shape two (words m) ≡ wrong w
  two_wrong f = two_floats (words m) ∙ rw f

  module _ (n : Reader) {h : List ℕ} where
    pub one_shape : read_block (4294967295 ∷ []) (words m) ≡ got h (words n) → {p : Pool} → p.used ≤ n.at → Took (read_shape one (words m)) (of_bits binary32 (get_or h 0 0)) [] n p p
    one_shape f r = none_took (one_float (words m) ∙ rw f) r

    pub two_shape :
        read_block (4294967295 ∷ 4294967295 ∷ []) (words m) ≡ got h (words n) → {p : Pool} → p.used ≤ n.at
        → Took (read_shape two (words m)) (of_bits binary32 (get_or h 0 0), of_bits binary32 (get_or h 1 0)) [] n p p
    two_shape f r = none_took (two_floats (words m) ∙ rw f) r

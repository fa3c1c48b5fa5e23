-- The step that parts make has these parts again, and ranges in the pool, where its numbers stand there.
use Prim.Native.Nat.{ℕ, zero, suc, ◌+◌, ◌≤◌, ◌<◌, min}
use mathlib.Core.Path.{◌≡◌, refl, sym, ap, ◌∙◌}
use mathlib.Core.Bool.{true, true≢false}
use mathlib.Core.List.{List, [], ◌∷◌, ◌++◌, append_assoc}
use native.Mathlib.Omega.{arith}
use native.Mathlib.Nat.{min-eq_left}
use borrow.Author.Tests.{le-leb, ltb-true}
use lib.ListN.{length, length-append}
use lib.Seq.{drop_at, take-append_seam}
use lib.Dec.{eqb}
use lib.Ieee.{Float}
use Rattle.pool.specs.Pool.{is_in, numbers_of}
use Rattle.message.specs.Fields.{Payload, shape_of, Field, Value, Values, up_to, float, pooled_by, pooled}
use Rattle.morphology.specs.Numbered.{operator_number}
use Rattle.convolve_matrix.specs.Numbered.{edge_mode_number}
use Rattle.displacement_map.specs.DisplacementMap.{channel_number}
use Rattle.message.specs.Steps.{range, matrix_shapes, matrix_at, matrix_in, function_shapes, function_at, operator_by, edge_by, channel_by, yes_code, light_by, light_parts, function, colour, function_in, function_of, past, transferred, is_code, form_of, Parts, parts_of, made_of, pooled_of}
use Rattle.message.specs.Answers.{matrix_ranges, function_ranges, ranges_of}
use Rattle.message.proofs.Fields.{Fit}
use Rattle.message.proofs.Ranges.{InPool, StepIn, in_both}

-- ---- numbers in the pool
-- the numbers l stand in the pool from `used` on, where ranges can name them
pub record Stands (used : ℕ) (pool l : List Float) : Type 0 where
  pub front : List Float
  pub rest : List Float
  pub is : pool ≡ front ++ (l ++ rest)
  pub at : length front ≡ used
  pub low : used + length l ≤ 4294967295

pub stands_first : {used : ℕ} {pool : List Float} (a b : List Float) → Stands used pool (a ++ b) → Stands used pool a
stands_first {used} a b h = record {
  front = h.front;
  rest = b ++ h.rest;
  is = h.is ∙ rw (append_assoc a b h.rest);
  at = h.at;
  low = let z = h.low in let y = length-append a b in omega arith;
}

pub stands_rest : {used : ℕ} {pool : List Float} (a b : List Float) → Stands used pool (a ++ b) → Stands (used + length a) pool b
stands_rest {used} a b h = record {
  front = h.front ++ a;
  rest = h.rest;
  is = h.is ∙ rw (append_assoc a b h.rest) (sym (append_assoc h.front a (b ++ h.rest)));
  at = length-append h.front a ∙ ap (λ (n : ℕ). n + length a) h.at;
  low = let z = h.low in let y = length-append a b in omega arith;
}

-- a range from `used` on has these numbers
range_in : {used : ℕ} {pool l : List Float} → Stands used pool l → (min used 4294967295 ≡ used) × (is_in (range used l) (length pool) ≡ true)
unfolding is_in
range_in {used} {pool} {l} h =
    let low = h.low in
    let at = h.at in
    let m : min used 4294967295 ≡ used = min-eq_left (omega arith) in
    let e = ap length h.is ∙ (length-append h.front (l ++ h.rest) ∙ ap (λ (n : ℕ). length h.front + n) (length-append l h.rest)) in
    (m, rw (m, le-leb (used + length l) (length pool) (omega arith)))

range_stands : {used : ℕ} {pool l : List Float} → Stands used pool l → numbers_of (range used l) pool ≡ l
unfolding numbers_of
range_stands {used} {pool} {l} h =
    let i = range_in h in
    rw (i.1, i.0, h.is, drop_at h.front (l ++ h.rest) used h.at, take-append_seam l h.rest)

-- ---- a code is that of what it names
operator_remade : (k : ℕ) → k < 2 → operator_number (operator_by k) ≡ k
operator_remade zero h = refl
operator_remade (suc zero) h = refl
operator_remade (suc (suc k)) h = absurd (omega arith)

edge_remade : (k : ℕ) → k < 3 → edge_mode_number (edge_by k) ≡ k
edge_remade zero h = refl
edge_remade (suc zero) h = refl
edge_remade (suc (suc zero)) h = refl
edge_remade (suc (suc (suc k))) h = absurd (omega arith)

channel_remade : (k : ℕ) → k < 4 → channel_number (channel_by k) ≡ k
channel_remade zero h = refl
channel_remade (suc zero) h = refl
channel_remade (suc (suc zero)) h = refl
channel_remade (suc (suc (suc zero))) h = refl
channel_remade (suc (suc (suc (suc k)))) h = absurd (omega arith)

yes_remade : (k : ℕ) → k < 2 → yes_code (eqb k 1) ≡ k
yes_remade zero h = refl
yes_remade (suc zero) h = refl
yes_remade (suc (suc k)) h = absurd (omega arith)

abbrev light_row : List Field
light_row = up_to 1 ∷ float ∷ float ∷ float ∷ []

light_remade : (k : ℕ) → k < 2 → (x y z : Float) → ◌≡◌ {A = Values light_row} (light_parts (light_by k x y z)) (k, (x, (y, (z, tt))))
light_remade zero h x y z = refl
light_remade (suc zero) h x y z = refl
light_remade (suc (suc k)) h x y z = absurd (omega arith)

-- ---- each kind of step
module _ (pool : List Float) where
  matrix_remade :
      (used : ℕ) (m : Value colour) → m.0 < 4 → Stands used pool (pooled_by colour m) → matrix_in pool (matrix_at used m.0 m.1) ≡ m
  matrix_remade used m k h = by m.0 m.1 k h
    where
      by :
          (n : ℕ) (v : Payload (shape_of matrix_shapes n)) → n < 4 → Stands used pool (pooled_by colour (n, v)) → ◌≡◌ {A = Value colour} (matrix_in pool (matrix_at used n v)) (n, v)
      by zero l k h = ap (λ (x : List Float). (0, x)) (range_stands h)
      by (suc zero) v k h = refl
      by (suc (suc zero)) v k h = refl
      by (suc (suc (suc zero))) v k h = refl
      by (suc (suc (suc (suc n)))) v k h = absurd (omega arith)

  function_remade :
      (used : ℕ) (f : Value function) → f.0 < 4 → Stands used pool (pooled_by function f) → function_in pool (function_of used f) ≡ f
  function_remade used f k h = by f.0 f.1 k h
    where
      by :
          (n : ℕ) (v : Payload (shape_of function_shapes n)) → n < 4 → Stands used pool (pooled_by function (n, v)) → ◌≡◌ {A = Value function} (function_in pool (function_at used n v)) (n, v)
      by zero v k h = refl
      by (suc zero) l k h = ap (λ (x : List Float). (1, x)) (range_stands h)
      by (suc (suc zero)) l k h = ap (λ (x : List Float). (2, x)) (range_stands h)
      by (suc (suc (suc zero))) v k h = refl
      by (suc (suc (suc (suc n)))) v k h = absurd (omega arith)

  -- the four functions' numbers, one after the other
  four_stand :
      (used : ℕ) (r g b a : Value function) → Stands used pool (pooled_by function r ++ (pooled_by function g ++ (pooled_by function b ++ (pooled_by function a ++ []))))
      → Stands used pool (pooled_by function r) × Stands (past used r) pool (pooled_by function g) × Stands (past (past used r) g) pool (pooled_by function b)
      × Stands (past (past (past used r) g) b) pool (pooled_by function a)
  four_stand used r g b a h =
      let pa = pooled_by function a ++ [] in
      let pb = pooled_by function b ++ pa in
      let pg = pooled_by function g ++ pb in
      let hg = stands_rest (pooled_by function r) pg h in
      let hb = stands_rest (pooled_by function g) pb hg in
      let ha = stands_rest (pooled_by function b) pa hb in
      (stands_first (pooled_by function r) pg h, stands_first (pooled_by function g) pb hg, stands_first (pooled_by function b) pa hb, stands_first (pooled_by function a) [] ha)

  -- the law of a code
  abbrev Again : ℕ → Type 0
  Again c =
      (used : ℕ) (v : Values (form_of c).row) → Fit (form_of c).row v → Stands used pool (pooled (form_of c).row v)
      → parts_of pool (made_of used (record { code = c; values = v })) ≡ record { code = c; values = v }

  morphology_remade : Again 1
  morphology_remade used v f h = rw (operator_remade v.1.1.0 f.1.1.0.0)

  color_matrix_remade : Again 2
  unfolding pooled
  color_matrix_remade used v f h =
      let m = v.1.1.0 in
      rw (matrix_remade used m f.1.1.0.0.0 (stands_first (pooled_by colour m) [] h))

  component_transfer_remade : Again 3
  unfolding pooled
  component_transfer_remade used v f h =
      let r = v.1.1.0 in
      let g = v.1.1.1.0 in
      let b = v.1.1.1.1.0 in
      let a = v.1.1.1.1.1.0 in
      let s = four_stand used r g b a h in
      rw (
        function_remade used r f.1.1.0.0.0 s.0,
        function_remade (past used r) g f.1.1.1.0.0.0 s.1,
        function_remade (past (past used r) g) b f.1.1.1.1.0.0.0 s.2,
        function_remade (past (past (past used r) g) b) a f.1.1.1.1.1.0.0.0 s.3,
      )

  convolve_matrix_remade : Again 5
  unfolding pooled
  convolve_matrix_remade used v f h =
      let k = v.1.1.1.1.1.1 in
      let g = f.1.1.1.1.1.1 in
      rw (
        range_stands (stands_first k.0 [] h),
        edge_remade k.1.1.1.0 g.1.1.1.0.0,
        yes_remade k.1.1.1.1.0 g.1.1.1.1.0.0,
      )

  displacement_map_remade : Again 6
  displacement_map_remade used v f h =
      rw (channel_remade v.1.1.1.0 f.1.1.1.0.0, channel_remade v.1.1.1.1.0 f.1.1.1.1.0.0)

  turbulence_remade : Again 7
  turbulence_remade used v f h =
      rw (yes_remade v.1.1.1.1.1.1.1.1.1.0 f.1.1.1.1.1.1.1.1.1.0.0)

  diffuse_lighting_remade : Again 8
  diffuse_lighting_remade used v f h =
      let l = v.1.1.1.1.1.1.1 in
      rw (light_remade l.0 f.1.1.1.1.1.1.1.0.0 l.1.0 l.1.1.0 l.1.1.1.0)

  specular_lighting_remade : Again 9
  specular_lighting_remade used v f h =
      let l = v.1.1.1.1.1.1.1.1 in
      rw (light_remade l.0 f.1.1.1.1.1.1.1.1.0.0 l.1.0 l.1.1.0 l.1.1.1.0)

  code_remade : (c : ℕ) → is_code c ≡ true → Again c
  code_remade zero k = absurd (true≢false (sym k))
  code_remade (suc zero) k = morphology_remade
  code_remade (suc (suc zero)) k = color_matrix_remade
  code_remade (suc (suc (suc zero))) k = component_transfer_remade
  code_remade (suc (suc (suc (suc zero)))) k = λ used v f h. refl
  code_remade (suc (suc (suc (suc (suc zero))))) k = convolve_matrix_remade
  code_remade (suc (suc (suc (suc (suc (suc zero)))))) k = displacement_map_remade
  code_remade (suc (suc (suc (suc (suc (suc (suc zero))))))) k = turbulence_remade
  code_remade (suc (suc (suc (suc (suc (suc (suc (suc zero)))))))) k = diffuse_lighting_remade
  code_remade (suc (suc (suc (suc (suc (suc (suc (suc (suc zero))))))))) k = specular_lighting_remade
  code_remade (suc (suc (suc (suc (suc (suc (suc (suc (suc (suc c)))))))))) k = let z = ltb-true (suc (suc (suc (suc (suc (suc (suc (suc (suc c))))))))) 9 k in absurd (omega arith)

  pub parts_remade : (used : ℕ) (q : Parts) → is_code q.code ≡ true → Fit (form_of q.code).row q.values → Stands used pool (pooled_of q) → parts_of pool (made_of used q) ≡ q
  parts_remade used q k f h = code_remade q.code k used q.values f h

  -- ---- and its ranges lie in the pool
  matrix_in_lem : (used k : ℕ) (v : Payload (shape_of matrix_shapes k)) → Stands used pool (pooled_by colour (k, v)) → InPool pool (matrix_ranges (matrix_at used k v))
  matrix_in_lem used zero l h = ((range_in h).1, tt)
  matrix_in_lem used (suc zero) v h = tt
  matrix_in_lem used (suc (suc zero)) v h = tt
  matrix_in_lem used (suc (suc (suc k))) v h = tt

  function_in_lem : (used k : ℕ) (v : Payload (shape_of function_shapes k)) → Stands used pool (pooled_by function (k, v)) → InPool pool (function_ranges (function_at used k v))
  function_in_lem used zero v h = tt
  function_in_lem used (suc zero) l h = ((range_in h).1, tt)
  function_in_lem used (suc (suc zero)) l h = ((range_in h).1, tt)
  function_in_lem used (suc (suc (suc zero))) v h = tt
  function_in_lem used (suc (suc (suc (suc k)))) v h = tt

  transfer_in :
      (used s : ℕ) (r g b a : Value function) → Stands used pool (pooled_by function r ++ (pooled_by function g ++ (pooled_by function b ++ (pooled_by function a ++ []))))
      → InPool pool (ranges_of (transferred used s r g b a))
  transfer_in used s r g b a h =
      let t = four_stand used r g b a h in
      let ug = past used r in
      let ub = past ug g in
      let ua = past ub b in
      let fr = function_ranges (function_of used r) in
      let fg = function_ranges (function_of ug g) in
      let fb = function_ranges (function_of ub b) in
      let fa = function_ranges (function_of ua a) in
      let rg = in_both pool fr fg (function_in_lem used r.0 r.1 t.0) (function_in_lem ug g.0 g.1 t.1) in
      let rgb = in_both pool (fr ++ fg) fb rg (function_in_lem ub b.0 b.1 t.2) in
      in_both pool (fr ++ fg ++ fb) fa rgb (function_in_lem ua a.0 a.1 t.3)

  code_in :
      (c used : ℕ) (v : Values (form_of c).row) → Stands used pool (pooled (form_of c).row v) → StepIn pool (made_of used (record { code = c; values = v }))
  unfolding pooled
  code_in zero used v h = tt
  code_in (suc zero) used v h = tt
  code_in (suc (suc zero)) used v h = matrix_in_lem used v.1.1.0.0 v.1.1.0.1 (stands_first (pooled_by colour v.1.1.0) [] h)
  code_in (suc (suc (suc zero))) used v h = transfer_in used v.0 v.1.1.0 v.1.1.1.0 v.1.1.1.1.0 v.1.1.1.1.1.0 h
  code_in (suc (suc (suc (suc zero)))) used v h = tt
  code_in (suc (suc (suc (suc (suc zero))))) used v h = ((range_in (stands_first v.1.1.1.1.1.1.0 [] h)).1, tt)
  code_in (suc (suc (suc (suc (suc (suc zero)))))) used v h = tt
  code_in (suc (suc (suc (suc (suc (suc (suc zero))))))) used v h = tt
  code_in (suc (suc (suc (suc (suc (suc (suc (suc zero)))))))) used v h = tt
  code_in (suc (suc (suc (suc (suc (suc (suc (suc (suc zero))))))))) used v h = tt
  code_in (suc (suc (suc (suc (suc (suc (suc (suc (suc (suc c)))))))))) used v h = tt

  pub parts_in : (used : ℕ) (q : Parts) → Stands used pool (pooled_of q) → StepIn pool (made_of used q)
  parts_in used q h = code_in q.code used q.values h

-- The laws of answers and of tests 1 and 2: what a chain of tests that ends in Done tells, and which refusal stands.
use Prim.Native.Nat.{ℕ, ◌*◌, ◌%◌, ◌≤◌, ◌<◌}
use mathlib.Core.Path.{◌≡◌, refl, sym, ap, ◌∙◌}
use mathlib.Core.Bool.{Bool, true, false, cond, true≢false}
use mathlib.Core.List.{List, [], ◌∷◌}
use native.Mathlib.Nat.{mul_assoc, mul-le-mul}
use native.Mathlib.Omega.{arith}
use borrow.Author.Rules.{rules}
use borrow.Author.Tests.{eqb-true, eqb-false, leb-true, eq-eqb, ne_eqb, lt-ltb, le-ltb, le-leb, lt-leb, not-true, not-false}
use lib.Dec.{eqb}
use Rattle.std.specs.Prelude.{Result, Ok, Err, IsErrAnd, ⊤, ◌&&◌}
use Rattle.std.specs.List.{list_all}
use Rattle.std.proofs.lemmas.Result.{err_from_is_err_and}
use Rattle.sheet.specs.declared.Refusal.{Refusal}
use Rattle.sheet.specs.Answer.{Answer, Done, refusal, IsRefusal, on_done, and_then}
use Rattle.sheet.specs.Size.{side_limit, is_side, Sized, size_answer, lengths_answer, sheets_answer}

-- `search tests` follows a chain of returns against a chain of `cond`s
pub ruleset tests = (rules, eq-eqb, ne_eqb, lt-ltb, le-ltb, le-leb, lt-leb, not-true, not-false)

-- what a test `!f(x)` tells of the definition that f's contract cites
pub denied : {r t : Bool} → r ≡ t → r ≡ false → t ≡ false
denied {r} {t} e n = sym e ∙ n

pub allowed : {r t : Bool} → r ≡ t → r ≡ true → t ≡ true
allowed {r} {t} e n = sym e ∙ n

-- what a `?` returns is the error that it met
pub passed_on : {U E : Type 0} {r : Result U E} (e : E) → IsErrAnd r (λ y. y ≡ e) → r ≡ Err e
passed_on {U} {E} {r} e h = let p = err_from_is_err_and r h in p.1 ∙ ap Err p.2

-- after a refusal what was stays
pub stays {ℓ} : {A : Type ℓ} {E : Type 0} (t : Result ⊤ E) → IsRefusal t → (a b : A) → on_done t a b ≡ b
stays (Ok _) h a b = absurd h
stays (Err r) h a b = refl

-- ---- chains of tests
pub cond_true : (t b : Bool) → cond t false b ≡ true → (t ≡ false) × (b ≡ true)
cond_true true b e = absurd (true≢false (sym e))
cond_true false b e = (refl, e)

pub cond_done : (t : Bool) (p : Answer) (r : Refusal) → cond t p (Err r) ≡ Done → (t ≡ true) × (p ≡ Done)
cond_done true p r e = (refl, e)
cond_done false p r e = cc

pub cond_passed : (t : Bool) (p : Answer) (r : Refusal) → cond t (Err r) p ≡ Done → (t ≡ false) × (p ≡ Done)
cond_passed true p r e = cc
cond_passed false p r e = (refl, e)

pub both_done : {E : Type 0} (p q : Result ⊤ E) → and_then p q ≡ Done → (p ≡ Done) × (q ≡ Done)
both_done (Ok _) q e = (refl, e)
both_done (Err r) q e = cc

-- the answer of two tests, where the first answered r: its refusal stands, or the second answers
pub first_err : {E : Type 0} {p r : Result ⊤ E} {e : E} (q : Result ⊤ E) → r ≡ p → r ≡ Err e → and_then p q ≡ Err e
first_err {E} {p} {r} {e} q a b = let z : p ≡ Err e = sym a ∙ b in rw z refl

pub first_ok : {E : Type 0} {p r : Result ⊤ E} (q : Result ⊤ E) → r ≡ p → r ≡ Done → and_then p q ≡ q
first_ok {E} {p} {r} q a b = let z : p ≡ Done = sym a ∙ b in rw z refl

pub second_err : {E : Type 0} {p q r t : Result ⊤ E} {e : E} → r ≡ p → r ≡ Done → t ≡ q → t ≡ Err e → and_then p q ≡ Err e
second_err a b f g = first_ok _ a b ∙ (sym f ∙ g)

pub both_ok : {E : Type 0} {p q r t : Result ⊤ E} → r ≡ p → r ≡ Done → t ≡ q → t ≡ Done → and_then p q ≡ Done
both_ok a b f g = first_ok _ a b ∙ (sym f ∙ g)

pub first_refusal : {E : Type 0} {p r : Result ⊤ E} (q : Result ⊤ E) → r ≡ p → IsRefusal r → r ≡ and_then p q
first_refusal {E} {p} {r} q e h = rw (← e) (sym (stays r h _ _))

pub next_test : {E : Type 0} {p q r t : Result ⊤ E} → r ≡ p → r ≡ Done → t ≡ q → t ≡ and_then p q
next_test e d f = f ∙ sym (first_ok _ e d)

-- what `and_then` of two tests tells: its answer, and where it is Done that both pass
pub both_tests : {E : Type 0} {p q t u r : Result ⊤ E} → r ≡ and_then t u → t ≡ p → u ≡ q → r ≡ and_then p q
both_tests e f g = rw (← f, ← g) e

pub both_pass : {E : Type 0} {p q r : Result ⊤ E} → r ≡ and_then p q → r ≡ Done → (p ≡ Done) × (q ≡ Done)
both_pass {E} {p} {q} {r} e d = both_done p q (sym e ∙ d)

-- ---- the sides, then the lengths
side_answer : (t u : Bool) (r : Refusal) → cond t (cond u Done (Err r)) (Err r) ≡ and_then (cond t Done (Err r)) (cond u Done (Err r))
side_answer true u r = refl
side_answer false u r = refl

pub sides_answer : (w h : ℕ) → size_answer w h ≡ and_then (cond (is_side w) Done (refusal 1)) (cond (is_side h) Done (refusal 1))
unfolding size_answer
sides_answer w h = side_answer (is_side w) (is_side h) _

-- the lengths are compared at once
pub lengths_all : (n : ℕ) (l : List ℕ) → lengths_answer n l ≡ cond (list_all (λ a. eqb a n) l) Done (refusal 2)
unfolding lengths_answer
lengths_all n [] = refl
lengths_all n (a ∷ l) = rw (lengths_all n l) (both_tests (eqb a n) (list_all (λ b. eqb b n) l) _)
  where
    both_tests : (t u : Bool) (r : Refusal) → cond t (cond u Done (Err r)) (Err r) ≡ cond (t && u) Done (Err r)
    both_tests true u r = refl
    both_tests false u r = refl

-- ---- what sides that pass tell
side_positive : (n : ℕ) → is_side n ≡ true → 0 < n
unfolding is_side
side_positive n e = let z = eqb-false n 0 (cond_true (eqb n 0) _ e).0 in omega arith

side_most : (n : ℕ) → is_side n ≡ true → n ≤ side_limit
unfolding is_side
side_most n e = leb-true n side_limit (cond_true (eqb n 0) _ e).1

pub sized : (w h : ℕ) → is_side w ≡ true → is_side h ≡ true → Sized w h
sized w h a b = record {
  wide = side_positive w a;
  high = side_positive h b;
  wide_most = side_most w a;
  high_most = side_most h b;
  area = mul-le-mul {n₂ = 4 * side_limit} {m₂ = side_limit} (let z = side_most w a in omega arith) (side_most h b);
}

-- likewise of what `test_side` answers
pub sized_by : {w h : ℕ} {p q : Answer} → p ≡ cond (is_side w) Done (refusal 1) → p ≡ Done → q ≡ cond (is_side h) Done (refusal 1) → q ≡ Done → Sized w h
sized_by {w} {h} a b e d = sized w h (cond_done (is_side w) _ _ (sym a ∙ b)).0 (cond_done (is_side h) _ _ (sym e ∙ d)).0

-- where both sides pass, the lengths decide
pub sheets_rest : (w h : ℕ) {p q : Answer} (l : List ℕ) → p ≡ cond (is_side w) Done (refusal 1) → p ≡ Done → q ≡ cond (is_side h) Done (refusal 1) → q ≡ Done → sheets_answer w h l ≡ cond (list_all (λ a. eqb a (4 * w * h)) l) Done (refusal 2)
unfolding sheets_answer
sheets_rest w h l a b e d = rw (sides_answer w h, first_ok _ a b, first_ok (lengths_answer (4 * w * h) l) e d) (lengths_all (4 * w * h) l)

-- ---- what tests 1 and 2 tell when they pass
each_length : (n a : ℕ) (l : List ℕ) → lengths_answer n (a ∷ l) ≡ Done → (a ≡ n) × (lengths_answer n l ≡ Done)
unfolding lengths_answer
each_length n a l e = let x = cond_done (eqb a n) _ _ e in (eqb-true a n x.0, x.1)

module _ (w h : ℕ) (l : List ℕ) (e : sheets_answer w h l ≡ Done) where
  pub sheets_sized : Sized w h
  unfolding sheets_answer size_answer
  sheets_sized =
      let x = cond_done (is_side w) _ _ (both_done (size_answer w h) _ e).0 in
      let y = cond_done (is_side h) _ _ x.1 in
      sized w h x.0 y.0

  pub sheets_lengths : lengths_answer (4 * w * h) l ≡ Done
  unfolding sheets_answer
  sheets_lengths = (both_done (size_answer w h) _ e).1

-- the first length, and the tests of the others
pub sheets_first : (w h a : ℕ) (l : List ℕ) → sheets_answer w h (a ∷ l) ≡ Done → (a ≡ 4 * w * h) × (sheets_answer w h l ≡ Done)
unfolding sheets_answer
sheets_first w h a l e =
    let x = both_done (size_answer w h) (lengths_answer (4 * w * h) (a ∷ l)) e in
    let y = each_length (4 * w * h) a l x.1 in
    (y.0, rw x.0 y.1)

-- a sheet is of whole pixels
pub sheets_pixels : (w h a : ℕ) (l : List ℕ) → sheets_answer w h (a ∷ l) ≡ Done → a % 4 ≡ 0
sheets_pixels w h a l e = let f = (sheets_first w h a l e).0 in omega (arith, mul_assoc 4 w h)

-- one more length of the right size passes too
pub sheets_add : (w h a : ℕ) (l : List ℕ) → sheets_answer w h l ≡ Done → a ≡ 4 * w * h → sheets_answer w h (a ∷ l) ≡ Done
unfolding sheets_answer lengths_answer
sheets_add w h a l d e = let x = both_done (size_answer w h) (lengths_answer (4 * w * h) l) d in rw (x.0, eq-eqb a (4 * w * h) e) x.1

-- Tests 1 and 2 of docs/LAW.md: the sides, and the lengths of the lent sheets.
use Rattle.std.specs.Prelude.{ℕ, ◌*◌, ◌≤◌, ◌<◌, Bool, false, cond, List, [], ◌∷◌, leb, eqb}
use Rattle.sheet.specs.Answer.{Answer, Done, refusal, and_then}

-- the longest side of a sheet
abbrev pub side_limit : ℕ
side_limit = 4096

-- a width or a height is within 1..=side_limit
unfoldable pub is_side : ℕ → Bool
is_side n = cond (eqb n 0) false (leb n side_limit)

-- what two sides that pass tell
pub record Sized (w h : ℕ) : Type 0 where
  pub wide : 0 < w
  pub high : 0 < h
  pub wide_most : w ≤ side_limit
  pub high_most : h ≤ side_limit
  pub area : 4 * w * h ≤ 4 * side_limit * side_limit

-- test 1
unfoldable pub size_answer : ℕ → ℕ → Answer
size_answer w h = cond (is_side w) (cond (is_side h) Done (refusal 1)) (refusal 1)

-- each of the lengths is n
unfoldable pub lengths_answer : ℕ → List ℕ → Answer
lengths_answer n [] = Done
lengths_answer n (a ∷ l) = cond (eqb a n) (lengths_answer n l) (refusal 2)

-- tests 1 and 2 of sheets of these lengths
unfoldable pub sheets_answer : ℕ → ℕ → List ℕ → Answer
sheets_answer w h l = and_then (size_answer w h) (lengths_answer (4 * w * h) l)

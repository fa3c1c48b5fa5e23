-- What functions that pass their tests tell: each passes by itself, and a table's entries lie in the pool and are at most 256.
use Prim.Native.Nat.{◌≤◌, ◌<◌}
use mathlib.Core.Path.{◌≡◌, refl, sym, ◌∙◌}
use mathlib.Core.Bool.{Bool, true, false, cond}
use mathlib.Core.List.{List}
use native.Mathlib.Omega.{arith}
use borrow.Author.Tests.{eqb-false, leb-true}
use lib.ListN.{length}
use lib.Dec.{leb, eqb}
use lib.Ieee.{Float}
use Rattle.std.specs.Prelude.{Ok, Err}
use Rattle.sheet.specs.Answer.{Answer, Done, refusal_number}
use Rattle.sheet.proofs.Answers.{cond_done}
use Rattle.pool.specs.declared.Numbers.{Numbers}
use Rattle.pool.specs.Pool.{is_in, numbers_of, range_answer}
use Rattle.pool.proofs.Ranges.{range_in, length_numbers}
use Rattle.component_transfer.specs.ComponentTransfer.{entries_answer, together, functions_answer}

both_pass : (p q : Answer) → together p q ≡ Done → (p ≡ Done) × (q ≡ Done)
unfolding together
both_pass (Ok _) q e = (refl, e)
both_pass (Err r) (Ok _) e = cc
both_pass (Err r) (Err s) e = go (leb (refusal_number r) (refusal_number s)) e
  where
    go : {A : Type 0} (t : Bool) → ◌≡◌ {A = Answer} (cond t (Err r) (Err s)) Done → A
    go true e = cc
    go false e = cc

-- ---- of all four
pub each_passes : {n r g b a : Answer} → n ≡ functions_answer r g b a → n ≡ Done → (r ≡ Done) × (g ≡ Done) × (b ≡ Done) × (a ≡ Done)
unfolding functions_answer
each_passes {n} {r} {g} {b} {a} e d =
    let h = both_pass (together r g) (together b a) (sym e ∙ d) in
    let p = both_pass r g h.0 in
    let q = both_pass b a h.1 in
    (p.0, p.1, q.0, q.1)

pub all_pass : {r g b a : Answer} → r ≡ Done → g ≡ Done → b ≡ Done → a ≡ Done → functions_answer r g b a ≡ Done
unfolding functions_answer together
all_pass e f g h = rw (e, f, g, h)

module _ (m : Numbers) (pool : List Float) (e : entries_answer m pool ≡ Done) where
  entries_in : is_in m (length pool) ≡ true
  unfolding entries_answer
  entries_in = range_in m pool (cond_done (leb m.count 256) (range_answer m pool) _ e).1

  few : m.count ≤ 256
  unfolding entries_answer
  few = leb-true m.count 256 (cond_done (leb m.count 256) (range_answer m pool) _ e).0

  pub entries_count : eqb m.count 0 ≡ false → (0 < length (numbers_of m pool)) × (length (numbers_of m pool) ≤ 256)
  entries_count n =
      let l = length_numbers m pool entries_in in
      let z = eqb-false m.count 0 n in
      let f = few in
      (omega arith, omega arith)

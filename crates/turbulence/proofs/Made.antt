-- An array made by a function of the place.
use Prim.Native.Nat.{ℕ, zero, suc, ◌+◌, ◌≤◌, ◌<◌}
use mathlib.Core.Path.{◌≡◌, sym, ◌∙◌}
use mathlib.Core.List.{List}
use native.Mathlib.Omega.{arith}
use native.Mathlib.Decide.{dec_lt}
use lib.ListN.{get_or}
use lib.Seq.{ext_get_or}
use denote.Param.Members.{Mut}
use Rattle.std.specs.Fn.{Called}
use Rattle.std.specs.Array.{IsFromFnResult, IsFromFnResultFrom}
use Rattle.sheet.specs.Tabulate.{tabulate}
use Rattle.sheet.proofs.Tabulated.{length_tabulate}
use Rattle.turbulence.proofs.Filled.{element}

-- what stands at i, or after it
here_or_later : (P : ℕ → Type 0) (i k : ℕ) → i ≤ k → P i → (i + 1 ≤ k → P k) → P k
here_or_later P i k l p q = go (dec_lt i k)
  where
    go : Dec (i < k) → P k
    go (yes m) = q (omega arith)
    go (no m) = let e : k ≡ i = omega arith in rw e p

-- each call of f at a place i gives h i, and leaves f as it was
module _ {F B : Type 0} (g : Mut F (ℕ × Unit {0}) B) (f : F) (n : ℕ) (h : ℕ → B) (z : B)
    (gives : (i : ℕ) (y : B) (q : F) → i < n → Called g f (i, tt) y q → (y ≡ h i) × (q ≡ f)) where
  made_from : (ys : List B) (i m : ℕ) → i + m ≡ n → IsFromFnResultFrom g f ys i m → (k : ℕ) → i ≤ k → k < n → get_or ys k z ≡ h k
  made_from ys i zero e r k p q = absurd (omega arith)
  made_from ys i (suc m) e (f', y, there, call, rest) k p q =
      let told = gives i y f' (omega arith) call in
      let later = rw told.1 at rest in
      here_or_later (λ j. get_or ys j z ≡ h j) i k p (there.1 z ∙ told.0) (λ l. made_from ys (i + 1) m (omega arith) later k l q)

  pub made : {ys : List B} → IsFromFnResult g f ys n → ys ≡ tabulate n h
  made {ys} r =
      ext_get_or z ys (tabulate n h) (r.long ∙ sym (length_tabulate n h))
      (λ k b. let b' : k < n = rw r.long at b in made_from ys 0 n (omega arith) r.each k (omega arith) b' ∙ sym (element z n h k b'))

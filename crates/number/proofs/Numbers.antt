-- Reading a number that is written gives it back, and what is read is exactly the written form.
use Prim.Native.Nat.{ℕ, zero, suc, ◌+◌, ◌-◌, ◌*◌, ◌/◌, ◌%◌, ◌≤◌, ◌<◌}
use mathlib.Core.Path.{◌≡◌, refl, ap}
use mathlib.Core.Bool.{Bool, true, false, cond}
use mathlib.Core.List.{List, [], ◌∷◌, ◌++◌}
use native.Mathlib.Omega.{arith}
use borrow.Author.Tests.{ltb-true, ltb-false, eqb-false, ne_eqb, lt-ltb, le-ltb}
use lib.Dec.{eqb, ltb}
use lib.ListN.{length, drop, get_or}
use Rattle.number.specs.Number.{groups, Found, found, none, below, groups_in}
use Rattle.number.specs.Inner.Limit.{limit}

-- ---- reading what is written
back_of :
    (t : Bool) (more n : ℕ) (l r : List ℕ) → ltb n 128 ≡ t → groups_in more (l ++ r) ≡ found (n / 128) (length l)
    → groups_in (suc more) (cond t (n ∷ []) ((128 + n % 128) ∷ l) ++ r) ≡ found n (length (cond t (n ∷ []) ((128 + n % 128) ∷ l)))
unfolding groups_in
back_of true more n l r e i = rw e
back_of false more n l r e i =
    let h = ltb-false n 128 e in
    let z : 128 + n % 128 - 128 + 128 * (n / 128) ≡ n = omega arith in
    rw (le-ltb (128 + n % 128) 128 (omega arith), i, ne_eqb (n / 128) 0 (λ d. omega arith), z)

pub groups_back : (more n : ℕ) (r : List ℕ) → n < limit more → groups_in more (groups more n ++ r) ≡ found n (length (groups more n))
unfolding groups groups_in
groups_back zero n r h = rw (lt-ltb n 16 h)
groups_back (suc more) n r h = back_of (ltb n 128) more n (groups more (n / 128)) r refl (groups_back more (n / 128) r (omega arith))

-- ---- what is read was written
pub record Written (more : ℕ) (l : List ℕ) (n k : ℕ) : Type 0 where
  pub form : l ≡ groups more n ++ drop k l
  pub takes : k ≡ length (groups more n)
  pub small : n < limit more

pub not_found : {A : Type 0} {n k : ℕ} → none ≡ found n k → A
not_found e = let z : ◌≡◌ {A = ℕ} 0 1 = cc in absurd (eqb-false 0 1 refl z)

written_one : (more n k b : ℕ) (l : List ℕ) → groups more b ≡ b ∷ [] → b < limit more → found b 1 ≡ found n k → Written more (b ∷ l) n k
written_one more n k b l g s e =
    let x : b ≡ n = cc in
    let y : 1 ≡ k = cc in
    rw (← x, ← y) (record { form = rw g; takes = rw g; small = s })

written_above :
    (t : Bool) (more m j low n k : ℕ) (l : List ℕ) → eqb m 0 ≡ t → low < 128 → Written more l m j
    → cond t none (found (low + 128 * m) (suc j)) ≡ found n k → Written (suc more) ((128 + low) ∷ l) n k
unfolding groups
written_above true more m j low n k l z s w e = not_found e
written_above false more m j low n k l z s w e =
    let p = eqb-false m 0 z in
    let x : low + 128 * m ≡ n = cc in
    let y : suc j ≡ k = cc in
    let a : (low + 128 * m) % 128 ≡ low = omega arith in
    let b : (low + 128 * m) / 128 ≡ m = omega arith in
    let v = w.small in
    rw (← x, ← y) (record {
      form = rw (le-ltb (low + 128 * m) 128 (omega arith), a, b) (ap (λ (t : List ℕ). (128 + low) ∷ t) w.form);
      takes = rw (le-ltb (low + 128 * m) 128 (omega arith), b) (ap suc w.takes);
      small = omega arith;
    })

limit_least : (more : ℕ) → 16 ≤ limit more
limit_least zero = omega arith
limit_least (suc more) = let z = limit_least more in omega arith

-- each is a byte
abbrev pub Bytes : List ℕ → Type 0
Bytes l = (i : ℕ) → get_or l i 0 < 256

pub written : (more : ℕ) (l : List ℕ) → Bytes l → (n k : ℕ) → groups_in more l ≡ found n k → Written more l n k
unfolding groups groups_in
written more [] u n k e = not_found e
written zero (b ∷ l) u n k e = last (ltb b 16) refl e
  where
    last : (t : Bool) → ltb b 16 ≡ t → cond t (found b 1) none ≡ found n k → Written zero (b ∷ l) n k
    last true h f = written_one zero n k b l refl (ltb-true b 16 h) f
    last false h f = not_found f
written (suc more) (b ∷ l) u n k e = first (ltb b 128) refl (groups_in more l) (written more l (λ i. u (suc i))) e
  where
    first :
        (t : Bool) → ltb b 128 ≡ t → (f : Found) → ((m j : ℕ) → f ≡ found m j → Written more l m j) → cond t (found b 1) (below (b - 128) f) ≡ found n k
        → Written (suc more) (b ∷ l) n k
    first true h f i g = written_one (suc more) n k b l (rw h) (let z = limit_least more in let y = ltb-true b 128 h in omega arith) g
    first false h none i g = not_found g
    first false h (found m j) i g =
        let z = ltb-false b 128 h in
        let y : 128 + (b - 128) ≡ b = omega arith in
        rw y at (written_above (eqb m 0) more m j (b - 128) n k l refl (let x = u 0 in omega arith) (i m j refl) g)

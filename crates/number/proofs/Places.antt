-- What the code meets at a place: the end, a last group, a group with others above it.
use Prim.Native.Nat.{ℕ, zero, suc, ◌+◌, ◌-◌, ◌*◌, ◌/◌, ◌%◌, ◌≤◌, ◌<◌}
use mathlib.Core.Path.{◌≡◌, refl, ap, ◌∙◌}
use mathlib.Core.Bool.{Bool, true, false, cond}
use mathlib.Core.List.{List, [], ◌∷◌}
use native.Mathlib.Omega.{arith}
use native.Mathlib.Numerals.{add-one}
use borrow.Author.Tests.{eq-eqb, ne_eqb, lt-ltb, le-ltb}
use lib.Dec.{eqb, ltb}
use lib.ListN.{length, drop, get_or, set, drop_of_length-le}
use lib.Seq.{drop-cons, get_or-drop, length-sets}
use Rattle.std.specs.Prelude.{Result, Ok, Err}
use Rattle.number.specs.declared.Wrong.{Wrong}
use Rattle.number.specs.Number.{groups, number_bytes, Found, found, none, below, groups_in, placed, groups_at, Put}
use Rattle.number.specs.Inner.Limit.{limit}
use Rattle.number.proofs.Numbers.{Bytes, written}

pub no_value : {A : Type 0} {v : ℕ × ℕ} {w : Wrong} → ◌≡◌ {A = Result (ℕ × ℕ) Wrong} (Err w) (Ok v) → A
no_value e = let z : ⊥ = cc in absurd z

-- a number and its place, of one result
pub same_value : {n end m last : ℕ} → ◌≡◌ {A = Result (ℕ × ℕ) Wrong} (Ok (n, end)) (Ok (m, last)) → (n ≡ m) × (end ≡ last)
same_value {n} {end} {m} {last} e =
    let p : ◌≡◌ {A = ℕ × ℕ} (n, end) (m, last) = cc in
    (ap (λ (v : ℕ × ℕ). v.0) p, ap (λ (v : ℕ × ℕ). v.1) p)

-- ---- reading
-- a group with others above it, in places
abbrev below_at : ℕ → ℕ → Result (ℕ × ℕ) Wrong → Result (ℕ × ℕ) Wrong
below_at at low (Ok v) = cond (eqb v.0 0) (Err (record { at = at })) (Ok (low + 128 * v.0, v.1))
below_at at low (Err w) = Err (record { at = at })

below_placed : (at low : ℕ) (f : Found) → placed at (below low f) ≡ below_at at low (placed (at + 1) f)
below_placed at low none = refl
below_placed at low (found n k) = by (eqb n 0)
  where
    by : (t : Bool) → placed at (cond t none (found (low + 128 * n) (suc k))) ≡ cond t (Err (record { at = at })) (Ok (low + 128 * n, at + 1 + k))
    by true = refl
    by false = let z : at + suc k ≡ at + 1 + k = omega arith in rw z

module _ (s : List ℕ) (at more : ℕ) where
  pub at_end : length s ≤ at → Err (record { at = at }) ≡ groups_at more s at
  unfolding groups_at groups_in
  at_end h = rw (drop_of_length-le s h)

  module _ (h : at < length s) (b : ℕ) (e : b ≡ get_or s at 0) where
    pub last_value : more ≡ 0 → b < 16 → Ok (b, at + 1) ≡ groups_at more s at
    unfolding groups_at groups_in
    last_value z l = rw (z, drop-cons s at 0 h, ← e, lt-ltb b 16 l)

    pub last_wrong : more ≡ 0 → 16 ≤ b → Err (record { at = at }) ≡ groups_at more s at
    unfolding groups_at groups_in
    last_wrong z l = rw (z, drop-cons s at 0 h, ← e, le-ltb b 16 l)

    pub one_value : (more ≡ 0 → ⊥) → b < 128 → Ok (b, at + 1) ≡ groups_at more s at
    unfolding groups_at groups_in
    one_value z l =
        let y : more ≡ suc (more - 1) = omega arith in
        rw (y, drop-cons s at 0 h, ← e, lt-ltb b 128 l)

    pub above : (more ≡ 0 → ⊥) → 128 ≤ b → groups_at more s at ≡ below_at at (b - 128) (groups_at (more - 1) s (at + 1))
    unfolding groups_at groups_in
    above z l =
        let y : more ≡ suc (more - 1) = omega arith in
        let x : at + 1 ≡ suc at = add-one at in
        ap (λ (m : ℕ). placed at (groups_in m (drop at s))) y ∙ rw (drop-cons s at 0 h, ← e, le-ltb b 128 l) (below_placed at (b - 128) (groups_in (more - 1) (drop (suc at) s)) ∙ rw x)

    module _ (z : more ≡ 0 → ⊥) (l : 128 ≤ b) where
      pub above_wrong : (w : Wrong) → groups_at (more - 1) s (at + 1) ≡ Err w → Err (record { at = at }) ≡ groups_at more s at
      above_wrong w i = rw (above z l, i)

      module _ (n end : ℕ) (i : groups_at (more - 1) s (at + 1) ≡ Ok (n, end)) where
        pub above_zero : n ≡ 0 → Err (record { at = at }) ≡ groups_at more s at
        above_zero o = rw (above z l, i, eq-eqb n 0 o)

        pub above_value : (n ≡ 0 → ⊥) → Ok (b - 128 + 128 * n, end) ≡ groups_at more s at
        above_value o = rw (above z l, i, ne_eqb n 0 o)

limit_mono : (m : ℕ) → m ≤ 3 → limit m ≤ 33554432
limit_mono zero h = omega arith
limit_mono (suc zero) h = omega arith
limit_mono (suc (suc zero)) h = omega arith
limit_mono (suc (suc (suc zero))) h = omega arith
limit_mono (suc (suc (suc (suc m)))) h = absurd (omega arith)

value_of : (more : ℕ) (l : List ℕ) → Bytes l → (at n end : ℕ) (f : Found) → groups_in more l ≡ f → placed at f ≡ Ok (n, end) → n < limit more
value_of more l u at n end none g e = no_value e
value_of more l u at n end (found m k) g e = rw (← (same_value e).0) (written more l u m k g).small

pub small_number : (s : List ℕ) → Bytes s → (at more n end : ℕ) → more ≤ 3 → groups_at more s at ≡ Ok (n, end) → n < 33554432
unfolding groups_at
small_number s u at more n end h e =
    let z = value_of more (drop at s) (λ i. rw get_or-drop (u (at + i))) at n end (groups_in more (drop at s)) refl e in
    let y = limit_mono more h in
    omega arith

-- ---- writing
shape_of : (t : Bool) (n more : ℕ) (l : List ℕ) → length l ≤ more → (1 ≤ length (cond t (n ∷ []) ((128 + n % 128) ∷ l))) × (length (cond t (n ∷ []) ((128 + n % 128) ∷ l)) ≤ suc more)
shape_of true n more l h = (omega arith, omega arith)
shape_of false n more l h = (omega arith, omega arith)

-- a byte at least, and one more than there may be groups more than one
groups_length : (more n : ℕ) → (1 ≤ length (groups more n)) × (length (groups more n) ≤ suc more)
unfolding groups
groups_length zero n = (omega arith, omega arith)
groups_length (suc more) n = shape_of (ltb n 128) n (suc more) (groups more (n / 128)) (groups_length more (n / 128)).1

pub groups_some : (more n : ℕ) → 1 ≤ length (groups more n)
groups_some more n = (groups_length more n).0

pub groups_few : (n : ℕ) → length (number_bytes n) ≤ 5
groups_few n = (groups_length 4 n).1

pub groups_one : (more n : ℕ) → n < 128 → groups more n ≡ n ∷ []
unfolding groups
groups_one zero n l = refl
groups_one (suc more) n l = rw (lt-ltb n 128 l)

-- a number that has groups above the first
pub record Higher (more n : ℕ) : Type 0 where
  pub some : 1 ≤ more
  pub form : groups more n ≡ (128 + n % 128) ∷ groups (more - 1) (n / 128)
  pub small : n / 128 < limit (more - 1)

pub higher : (more n : ℕ) → n < limit more → 128 ≤ n → Higher more n
unfolding groups
higher zero n h l = absurd (omega arith)
higher (suc more) n h l =
    let y : suc more - 1 ≡ more = omega arith in
    record { some = omega arith; form = rw (le-ltb n 128 l, y); small = rw y (omega arith) }

pub put_first : {l m : List ℕ} {at e : ℕ} {v : List ℕ} (b : ℕ) → Put (set l at b) (at + 1) v m e → Put l at (b ∷ v) m e
put_first {l} {m} {at} {e} {v} b p = record {
  stored = rw (← add-one at) p.stored;
  ends = let x = p.ends in omega arith;
}

pub put_length : {l m : List ℕ} {at e : ℕ} {v : List ℕ} → Put l at v m e → length m ≡ length l
put_length {l} {m} {at} {e} {v} p = ap length p.stored ∙ length-sets l at v

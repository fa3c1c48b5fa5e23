-- The laws of a row's numbers that are made place by place, the places counted from the row's place x.
use Prim.Native.Nat.{ℕ, ◌+◌, ◌-◌, ◌*◌, ◌≤◌, ◌<◌}
use mathlib.Core.Path.{◌≡◌, ap, ◌∙◌}
use mathlib.Core.List.{List}
use native.Mathlib.Omega.{arith}
use native.Mathlib.Decide.{dec_lt}
use borrow.Rule.Slice.PartMut.{put_mid}
use lib.ListN.{length, get_or, take, drop}
use lib.Ieee.{Float, nan}
use Rattle.std.proofs.lemmas.Grind.{common_steps, elements}
use Rattle.floats.specs.Channel.{normalized}
use Rattle.sheet.specs.Inner.Strips.{Changed}
use Rattle.convolve_matrix.specs.declared.edge.EdgeMode.{EdgeMode}
use Rattle.convolve_matrix.specs.Edges.{place}
use Rattle.convolve_matrix.specs.Inner.Rows.{less_within, Widened, number_at}
use Rattle.convolve_matrix.proofs.Edging.{own_place}

-- a part that was lent, from `at` on, holds p now
pub changed_part : {A : Type 0} (z : A) (g : ℕ → A) (at n k : ℕ) (l p : List A) → at + n ≤ length l → length p ≡ n → k ≡ n → ((i : ℕ) → i < n → get_or p i z ≡ g i) → Changed z g at n l (put_mid at k l p)
changed_part z g at n k l p room long e each = record {
  same = grind (arith, common_steps);
  inside = λ i h. let q = each i h in grind (arith, elements);
  before = λ i h. grind (arith, elements);
  after = λ i h. grind (arith, elements);
}

-- where that part took the numbers of a part of the line
pub numbers_stored : (line : List ℕ) (from at n m k : ℕ) (l p : List Float) → from + n ≤ length line → at + n ≤ length l → length p ≡ n → m ≡ n → k ≡ n → ((i : ℕ) → i < length (take m (drop from line)) → get_or p i nan ≡ normalized (get_or (take m (drop from line)) i 0)) → Changed nan (λ i. normalized (get_or line (from + i) 0)) at n l (put_mid at k l p)
numbers_stored line from at n m k l p within room long a b each =
    changed_part nan (λ i. normalized (get_or line (from + i) 0)) at n k l p room long b (λ i h. each i (inside i h) ∙ ap normalized (read i h))
  where
    inside : (i : ℕ) → i < n → i < length (take m (drop from line))
    inside i h = grind (arith, common_steps)

    read : (i : ℕ) → i < n → get_or (take m (drop from line)) i 0 ≡ get_or line (from + i) 0
    read i h = grind (arith, elements)

-- of the places from x on those from lo up to hi are the row's own
pub record Own (target w x end lo hi : ℕ) : Type 0 where
  pub ordered : lo ≤ hi
  pub within : hi ≤ end
  pub low : target ≤ x + lo
  pub high : x + hi ≤ w + target

pub own_places : (target w x end : ℕ) {lo hi : ℕ} → target ≤ end → x ≤ w → lo ≡ less_within target x end → hi ≡ less_within (w + target) x end → Own target w x end lo hi
own_places target w x end t f p q = record { ordered = omega arith; within = omega arith; low = omega arith; high = omega arith }

module _ (mode : EdgeMode) (target w : ℕ) (line : List ℕ) (x : ℕ) where
  -- stretches side by side
  pub widened_join : {lo mid hi : ℕ} {l l' l'' : List Float} → lo ≤ mid → mid ≤ hi → Widened mode target w line x lo mid l l' → Widened mode target w line x mid hi l' l'' → Widened mode target w line x lo hi l l''
  widened_join {lo} {mid} {hi} {l} {l'} {l''} p q a b = record {
    same = b.same ∙ a.same;
    inside = λ e c u v r. go e c u v r (dec_lt e mid);
    before = λ k u. b.before k (omega arith) ∙ a.before k u;
    after = λ k u. b.after k u ∙ a.after k (omega arith);
  }
    where
      go : (e c : ℕ) → lo ≤ e → e < hi → c < 4 → Dec (e < mid) → get_or l'' (4 * e + c) nan ≡ number_at mode target w line (x + e) c
      go e c u v r (yes d) = b.before (4 * e + c) (omega arith) ∙ a.inside e c u d r
      go e c u v r (no d) = b.inside e c (omega arith) v r

  -- one place, whose four numbers are stored
  pub widened_place : (e column : ℕ) {l l' : List Float} → column ≡ place mode target w (x + e) → Changed nan (λ i. normalized (get_or line (4 * column + i) 0)) (4 * e) 4 l l' → Widened mode target w line x e (e + 1) l l'
  widened_place e column {l} {l'} p m = record {
    same = m.same;
    inside = λ e' c u v r. let z : e' ≡ e = omega arith in rw (z, ← p) (m.inside c r);
    before = m.before;
    after = λ k u. m.after k (omega arith);
  }

  -- places on the side, which are the row's own
  pub widened_own : {end lo hi : ℕ} {l l' : List Float} → Own target w x end lo hi → Changed nan (λ i. normalized (get_or line (4 * (x + lo - target) + i) 0)) (4 * lo) (4 * (hi - lo)) l l' → Widened mode target w line x lo hi l l'
  widened_own {end} {lo} {hi} {l} {l'} o m = record {
    same = m.same;
    inside = λ e c u v r. let i : 4 * e + c ≡ 4 * lo + (4 * (e - lo) + c) = omega arith in
        let p = own_place target w (x + e) (omega arith) (omega arith) mode in
        let j : 4 * (x + lo - target) + (4 * (e - lo) + c) ≡ 4 * place mode target w (x + e) + c = omega arith in
        ap (λ (k : ℕ). get_or l' k nan) i ∙ (m.inside (4 * (e - lo) + c) (omega arith) ∙ ap (λ (k : ℕ). normalized (get_or line k 0)) j);
    before = m.before;
    after = λ k u. m.after k (omega arith);
  }

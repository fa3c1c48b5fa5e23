-- A float that is at most another is not above it, by cases of both.
use Rattle.std.proofs.Common.{◌≡◌, ℕ, ◌+◌, ◌*◌, Bool, true, false, ◌||◌, T, eqb, refl, arith, eqb→eq, le-ltb}
use lib.Ieee.{Float, nan, inf, fin, up, down, eq, lt, le, below, level}
use lib.Ieee.Fits.{and_l, and_r}
use Rattle.floats.proofs.Fractions.{lt_asym}

level_not_below : (s : Bool) (a : ℕ) (t : Bool) (b : ℕ) → T (level s a t b) → below t b s a ≡ false
level_not_below true a true b h = le-ltb a b (let e = eqb→eq a b (and_l (eqb a b) _ h) in omega arith)
level_not_below false a false b h = le-ltb b a (let e = eqb→eq a b (and_l (eqb a b) _ h) in omega arith)
level_not_below true a false b h = refl
level_not_below false a true b h =
    let e = eqb→eq a b (and_l (eqb a b) _ h) in
    let z = eqb→eq a 0 (and_r (eqb a b) _ h) in
    le-ltb 0 (b + a) (omega arith)

eq_not_gt : (x y : Float) → T (eq x y) → lt y x ≡ false
unfolding eq lt
eq_not_gt nan y h = absurd h
eq_not_gt (inf s) nan h = absurd h
eq_not_gt (inf true) (inf true) h = refl
eq_not_gt (inf true) (inf false) h = absurd h
eq_not_gt (inf false) (inf true) h = absurd h
eq_not_gt (inf false) (inf false) h = refl
eq_not_gt (inf s) (fin t n d) h = absurd h
eq_not_gt (fin s m e) nan h = absurd h
eq_not_gt (fin s m e) (inf t) h = absurd h
eq_not_gt (fin s m e) (fin t n d) h = level_not_below s (m * up e * down d) t (n * up d * down e) h

pub le_not_gt : (x y : Float) → T (le x y) → lt y x ≡ false
unfolding le
le_not_gt x y h = go (lt x y) (eq x y) h (lt_asym x y) (eq_not_gt x y)
  where
    go : {A : Type 0} (p q : Bool) → T (p || q) → (T p → A) → (T q → A) → A
    go true q t f g = f t
    go false q t f g = g t

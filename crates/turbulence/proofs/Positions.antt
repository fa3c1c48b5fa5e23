-- No lattice position leaves an i32, for parameters within docs/LAW.md's ranges and a pixel within the side limit: so the Rust's two casts of it agree.
use Prim.Native.Nat.{ℕ, zero, suc, ◌+◌, ◌*◌, ◌^◌, ◌≤◌, ◌<◌}
use mathlib.Core.Path.{◌≡◌, sym, ap, ◌∙◌, subst}
use mathlib.Core.Bool.{Bool, true, false, cond, ◌&&◌, ◌||◌}
use native.Mathlib.Nat.{le_trans, le_of_eq, lt_of_le_of_lt, mul-one, mul_assoc, mul-le-mul_left, mul-lt-mul_of_pos_right, pow-suc}
use lib.Pow.{pow_mono}
use native.Mathlib.Omega.{arith}
use lib.Dec.{T, ltb, eqb, ltb→lt, eqb→eq, lt→ltb, lit≤, lit<}
use lib.Ieee.{Float, nan, inf, fin, binary64, up, down, of_int, of_bits, neg, lt, le, eq, to_signed}
use lib.Ieee.Fits.{down_pos}
use Rattle.floats.specs.Operators.{◌⊞◌, ◌⊠◌}
use Rattle.floats.specs.Order.{within}
use Rattle.floats.proofs.TowardZero.{lowest, past, inside}
use Rattle.sheet.specs.Size.{side_limit}
use Rattle.turbulence.specs.Constants.{d0, d2, sixteenth, d16, d4096}
use Rattle.turbulence.specs.Turbulence.{point_on}
use Rattle.turbulence.specs.Inner.Rows.{doubled}
use Rattle.turbulence.proofs.Bounded.{UpTo, AtLeast, round_up_to, add_up_to, mul_up_to, div_up_to}

-- what two comparisons of a `cond` tell
both : (a b : Bool) → T (cond a b false) → T a × T b
both true b t = (tt, t)
both false b t = absurd t

at_most : (p q : ℕ) (b : Bool) → T (ltb p q || (eqb p q && b)) → p ≤ q
at_most p q b t = go (ltb p q) (eqb p q) (ltb→lt p q) (eqb→eq p q) t
  where
    go : (u v : Bool) → (T u → p < q) → (T v → p ≡ q) → T (u || (v && b)) → p ≤ q
    go true v y z t = let l = y tt in omega arith
    go false true y z t = let l = z tt in omega arith
    go false false y z t = absurd t

at_most' : (p q : ℕ) (b : Bool) → T (ltb p q || (eqb q p && b)) → p ≤ q
at_most' p q b t = go (ltb p q) (eqb q p) (ltb→lt p q) (eqb→eq q p) t
  where
    go : (u v : Bool) → (T u → p < q) → (T v → q ≡ p) → T (u || (v && b)) → p ≤ q
    go true v y z t = let l = y tt in omega arith
    go false true y z t = let l = z tt in omega arith
    go false false y z t = absurd t

and_first : (p q : Bool) → T (p && q) → T p
and_first true q t = tt
and_first false q t = absurd t

-- ---- the ranges
offset_up_to : (x : Float) → T (within (neg d4096) x d4096) → UpTo 4096 x
unfolding le lt eq of_bits neg
offset_up_to nan h = absurd h
offset_up_to (inf true) h = absurd h
offset_up_to (inf false) h = absurd h
offset_up_to (fin false m e) h = tidy (m * up e) (down e) (at_most (m * up e * 1) (1 * 4096 * down e) true (both (le (neg d4096) (fin false m e)) (le (fin false m e) d4096) h).1)
  where
    tidy : (n d : ℕ) → n * 1 ≤ 1 * 4096 * d → n ≤ 4096 * d
    tidy n d h = omega arith
offset_up_to (fin true m e) h = tidy (m * up e) (down e) (at_most' (m * up e * 1) (1 * 4096 * down e) true (both (le (neg d4096) (fin true m e)) (le (fin true m e) d4096) h).0)
  where
    tidy : (n d : ℕ) → n * 1 ≤ 1 * 4096 * d → n ≤ 4096 * d
    tidy n d h = omega arith

frequency_up_to : (x : Float) → T (within d0 x d16) → UpTo 16 x
unfolding le lt eq of_bits
frequency_up_to nan h = absurd h
frequency_up_to (inf true) h = absurd h
frequency_up_to (inf false) h = absurd h
frequency_up_to (fin false m e) h = tidy (m * up e) (down e) (at_most (m * up e * 1) (1 * 16 * down e) true (both (le d0 (fin false m e)) (le (fin false m e) d16) h).1)
  where
    tidy : (n d : ℕ) → n * 1 ≤ 1 * 16 * d → n ≤ 16 * d
    tidy n d h = omega arith
frequency_up_to (fin true m e) h = tidy (m * up e) (down e) (eqb→eq (0 * 1 * down e) (m * up e * 1) (and_first (eqb (0 * 1 * down e) (m * up e * 1)) (eqb (0 * 1 * down e) 0) (both (le d0 (fin true m e)) (le (fin true m e) d16) h).0))
  where
    tidy : (n d : ℕ) → 0 * 1 * d ≡ n * 1 → n ≤ 16 * d
    tidy n d h = omega arith

scale_at_least : (x : Float) → T (within sixteenth x d16) → AtLeast 16 x
unfolding le lt eq of_bits
scale_at_least nan h = absurd h
scale_at_least (inf true) h = absurd h
scale_at_least (inf false) h = absurd h
scale_at_least (fin false m e) h = tidy (m * up e) (down e) (at_most (1 * 1 * down e) (m * up e * 16) true (both (le sixteenth (fin false m e)) (le (fin false m e) d16) h).0)
  where
    tidy : (n d : ℕ) → 1 * 1 * d ≤ n * 16 → d ≤ 16 * n
    tidy n d h = omega arith
scale_at_least (fin true m e) h = absurd (never (1 * 1 * down e) (m * up e * 16) (some (down e) (down_pos e)) (both (le sixteenth (fin true m e)) (le (fin true m e) d16) h).0)
  where
    some : (d : ℕ) → 0 < d → 0 < 1 * 1 * d
    some d p = omega arith

    never : (a b : ℕ) → 0 < a → T (eqb a b && eqb a 0) → ⊥
    never a b p t = go (eqb a b) (eqb a 0) (eqb→eq a 0) t
      where
        go : (u v : Bool) → (T v → a ≡ 0) → T (u && v) → ⊥
        go true true y t = let z = y tt in omega arith
        go true false y t = t
        go false v y t = t

two_up_to : UpTo 2 d2
unfolding of_bits
two_up_to = lit≤ tt

step_up_to : UpTo 4096 d4096
unfolding of_bits
step_up_to = lit≤ tt

-- ---- the positions
-- a pixel within the side limit, over all octaves
module _ (offset scale frequency : Float) (ho : T (within (neg d4096) offset d4096)) (hs : T (within sixteenth scale d16)) (hf : T (within d0 frequency d16)) where
  pub point_up_to : (n : ℕ) → n ≤ side_limit → UpTo ((side_limit + 4096) * 16 * 16) (point_on offset scale frequency n)
  unfolding point_on of_int
  point_up_to n h =
      mul_up_to binary64 ((side_limit + 4096) * 16) 16 (lit≤ tt) _ frequency
      (div_up_to binary64 (side_limit + 4096) 16 (lit≤ tt) _ scale
      (add_up_to binary64 side_limit 4096 (lit≤ tt) _ offset (round_up_to binary64 false n 1 side_limit (lit< tt) (lit≤ tt) (le_trans h (le_of_eq (sym (mul-one side_limit))))) (offset_up_to offset ho))
      (scale_at_least scale hs))
      (frequency_up_to frequency hf)

doubled_up_to : (k b : ℕ) (x : Float) → b * 2 ^ k ≤ 2 ^ 53 → UpTo b x → UpTo (b * 2 ^ k) (doubled k x)
unfolding doubled
doubled_up_to zero b x h u = subst (λ (n : ℕ). UpTo n x) (sym (mul-one b)) u
doubled_up_to (suc k) b x h u =
    let twice : b * 2 ^ suc k ≡ b * 2 ^ k * 2 = ap (λ (n : ℕ). b * n) (pow-suc 2 k) ∙ sym (mul_assoc b (2 ^ k) 2) in
    let less : b * 2 ^ k * 2 ≤ 2 ^ 53 = le_trans (le_of_eq (sym twice)) h in
    subst (λ (n : ℕ). UpTo n (doubled k x ⊠ d2)) (sym twice) (mul_up_to binary64 (b * 2 ^ k) 2 less (doubled k x) d2 (doubled_up_to k b x (half (b * 2 ^ k) less) u) two_up_to)
  where
    half : (n : ℕ) → n * 2 ≤ 9007199254740992 → n ≤ 9007199254740992
    half n h = omega arith

-- within an i32
inside_i32 : (n : ℕ) (t : Float) → n < 2147483648 → UpTo n t → T (le (lowest 31) t) × T (lt t (past 31))
unfolding le lt eq
inside_i32 n nan h u = absurd u
inside_i32 n (inf s) h u = absurd u
inside_i32 n (fin false m e) h u = (or_true (ltb 0 (1 * 2147483648 * down e + m * up e * 1)) _ (lt→ltb 0 (1 * 2147483648 * down e + m * up e * 1) (some (down e) (m * up e) (down_pos e))), lt→ltb (m * up e * 1) (1 * 2147483648 * down e) (below (m * up e) (down e) (down_pos e) u))
  where
    or_true : (p q : Bool) → T p → T (p || q)
    or_true true q t = tt
    or_true false q t = absurd t

    some : (d n : ℕ) → 0 < d → 0 < 1 * 2147483648 * d + n * 1
    some d n p = omega arith

    below : (p d : ℕ) → 0 < d → p ≤ n * d → p * 1 < 1 * 2147483648 * d
    below p d q k = let l = mul-lt-mul_of_pos_right h q in omega arith
inside_i32 n (fin true m e) h u = (or_true (ltb (m * up e * 1) (1 * 2147483648 * down e)) _ (lt→ltb (m * up e * 1) (1 * 2147483648 * down e) (below (m * up e) (down e) (down_pos e) u)), lt→ltb 0 (m * up e * 1 + 1 * 2147483648 * down e) (some (down e) (m * up e) (down_pos e)))
  where
    or_true : (p q : Bool) → T p → T (p || q)
    or_true true q t = tt
    or_true false q t = absurd t

    some : (d n : ℕ) → 0 < d → 0 < n * 1 + 1 * 2147483648 * d
    some d n p = omega arith

    below : (p d : ℕ) → 0 < d → p ≤ n * d → p * 1 < 1 * 2147483648 * d
    below p d q k = let l = mul-lt-mul_of_pos_right h q in omega arith

-- the position of pixel n at octave k of 8: its two casts agree, and neither is cut
pub position_inside : (offset scale frequency : Float) → T (within (neg d4096) offset d4096) → T (within sixteenth scale d16) → T (within d0 frequency d16) → (n k : ℕ) → n ≤ side_limit → k < 8
    → let t = doubled k (point_on offset scale frequency n) ⊞ d4096 in T (le (lowest 31) t) × T (lt t (past 31)) × (to_signed 63 t ≡ to_signed 31 t)
position_inside offset scale frequency ho hs hf n k hn hk =
    let b = (side_limit + 4096) * 16 * 16 in
    let t = doubled k (point_on offset scale frequency n) ⊞ d4096 in
    let more : 2 ^ k ≤ 2 ^ 7 = pow_mono (octaves k hk) in
    let least : b * 2 ^ k ≤ b * 2 ^ 7 = mul-le-mul_left b more in
    let u = doubled_up_to k b (point_on offset scale frequency n) (le_trans least (lit≤ tt)) (point_up_to offset scale frequency ho hs hf n hn) in
    let w = add_up_to binary64 (b * 2 ^ k) 4096 (le_trans (more_by (b * 2 ^ k) (b * 2 ^ 7) least) (lit≤ tt)) _ d4096 u step_up_to in
    let i = inside_i32 (b * 2 ^ k + 4096) t (lt_of_le_of_lt (more_by (b * 2 ^ k) (b * 2 ^ 7) least) (lit< tt)) w in
    (i.0, i.1, inside 31 63 t (lit≤ tt) i.0 i.1)
  where
    more_by : (p q : ℕ) → p ≤ q → p + 4096 ≤ q + 4096
    more_by p q h = omega arith

    octaves : (k : ℕ) → k < 8 → k ≤ 7
    octaves k h = omega arith

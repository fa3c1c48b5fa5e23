-- The first numbers of a slice, each its root: one more, and all of them. Assumes nothing.
use Rattle.std.proofs.Common.{◌≡◌, ℕ, zero, suc, ◌+◌, ◌<◌, ◌≤◌, min, List, [], ◌∷◌, ◌++◌, length, map, take, drop, get_or, set, inl, inr, sym, refl, ap, ◌∙◌, not-suc-le-zero, arith}
use Rattle.std.proofs.lemmas.List.{get_or_default}
use Rattle.std.proofs.lemmas.List.Edits.{map_over_more}
use lib.Ieee.{Float, nan, binary32}
use Rattle.floats.specs.Root.{sqrt_of, first_roots}
use Rattle.floats.proofs.Tests.{either}

abbrev f : Float → Float
f = sqrt_of binary32

pub get_d_root : (n : ℕ) (xs : List Float) (k : ℕ) (d : Float) → k < n → k < length xs → get_or (first_roots n xs) k d ≡ sqrt_of binary32 (get_or xs k d)
unfolding first_roots
get_d_root zero xs k d h l = absurd (not-suc-le-zero h)
get_d_root (suc n) [] k d h l = absurd (not-suc-le-zero l)
get_d_root (suc n) (x ∷ xs) zero d h l = refl
get_d_root (suc n) (x ∷ xs) (suc k) d h l = get_d_root n xs k d (omega arith) (omega arith)

pub length_first_roots : (n : ℕ) (xs : List Float) → length (first_roots n xs) ≡ length xs
unfolding first_roots
length_first_roots zero xs = refl
length_first_roots (suc n) [] = refl
length_first_roots (suc n) (x ∷ xs) = ap suc (length_first_roots n xs)

pub one_more : (xs ys : List Float) (i : ℕ) (y : Float) → i < length xs → length ys ≡ length xs → ys ≡ map f (take i xs) ++ drop i xs → y ≡ f (get_or ys i nan) → set ys i y ≡ map f (take (i + 1) xs) ++ drop (i + 1) xs
one_more xs ys i y h l e r =
    let same : get_or ys i nan ≡ get_or ys i (get_or ys i nan) = get_or_default ys i nan (get_or ys i nan) (omega arith) in
    ap (set ys i) r ∙ map_over_more f xs ys i (get_or ys i nan) h e same

parts : (k : ℕ) (xs : List Float) → map f (take k xs) ++ drop k xs ≡ first_roots k xs
unfolding first_roots
parts zero xs = refl
parts (suc k) [] = refl
parts (suc k) (x ∷ xs) = ap (λ (ys : List Float). f x ∷ ys) (parts k xs)

none : (k : ℕ) → first_roots k [] ≡ []
unfolding first_roots
none zero = refl
none (suc k) = refl

past : (n : ℕ) (xs : List Float) → length xs ≤ n → first_roots (length xs) xs ≡ first_roots n xs
unfolding first_roots
past n [] h = sym (none n)
past zero (x ∷ xs) h = absurd (not-suc-le-zero h)
past (suc n) (x ∷ xs) h = ap (λ (ys : List Float). f x ∷ ys) (past n xs (omega arith))

pub all_done : (n end : ℕ) (xs : List Float) → end ≡ min n (length xs) → map f (take end xs) ++ drop end xs ≡ first_roots n xs
all_done n end xs e = parts end xs ∙ elim (either n (length xs)) [ inl l ↦ ap (λ (m : ℕ). first_roots m xs) (omega arith) | inr l ↦ ap (λ (m : ℕ). first_roots m xs) (omega arith) ∙ past n xs l ]

-- Tests as facts: what a branch's flag says, and two tests that follow from one another are one. Assumes nothing.
use Rattle.std.proofs.Common.{◌≡◌, ℕ, ◌-◌, ◌*◌, ◌<◌, ◌≤◌, Bool, true, false, not, T, leb, ◌⊎◌, sym, refl, ap, ◌∙◌, subst, inl, inr, le_of_lt, mul_comm, leb→le}
use native.Mathlib.Nat.{mul-sub}
use lib.Dec.{nleb→lt}

pub T_true : {b : Bool} → b ≡ true → T b
T_true h = subst T (sym h) tt

pub T_false : {b : Bool} → b ≡ false → T (not b)
T_false h = subst (λ (a : Bool). T (not a)) (sym h) tt

pub is_true : (b : Bool) → T b → true ≡ b
is_true true t = refl
is_true false t = absurd t

pub is_false : (b : Bool) → (T b → ⊥) → false ≡ b
is_false true h = absurd (h tt)
is_false false h = refl

pub same_test : (p q : Bool) → (T p → T q) → (T q → T p) → p ≡ q
same_test true true a b = refl
same_test true false a b = absurd (a tt)
same_test false true a b = absurd (b tt)
same_test false false a b = refl

pub either : (a b : ℕ) → (a ≤ b) ⊎ (b ≤ a)
either a b = go (leb a b) (leb→le a b) (nleb→lt a b)
  where
    go : (t : Bool) → (T t → a ≤ b) → (T (not t) → b < a) → (a ≤ b) ⊎ (b ≤ a)
    go true y n = inl (y tt)
    go false y n = inr (le_of_lt (n tt))

pub sub_mul : (a b c : ℕ) → (a - b) * c ≡ a * c - b * c
sub_mul a b c = mul_comm (a - b) c ∙ mul-sub c a b ∙ ap (λ (z : ℕ). z - c * b) (mul_comm c a) ∙ ap (λ (z : ℕ). a * c - z) (mul_comm c b)

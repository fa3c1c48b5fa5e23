-- A number that is written is read back, and what is read is the number's one form.
use Prim.Native.Nat.{ℕ, ◌+◌, ◌<◌}
use mathlib.Core.Path.{◌≡◌, refl, ap, ◌∙◌}
use mathlib.Core.List.{List, ◌++◌}
use lib.ListN.{length, drop}
use lib.Seq.{drop-drop, get_or-drop}
use Rattle.std.specs.Prelude.{Ok}
use Rattle.number.specs.Number.{number_bytes, Found, found, none, groups_in, placed, groups_at, number_at}
use Rattle.number.proofs.Numbers.{Bytes, written, groups_back}
use Rattle.number.proofs.Places.{no_value, same_value}

pub number_back : (s : List ℕ) (at n : ℕ) (r : List ℕ) → n < 4294967296 → drop at s ≡ number_bytes n ++ r → number_at s at ≡ Ok (n, at + length (number_bytes n))
unfolding groups_at
number_back s at n r h e = rw (e, groups_back 4 n r h)

pub record IsNumber (s : List ℕ) (at n end : ℕ) : Type 0 where
  pub form : drop at s ≡ number_bytes n ++ drop end s
  pub ends : end ≡ at + length (number_bytes n)
  pub small : n < 4294967296

pub number_form : (s : List ℕ) → Bytes s → (at n end : ℕ) → number_at s at ≡ Ok (n, end) → IsNumber s at n end
unfolding groups_at
number_form s u at n end e = by (groups_in 4 (drop at s)) refl e
  where
    by : (f : Found) → groups_in 4 (drop at s) ≡ f → placed at f ≡ Ok (n, end) → IsNumber s at n end
    by none g i = no_value i
    by (found m k) g i =
        let x = (same_value i).0 in
        let y = (same_value i).1 in
        let w = written 4 (drop at s) (λ j. rw get_or-drop (u (at + j))) m k g in
        rw (← x, ← y) (record {
          form = w.form ∙ ap (λ (l : List ℕ). number_bytes m ++ l) (drop-drop k at s);
          ends = ap (λ (j : ℕ). at + j) w.takes;
          small = w.small;
        })

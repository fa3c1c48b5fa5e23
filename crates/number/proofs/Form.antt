-- What is read of a message is its bytes up to where the numbers end: one number after the other.
use Prim.Native.Nat.{ℕ, zero, suc, ◌≤◌}
use mathlib.Core.Path.{◌≡◌, refl, sym, ap, ◌∙◌}
use mathlib.Core.List.{List, [], ◌∷◌, ◌++◌, append_assoc, append-nil}
use native.Mathlib.Omega.{arith}
use lib.ListN.{length, drop, drop_of_length-le}
use Rattle.std.specs.Prelude.{Result, Ok, Err}
use Rattle.number.specs.declared.Wrong.{Wrong}
use Rattle.number.specs.Number.{number_bytes, number_at}
use Rattle.number.specs.Words.{Words, word, stop, on_number, words_from, words_at, bytes_of}
use Rattle.number.proofs.Numbers.{Bytes}
use Rattle.number.proofs.ReadBack.{number_form}
use Rattle.number.proofs.Words.{Small, wrong_at}

-- the numbers without their places
unfoldable pub plain : Words → List ℕ
plain (word p n ws) = n ∷ plain ws
plain (stop p) = []

-- where no number begins
unfoldable pub end_of : Words → ℕ
end_of (word p n ws) = end_of ws
end_of (stop p) = p

-- the bytes from `at` on are those of the numbers, and then those from where they end
pub record Reads (s : List ℕ) (at : ℕ) (ws : Words) : Type 0 where
  pub form : drop at s ≡ bytes_of (plain ws) ++ drop (end_of ws) s
  pub small : Small (plain ws)

reads_on : (s : List ℕ) (u : Bytes s) (at : ℕ) (rest : ℕ → Words) → ((end : ℕ) → Reads s end (rest end)) → (m : Result (ℕ × ℕ) Wrong) → number_at s at ≡ m → Reads s at (on_number at rest m)
unfolding plain end_of bytes_of
reads_on s u at rest i (Ok v) e =
    let n = v.0 in
    let end = v.1 in
    let w = number_form s u at n end e in
    let r = i end in
    record {
      form = w.form ∙ (ap (λ (l : List ℕ). number_bytes n ++ l) r.form ∙ sym (append_assoc (number_bytes n) (bytes_of (plain (rest end))) (drop (end_of (rest end)) s)));
      small = (w.small, r.small);
    }
reads_on s u at rest i (Err w) e = record { form = rw (wrong_at s at w (sym e)); small = tt }

reads_from : (most : ℕ) (s : List ℕ) → Bytes s → (at : ℕ) → Reads s at (words_from most s at)
unfolding words_from plain end_of bytes_of
reads_from zero s u at = record { form = refl; small = tt }
reads_from (suc most) s u at = reads_on s u at (words_from most s) (reads_from most s u) (number_at s at) refl

pub words_reads : (s : List ℕ) → Bytes s → (at : ℕ) → Reads s at (words_at s at)
unfolding words_at
words_reads s u at = reads_from (length s) s u at

-- numbers that end where the message does are all of it
pub words_form : (s : List ℕ) → Bytes s → (at : ℕ) → end_of (words_at s at) ≡ length s → (drop at s ≡ bytes_of (plain (words_at s at))) × Small (plain (words_at s at))
words_form s u at e =
    let r = words_reads s u at in
    let h : length s ≤ end_of (words_at s at) = omega arith in
    (r.form ∙ rw (drop_of_length-le s h, append-nil), r.small)

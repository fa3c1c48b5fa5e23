-- Numbers that are written one after the other are read one after the other, and what is read from a place on is the number there and what is read after it.
use Prim.Native.Nat.{ℕ, zero, suc, ◌+◌, ◌-◌, ◌≤◌, ◌<◌}
use mathlib.Core.Path.{◌≡◌, refl, sym, ap, ◌∙◌}
use mathlib.Core.List.{List, [], ◌∷◌, ◌++◌}
use native.Mathlib.Omega.{arith}
use lib.ListN.{length, drop, length-append, drop_of_length-le}
use lib.Dec.{eqb, ltb}
use mathlib.Core.Bool.{Bool, true, false, cond}
use Rattle.std.specs.Prelude.{Result, Ok, Err}
use Rattle.number.specs.declared.Wrong.{Wrong}
use lib.Seq.{drop-drop, drop-append_seam}
use Rattle.number.specs.Number.{number_bytes, groups_in, groups_at, number_at, Found, found, none, below, placed}
use Rattle.number.proofs.Numbers.{not_found}
use Rattle.number.proofs.Places.{no_value, same_value, groups_some}
use Rattle.number.proofs.ReadBack.{number_back}
use Rattle.number.specs.Words.{Words, word, stop, on_number, words_from, words_at, place_of, bytes_of, laid}

-- ---- numbers below 2^32, and where they end
abbrev pub Small : List ℕ → Type 0
Small [] = Unit
Small (n ∷ l) = (n < 4294967296) × Small l

pub small_append : (l m : List ℕ) → Small l → Small m → Small (l ++ m)
small_append [] m h g = g
small_append (n ∷ l) m h g = (h.0, small_append l m h.1 g)

-- where numbers from p on end
unfoldable pub after : ℕ → List ℕ → ℕ
after p [] = p
after p (n ∷ l) = after (p + length (number_bytes n)) l

pub after_append : (l m : List ℕ) (p : ℕ) → after p (l ++ m) ≡ after (after p l) m
unfolding after
after_append [] m p = refl
after_append (n ∷ l) m p = after_append l m (p + length (number_bytes n))

pub after_length : (l : List ℕ) (p : ℕ) → after p l ≡ p + length (bytes_of l)
unfolding after bytes_of
after_length [] p = omega arith
after_length (n ∷ l) p = after_length l (p + length (number_bytes n)) ∙ simp length-append (omega arith)

-- ---- numbers that are written are those that are read
no_more : (s : List ℕ) (at : ℕ) → drop at s ≡ [] → number_at s at ≡ Err (record { at = at })
unfolding groups_at groups_in
no_more s at e = rw e

from_back : (ws : List ℕ) → Small ws → (most : ℕ) (s : List ℕ) (at : ℕ) → length ws ≤ most → drop at s ≡ bytes_of ws → words_from most s at ≡ laid at ws
unfolding words_from bytes_of laid
from_back [] h zero s at m e = refl
from_back [] h (suc most) s at m e = rw (no_more s at e)
from_back (n ∷ ws) h zero s at m e = absurd (omega arith)
from_back (n ∷ ws) h (suc most) s at m e =
    let d : drop (at + length (number_bytes n)) s ≡ bytes_of ws =
    sym (drop-drop (length (number_bytes n)) at s) ∙ (ap (drop (length (number_bytes n))) e ∙ drop-append_seam (number_bytes n) (bytes_of ws)) in
    rw (number_back s at n (bytes_of ws) h.0 e, from_back ws h.1 most s (at + length (number_bytes n)) (omega arith) d)

bytes_more : (ws : List ℕ) → length ws ≤ length (bytes_of ws)
unfolding bytes_of
bytes_more [] = omega arith
bytes_more (n ∷ ws) = let z = bytes_more ws in let y = groups_some 4 n in simp length-append (omega arith)

pub words_back : (ws : List ℕ) → Small ws → words_at (bytes_of ws) 0 ≡ laid 0 ws
unfolding words_at
words_back ws h = from_back ws h (length (bytes_of ws)) (bytes_of ws) 0 (bytes_more ws) refl

-- ---- the numbers at a place
-- a number takes a byte at least
longer : (more : ℕ) (l : List ℕ) (n k : ℕ) → groups_in more l ≡ found n k → 0 < k
unfolding groups_in
longer more [] n k e = not_found e
longer zero (b ∷ l) n k e = by (ltb b 16) e
  where
    by : (t : Bool) → cond t (found b 1) none ≡ found n k → 0 < k
    by true f = let z : 1 ≡ k = cc in omega arith
    by false f = not_found f
longer (suc more) (b ∷ l) n k e = by (ltb b 128) (groups_in more l) e
  where
    above : (t : Bool) (m j : ℕ) → cond t none (found m (suc j)) ≡ found n k → 0 < k
    above true m j f = not_found f
    above false m j f = let z : suc j ≡ k = cc in omega arith

    by : (t : Bool) (f : Found) → cond t (found b 1) (below (b - 128) f) ≡ found n k → 0 < k
    by true f g = let z : 1 ≡ k = cc in omega arith
    by false none g = not_found g
    by false (found m j) g = above (eqb m 0) _ j g

pub further : (s : List ℕ) (at n end : ℕ) → number_at s at ≡ Ok (n, end) → at < end
unfolding groups_at
further s at n end e = by (groups_in 4 (drop at s)) refl e
  where
    by : (f : Found) → groups_in 4 (drop at s) ≡ f → placed at f ≡ Ok (n, end) → at < end
    by none g h = no_value h
    by (found m k) g h = let z = longer 4 (drop at s) m k g in let y = (same_value h).1 in omega arith

wrong_place : (at : ℕ) (f : Found) (w : Wrong) → Err w ≡ placed at f → w.at ≡ at
wrong_place at none w e = let z : w ≡ record { at = at } = cc in ap (λ (x : Wrong). x.at) z
wrong_place at (found n k) w e = no_value e

pub wrong_at : (s : List ℕ) (at : ℕ) (w : Wrong) → Err w ≡ number_at s at → w.at ≡ at
unfolding groups_at
wrong_at s at w e = wrong_place at (groups_in 4 (drop at s)) w e

same_next :
    (s : List ℕ) (f g : ℕ → Words) (at : ℕ) (m : Result (ℕ × ℕ) Wrong) → number_at s at ≡ m → ((q : ℕ) → at < q → f q ≡ g q) → on_number at f m ≡ on_number at g m
same_next s f g at (Ok v) e h = ap (word at v.0) (h v.1 (further s at v.0 v.1 e))
same_next s f g at (Err w) e h = refl

-- more numbers than there are bytes say no more
enough : (f g : ℕ) (s : List ℕ) (at : ℕ) → length s ≤ at + f → length s ≤ at + g → words_from f s at ≡ words_from g s at
unfolding words_from
enough zero zero s at h k = refl
enough zero (suc g) s at h k = let d : length s ≤ at = omega arith in rw (no_more s at (drop_of_length-le s d))
enough (suc f) zero s at h k = let d : length s ≤ at = omega arith in rw (no_more s at (drop_of_length-le s d))
enough (suc f) (suc g) s at h k = same_next s (words_from f s) (words_from g s) at (number_at s at) refl (λ q l. enough f g s q (omega arith) (omega arith))

words_step : (s : List ℕ) (at : ℕ) → words_at s at ≡ on_number at (words_at s) (number_at s at)
unfolding words_from words_at
words_step s at = enough (length s) (suc (length s)) s at (omega arith) (omega arith)

module _ (s : List ℕ) (at : ℕ) where
  pub word_here : (n end : ℕ) → number_at s at ≡ Ok (n, end) → words_at s at ≡ word at n (words_at s end)
  word_here n end e = words_step s at ∙ rw e

  pub stop_here : (w : Wrong) → number_at s at ≡ Err w → words_at s at ≡ stop at
  stop_here w e = words_step s at ∙ (rw e (ap stop (wrong_at s at w (sym e))))

  module _ {t : Result (ℕ × ℕ) Wrong} (e : t ≡ number_at s at) where
    -- where `read_number(message, at)` is `Ok((n, end))`
    pub here : {n end : ℕ} → t ≡ Ok (n, end) → words_at s at ≡ word at n (words_at s end)
    here {n} {end} f = word_here n end (sym e ∙ f)

    pub on : {n end : ℕ} → t ≡ Ok (n, end) → at < end
    on {n} {end} f = further s at n end (sym e ∙ f)

    -- where it is `Err(w)`
    pub nothing : {w : Wrong} → t ≡ Err w → words_at s at ≡ stop at
    nothing {w} f = stop_here w (sym e ∙ f)

  place_on : (f : Found) → place_of (on_number at (words_at s) (placed at f)) ≡ at
  place_on none = refl
  place_on (found n k) = refl

  pub place_of_lem : place_of (words_at s at) ≡ at
  unfolding groups_at
  place_of_lem = rw (words_step s at) (place_on (groups_in 4 (drop at s)))

-- ---- numbers at their place
abbrev pub IsAt : List ℕ → Words → Type 0
IsAt s ws = ws ≡ words_at s (place_of ws)

tail_on : (s : List ℕ) (p n : ℕ) (ws : Words) (m : Result (ℕ × ℕ) Wrong) → word p n ws ≡ on_number p (words_at s) m → IsAt s ws
tail_on s p n ws (Ok v) e = let x : ws ≡ words_at s v.1 = cc in x ∙ sym (ap (words_at s) (ap place_of x ∙ place_of_lem s v.1))
tail_on s p n ws (Err w) e = let z : ⊥ = cc in absurd z

pub tail_at : (s : List ℕ) (p n : ℕ) (ws : Words) → IsAt s (word p n ws) → IsAt s ws
tail_at s p n ws h = tail_on s p n ws (number_at s p) (h ∙ words_step s p)

pub is_at : (s : List ℕ) (at : ℕ) → IsAt s (words_at s at)
is_at s at = sym (ap (words_at s) (place_of_lem s at))

pub no_words : (s : List ℕ) (at : ℕ) → length s ≤ at → words_at s at ≡ stop at
no_words s at h = words_step s at ∙ rw (no_more s at (drop_of_length-le s h))

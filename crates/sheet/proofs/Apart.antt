-- When a byte is needed: two sheets that differ at it alone give different results, as where one is all of one byte and the other has another byte there.
use Prim.Native.Nat.{ℕ, ◌≤◌, ◌<◌}
use mathlib.Core.Path.{◌≡◌, sym, ◌∙◌, subst}
use mathlib.Core.List.{List}
use native.Mathlib.Omega.{arith}
use native.Mathlib.Decide.{dec_lt, ℕ_discrete}
use lib.ListN.{length, get_or, set, length-set, replicate, length-replicate, get_or-replicate, get_or-eq_default}
use lib.Seq.{get_or-set_same, get_or-set_other}

-- every byte of s is at most 255; past its end `get_or` gives 0
abbrev pub Bytes : List ℕ → Type 0
Bytes s = (i : ℕ) → get_or s i 0 ≤ 255

pub bytes_inside : (s : List ℕ) → ((i : ℕ) → i < length s → get_or s i 0 ≤ 255) → Bytes s
bytes_inside s h i = go (dec_lt i (length s))
  where
    go : Dec (i < length s) → get_or s i 0 ≤ 255
    go (yes l) = h i l
    go (no l) = let z = get_or-eq_default s 0 {n = i} (omega arith) in omega arith

-- two sheets of n bytes that differ at byte j alone
pub record Apart (n j : ℕ) (s t : List ℕ) : Type 0 where
  pub first_length : length s ≡ n
  pub second_length : length t ≡ n
  pub first_bytes : Bytes s
  pub second_bytes : Bytes t
  pub same : (i : ℕ) → (i ≡ j → ⊥) → get_or s i 0 ≡ get_or t i 0
  pub different : get_or s j 0 ≡ get_or t j 0 → ⊥

-- byte k of what f makes of a sheet of n bytes needs byte j: two sheets that differ there alone give different bytes k
pub record Needed (n j k : ℕ) (f : List ℕ → List ℕ) : Type 0 where
  pub first : List ℕ
  pub second : List ℕ
  pub apart : Apart n j first second
  pub told : get_or (f first) k 0 ≡ get_or (f second) k 0 → ⊥

-- so no reach R of byte k without j would do: were byte k the same wherever two sheets agree on R, then R has j
pub in_every_reach : {n j k : ℕ} {f : List ℕ → List ℕ} → Needed n j k f → (R : ℕ → Type 0) → ((s t : List ℕ) → length s ≡ n → length t ≡ n → Bytes s → Bytes t → ((i : ℕ) → R i → get_or s i 0 ≡ get_or t i 0) → get_or (f s) k 0 ≡ get_or (f t) k 0) → (R j → ⊥) → ⊥
in_every_reach w R alike without =
    let p = w.apart in
    w.told (alike w.first w.second p.first_length p.second_length p.first_bytes p.second_bytes (λ i r. p.same i (λ e. without (subst R e r))))

-- n bytes c, but v at j
abbrev pub all_but : (n c j v : ℕ) → List ℕ
all_but n c j v = set (replicate n c) j v

module _ (n c j : ℕ) (h : j < n) where
  pub length_all_but : (v : ℕ) → length (all_but n c j v) ≡ n
  length_all_but v = length-set (replicate n c) j v ∙ length-replicate n c

  pub at_but : (v : ℕ) → get_or (all_but n c j v) j 0 ≡ v
  at_but v = get_or-set_same (replicate n c) j v 0 (let z = length-replicate n c in omega arith)

  pub not_at_but : (v i : ℕ) → i < n → (i ≡ j → ⊥) → get_or (all_but n c j v) i 0 ≡ c
  not_at_but v i l d = get_or-set_other (replicate n c) j i v 0 d ∙ get_or-replicate n i c 0 l

  pub all_same : (i : ℕ) → i < n → get_or (all_but n c j c) i 0 ≡ c
  all_same i l = go (ℕ_discrete i j)
    where
      go : Dec (i ≡ j) → get_or (all_but n c j c) i 0 ≡ c
      go (yes e) = rw e (at_but c)
      go (no d) = not_at_but c i l d

  pub bytes_all_but : (v : ℕ) → c ≤ 255 → v ≤ 255 → Bytes (all_but n c j v)
  bytes_all_but v hc hv = bytes_inside (all_but n c j v) (λ i l. go i (let z = length_all_but v in omega arith) (ℕ_discrete i j))
    where
      go : (i : ℕ) → i < n → Dec (i ≡ j) → get_or (all_but n c j v) i 0 ≤ 255
      go i l (yes e) = rw (e, at_but v) hv
      go i l (no d) = rw (not_at_but v i l d) hc

  -- byte j goes from 0 to 255, and byte k with it
  pub needed : (k : ℕ) (f : List ℕ → List ℕ) → c ≤ 255 → get_or (f (all_but n c j 0)) k 0 ≡ 0 → 255 ≤ get_or (f (all_but n c j 255)) k 0 → Needed n j k f
  needed k f hc a b = record {
    first = all_but n c j 0;
    second = all_but n c j 255;
    apart = record {
      first_length = length_all_but 0;
      second_length = length_all_but 255;
      first_bytes = bytes_all_but 0 hc (omega arith);
      second_bytes = bytes_all_but 255 hc (omega arith);
      same = λ i d. get_or-set_other (replicate n c) j i 0 0 d ∙ sym (get_or-set_other (replicate n c) j i 255 0 d);
      different = λ e. let p = at_but 0 in let q = at_but 255 in omega arith;
    };
    told = λ e. omega arith;
  }

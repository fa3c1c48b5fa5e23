-- What is read is what is written: but for the patterns of a NaN, the numbers that give some values are those that are written for them.
use Prim.Native.Nat.{ℕ, zero, suc, ◌+◌, ◌-◌, ◌*◌, ◌/◌, ◌%◌, ◌<◌}
use mathlib.Core.Path.{◌≡◌, refl, sym, ap, ◌∙◌}
use mathlib.Core.Bool.{Bool, true, false, cond, not, true≢false}
use mathlib.Core.List.{List, [], ◌∷◌, ◌++◌, map, append_assoc}
use mathlib.Core.Logic.{◌⊎◌, inl, inr, ⊎_elim}
use native.Mathlib.Omega.{arith}
use borrow.Author.Tests.{ltb-true, ltb-false}
use lib.ListN.{length}
use lib.Dec.{T, ltb}
use lib.IntN.{pos, negsuc}
use lib.Ieee.{Float, nan, inf, fin, Format, top, binary32, binary64, of_bits, to_bits, is_nan}
use lib.Ieee.Bits.{to_bits-of_bits, of_bits-fits}
use mir.Syntax.{w32}
use mir.Val.{SFits}
use Rattle.number.specs.Words.{Words, word, stop, Got, got, wrong, and_then}
use Rattle.number.specs.Values.{seed_of, seed_bits}
use Rattle.number.proofs.Words.{Small}
use Rattle.number.proofs.Form.{plain, end_of}
use Rattle.number.proofs.Seeds.{seed_form}
use Rattle.message.specs.Fields.{Shape, none, one, two, list, Payload, shape_of, Field, number, up_to, float, double, seed, numbers, choice, Value, Values, bits, write_numbers, write_shape, write_field, write, read_floats, read_numbers, read_shape, read_field, read}
use Rattle.message.specs.RoundTrip.{EachOf, typed, no_nan, EqualButNan, equal, nan_32, nan_64}
use Rattle.message.proofs.Fields.{EachShape, EachField, EachValue, FitShape, FitField, Fit}

-- ---- what holds of a value that was read, and of what is left
pub data OnGot {A : Type 0} (Q : A → Words → Type 0) : Got A → Type 0 where
  is_got : {a : A} {rest : Words} → Q a rest → OnGot Q (got a rest)
  is_wrong : {p : ℕ} → OnGot Q (wrong p)

pub on_then :
    {A B : Type 0} {Q : A → Words → Type 0} {R : B → Words → Type 0} {g : Got A} (f : A → Words → Got B) → OnGot Q g
    → ((a : A) (ws : Words) → Q a ws → OnGot R (f a ws)) → OnGot R (and_then g f)
on_then f (is_got {a} {rest} h) i = i a rest h
on_then f is_wrong i = is_wrong

pub on_cond :
    {A : Type 0} {Q : A → Words → Type 0} (t : Bool) {g : Got A} (p : ℕ) → (t ≡ true → OnGot Q g) → OnGot Q (cond t g (wrong p))
on_cond true p h = h refl
on_cond false p h = is_wrong

pub on_same : {A : Type 0} {Q R : A → Words → Type 0} {g : Got A} → OnGot Q g → ((a : A) (ws : Words) → Q a ws → R a ws) → OnGot R g
on_same (is_got {a} {rest} h) i = is_got (i a rest h)
on_same is_wrong i = is_wrong

-- ---- numbers that were read
-- what was read fits; if C, that nothing is NaN, ws are the numbers l and then those of rest, and they are nearly so in any case
pub record Form (F C : Type 0) (ws : Words) (l : List ℕ) (rest : Words) : Type 0 where
  pub fit : F
  pub form : C → plain ws ≡ l ++ plain rest
  pub nearly : (m : List ℕ) → EqualButNan (plain rest) m → EqualButNan (plain ws) (l ++ m)
  pub small : Small (plain rest)
  pub ends : end_of ws ≡ end_of rest

-- n was read, and m is written
abbrev pub Near : ℕ → ℕ → Type 0
Near n m = (l k : List ℕ) → EqualButNan l k → EqualButNan (n ∷ l) (m ∷ k)

pub near : (n : ℕ) → Near n n
near n l k h = equal h

-- one number, and others after it
pub after_one :
    {F C G D : Type 0} (p n : ℕ) (ws rest : Words) (m : ℕ) (l : List ℕ) → Form F C ws l rest → G → Near n m → (D → (n ≡ m) × C)
    → Form G D (word p n ws) (m ∷ l) rest
unfolding plain end_of
after_one p n ws rest m l k g i c = record {
  fit = g;
  form = λ d. let x = (c d).0 in let y = k.form (c d).1 in rw (x, y);
  nearly = λ o j. i (plain ws) (l ++ o) (k.nearly o j);
  small = k.small;
  ends = k.ends;
}

-- numbers, and others after them
pub joined :
    {F C G D : Type 0} {ws mid rest : Words} {l m : List ℕ} → Form F C ws l mid → Form G D mid m rest → Form (F × G) (C × D) ws (l ++ m) rest
joined {rest = rest} {l} {m} h k = record {
  fit = (h.fit, k.fit);
  form = λ c. let x = h.form c.0 in let y = k.form c.1 in x ∙ rw y (sym (append_assoc l m (plain rest)));
  nearly = λ o j. rw append_assoc (h.nearly (m ++ o) (k.nearly o j));
  small = k.small;
  ends = h.ends ∙ k.ends;
}

pub nothing_yet : (ws : Words) → Small (plain ws) → Form Unit Unit ws [] ws
nothing_yet ws h = record { fit = tt; form = λ c. refl; nearly = λ o j. j; small = h; ends = refl }

-- one number and no more
alone :
    {G D : Type 0} (p n : ℕ) (ws : Words) (m : ℕ) → Small (plain ws) → G → Near n m → (D → n ≡ m) → Form G D (word p n ws) (m ∷ []) ws
alone p n ws m h g i c = after_one p n ws ws m [] (nothing_yet ws h) g i (λ d. (c d, tt))

-- the pattern of a float that is no NaN
pattern_32 : (n : ℕ) → n < 4294967296 → T (not (is_nan (of_bits binary32 n))) → n ≡ bits (of_bits binary32 n)
pattern_32 n h c = sym (to_bits-of_bits binary32 n h c)

-- the pattern of any float is the one that was read, or that of a NaN for another
nan_bits : (f : Format) (x : Float) → is_nan x ≡ true → to_bits f x ≡ to_bits f nan
unfolding is_nan
nan_bits f nan e = refl
nan_bits f (inf s) e = absurd (true≢false (sym e))
nan_bits f (fin s m k) e = absurd (true≢false (sym e))

any_pattern : (f : Format) (n : ℕ) → n < 2 * top f → (to_bits f (of_bits f n) ≡ n) ⊎ (T (is_nan (of_bits f n)) × (to_bits f (of_bits f n) ≡ to_bits f nan))
any_pattern f n h = by (is_nan (of_bits f n)) refl
  where
    by : (t : Bool) → is_nan (of_bits f n) ≡ t → (to_bits f (of_bits f n) ≡ n) ⊎ (T (is_nan (of_bits f n)) × (to_bits f (of_bits f n) ≡ to_bits f nan))
    by true e = inr (rw e tt, nan_bits f (of_bits f n) e)
    by false e = inl (to_bits-of_bits f n h (rw e tt))

near_32 : (n : ℕ) → n < 4294967296 → Near n (bits (of_bits binary32 n))
unfolding to_bits
near_32 n h l k j = ⊎_elim (λ e. rw e (equal j)) (λ e. rw e.1 (nan_32 e.0 j)) (any_pattern binary32 n h)

seed_fits : (n : ℕ) → n < 4294967296 → SFits w32 (seed_of n)
seed_fits n h = by (ltb n 2147483648) refl
  where
    by : (t : Bool) → ltb n 2147483648 ≡ t → SFits w32 (cond t (pos n) (negsuc (4294967295 - n)))
    by true e = let z = ltb-true n 2147483648 e in record { sfits = omega arith }
    by false e = let z = ltb-false n 2147483648 e in record { sfits = omega arith }

-- n floats
pub record FloatsForm (n : ℕ) (ws : Words) (l : List Float) (rest : Words) : Type 0 where
  pub long : length l ≡ n
  pub read_as : Form (EachOf typed.float l) (EachOf no_nan.float l) ws (map bits l) rest

floats_form : (n : ℕ) (ws : Words) → Small (plain ws) → OnGot (FloatsForm n ws) (read_floats n ws)
unfolding read_floats plain
floats_form zero ws h = is_got (record { long = refl; read_as = nothing_yet ws h })
floats_form (suc n) (stop p) h = is_wrong
floats_form (suc n) (word p b ws) h =
    on_then _ (floats_form n ws h.1) (λ l r k. is_got (record {
      long = ap suc k.long;
      read_as =
          after_one p b ws r (bits (of_bits binary32 b)) (map bits l) k.read_as (of_bits-fits binary32 b, k.read_as.fit) (near_32 b h.0) (λ d. (pattern_32 b h.0 d.0, d.1));
    }))

-- ---- nothing is NaN
abbrev pub NoCode : ℕ → ℕ → Type 0
NoCode n k = Unit

abbrev ClearShape : (s : Shape) → Payload s → Type 0
ClearShape = EachShape no_nan NoCode

abbrev ClearField : (f : Field) → Value f → Type 0
ClearField = EachField no_nan NoCode

abbrev pub Clear : (fs : List Field) → Values fs → Type 0
Clear = EachValue no_nan NoCode

-- ---- what the numbers of values are
numbers_form : (ws : Words) → Small (plain ws) → OnGot (λ l rest. Form (FitShape list l) (ClearShape list l) ws (write_numbers l) rest) (read_numbers ws)
unfolding read_numbers write_numbers plain
numbers_form (stop p) h = is_wrong
numbers_form (word p n ws) h =
    on_same (floats_form n ws h.1) (λ l r k.
    let e = k.long in
    after_one p n ws r (length l) (map bits l) k.read_as (rw e h.0, k.read_as.fit) (rw e (near n)) (λ d. (sym e, d.1)))

shape_form : (s : Shape) (ws : Words) → Small (plain ws) → OnGot (λ v rest. Form (FitShape s v) (ClearShape s v) ws (write_shape s v) rest) (read_shape s ws)
unfolding read_shape write_shape plain
shape_form none ws h = is_got (nothing_yet ws h)
shape_form one (stop p) h = is_wrong
shape_form one (word p n ws) h = is_got (alone p n ws (bits (of_bits binary32 n)) h.1 (of_bits-fits binary32 n) (near_32 n h.0) (pattern_32 n h.0))
shape_form two (stop p) h = is_wrong
shape_form two (word p n (stop q)) h = is_wrong
shape_form two (word p n (word q m ws)) h =
    is_got
    (after_one p n (word q m ws) ws (bits (of_bits binary32 n)) (bits (of_bits binary32 m) ∷ [])
    (alone {D = T (not (is_nan (of_bits binary32 m)))} q m ws (bits (of_bits binary32 m)) h.1.1 (of_bits-fits binary32 m) (near_32 m h.1.0) (pattern_32 m h.1.0))
    (of_bits-fits binary32 n, of_bits-fits binary32 m) (near_32 n h.0) (λ d. (pattern_32 n h.0 d.0, d.1)))
shape_form list ws h = numbers_form ws h

-- the two halves of an f64's bits
low_half : (a b n : ℕ) → a < 4294967296 → n ≡ a + 4294967296 * b → a ≡ n % 4294967296
low_half a b n h e = omega arith

high_half : (a b n : ℕ) → a < 4294967296 → n ≡ a + 4294967296 * b → b ≡ n / 4294967296
high_half a b n h e = omega arith

abbrev f64 : ℕ → ℕ → Float
f64 a b = of_bits binary64 (a + 4294967296 * b)

pattern_64 : (a b : ℕ) → a < 4294967296 → b < 4294967296 → T (not (is_nan (f64 a b))) → to_bits binary64 (f64 a b) ≡ a + 4294967296 * b
pattern_64 a b h k c = to_bits-of_bits binary64 (a + 4294967296 * b) (omega arith) c

near_64 :
    (a b : ℕ) → a < 4294967296 → b < 4294967296 → (l k : List ℕ) → EqualButNan l k
    → EqualButNan (a ∷ b ∷ l) (to_bits binary64 (f64 a b) % 4294967296 ∷ to_bits binary64 (f64 a b) / 4294967296 ∷ k)
unfolding to_bits
near_64 a b h i l k j =
    let n = to_bits binary64 (f64 a b) in
    ⊎_elim (λ e. let x = low_half a b n h e in let y = high_half a b n h e in rw (← x, ← y) (equal (equal j))) (λ e. rw e.1 (nan_64 e.0 j))
    (any_pattern binary64 (a + 4294967296 * b) (omega arith))

-- what is said of a field
abbrev FieldForm : (f : Field) → Words → Value f → Words → Type 0
FieldForm f ws v rest = Form (FitField f v) (ClearField f v) ws (write_field f v) rest

field_form : (f : Field) (ws : Words) → Small (plain ws) → OnGot (FieldForm f ws) (read_field f ws)
unfolding read_field write_field plain end_of
field_form number (stop p) h = is_wrong
field_form number (word p n ws) h = is_got (alone p n ws n h.1 h.0 (near n) (λ d. refl))
field_form (up_to m) (stop p) h = is_wrong
field_form (up_to m) (word p k ws) h = by (ltb m k) refl
  where
    by : (t : Bool) → ltb m k ≡ t → OnGot (FieldForm (up_to m) (word p k ws)) (cond t (wrong p) (got k ws))
    by true e = is_wrong
    by false e = let z = ltb-false m k e in is_got (alone p k ws k h.1 (omega arith, h.0) (near k) (λ d. refl))
field_form float (stop p) h = is_wrong
field_form float (word p n ws) h = is_got (alone p n ws (bits (of_bits binary32 n)) h.1 (of_bits-fits binary32 n) (near_32 n h.0) (pattern_32 n h.0))
field_form double (stop p) h = is_wrong
field_form double (word p a (stop q)) h = is_wrong
field_form double (word p a (word q b ws)) h =
    let n = to_bits binary64 (f64 a b) in
    let e = pattern_64 a b h.0 h.1.0 in
    is_got {rest = ws} (record {
      fit = of_bits-fits binary64 (a + 4294967296 * b);
      form = λ d. let x = low_half a b n h.0 (e d) in let y = high_half a b n h.0 (e d) in cc;
      nearly = near_64 a b h.0 h.1.0 (plain ws);
      small = h.1.1;
      ends = refl;
    })
field_form seed (stop p) h = is_wrong
field_form seed (word p n ws) h = is_got (alone p n ws (seed_bits (seed_of n)) h.1 (seed_fits n h.0) (rw (seed_form n h.0) (near n)) (λ d. sym (seed_form n h.0)))
field_form numbers ws h = numbers_form ws h
field_form (choice shapes) (stop p) h = is_wrong
field_form (choice shapes) (word p k ws) h =
    on_cond (ltb k (length shapes)) p (λ e.
    on_then (λ v r. got (k, v) r) (shape_form (shape_of shapes k) ws h.1) (λ v r s.
    is_got (after_one p k ws r k (write_shape (shape_of shapes k) v) s ((ltb-true k (length shapes) e, h.0), s.fit) (near k) (λ d. (refl, d.1)))))

-- what is said of a row
abbrev pub RowForm : (fs : List Field) → Words → Values fs → Words → Type 0
RowForm fs ws v rest = Form (Fit fs v) (Clear fs v) ws (write fs v) rest

pub read_form_lem : (fs : List Field) (ws : Words) → Small (plain ws) → OnGot (RowForm fs ws) (read fs ws)
unfolding read write
read_form_lem [] ws h = is_got (nothing_yet ws h)
read_form_lem (f ∷ fs) ws h =
    on_then (λ v r. and_then (read fs r) (λ vs r'. got (v, vs) r')) (field_form f ws h) (λ v r k.
    on_then (λ vs r'. got (v, vs) r') (read_form_lem fs r k.small) (λ vs r' l. is_got (joined k l)))

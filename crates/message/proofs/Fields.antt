-- Fields that are written are read back, and what is written are numbers below 2^32: once for every row of fields.
use Prim.Native.Nat.{ℕ, suc, ◌+◌, ◌*◌, ◌/◌, ◌%◌, ◌<◌}
use mathlib.Core.Path.{◌≡◌, refl}
use mathlib.Core.List.{List, [], ◌∷◌, ◌++◌, map, append_assoc}
use native.Mathlib.Omega.{arith}
use borrow.Author.Tests.{lt-ltb, le-ltb}
use lib.ListN.{length}
use lib.Ieee.{Float, binary32, binary64, to_bits}
use lib.Ieee.Bits.{of_bits-to_bits, to_bits-lt}
use Rattle.number.specs.Number.{number_bytes}
use Rattle.number.specs.Words.{got, laid}
use Rattle.number.proofs.Words.{Small, small_append, after, after_append}
use Rattle.number.proofs.Seeds.{seed_back, seed_small}
use Rattle.message.specs.Fields.{Shape, none, one, two, list, Payload, shape_of, Field, number, up_to, float, double, seed, numbers, choice, Value, Values, bits, write_numbers, write_shape, write_field, write, read_floats, read_numbers, read_shape, read_field, read}
use Rattle.message.specs.RoundTrip.{Says, EachOf, typed}

-- ---- what is said of each value of fields; C says it of a code, which is to be below a bound
module _ (P : Says) (C : ℕ → ℕ → Type 0) where
  abbrev pub EachNumbers : List Float → Type 0
  EachNumbers l = P.number (length l) × EachOf P.float l

  abbrev pub EachShape : (s : Shape) → Payload s → Type 0
  EachShape none v = Unit
  EachShape one x = P.float x
  EachShape two v = P.float v.0 × P.float v.1
  EachShape list l = EachNumbers l

  abbrev pub EachField : (f : Field) → Value f → Type 0
  EachField number n = P.number n
  EachField (up_to m) k = C (suc m) k
  EachField float x = P.float x
  EachField double x = P.double x
  EachField seed s = P.seed s
  EachField numbers l = EachNumbers l
  EachField (choice shapes) v = C (length shapes) v.0 × EachShape (shape_of shapes v.0) v.1

  abbrev pub EachValue : (fs : List Field) → Values fs → Type 0
  EachValue [] v = Unit
  EachValue (f ∷ fs) v = EachField f v.0 × EachValue fs v.1

-- a code that can be written
abbrev pub Known : ℕ → ℕ → Type 0
Known n k = (k < n) × (k < 4294967296)

-- values that can be written
abbrev pub FitShape : (s : Shape) → Payload s → Type 0
FitShape = EachShape typed Known

abbrev pub FitField : (f : Field) → Value f → Type 0
FitField = EachField typed Known

abbrev pub Fit : (fs : List Field) → Values fs → Type 0
Fit = EachValue typed Known

-- ---- reading what is written
floats_back : (l : List Float) → EachOf typed.float l → (p : ℕ) (r : List ℕ) → read_floats (length l) (laid p (map bits l ++ r)) ≡ got l (laid (after p (map bits l)) r)
unfolding read_floats laid after
floats_back [] h p r = refl
floats_back (x ∷ l) h p r = rw (floats_back l h.1 (p + length (number_bytes (bits x))) r, of_bits-to_bits binary32 x h.0)

numbers_back : (l : List Float) → EachOf typed.float l → (p : ℕ) (r : List ℕ) → read_numbers (laid p (write_numbers l ++ r)) ≡ got l (laid (after p (write_numbers l)) r)
unfolding read_numbers write_numbers laid after
numbers_back l h p r = floats_back l h (p + length (number_bytes (length l))) r

shape_back : (s : Shape) (v : Payload s) → FitShape s v → (p : ℕ) (r : List ℕ) → read_shape s (laid p (write_shape s v ++ r)) ≡ got v (laid (after p (write_shape s v)) r)
unfolding read_shape write_shape laid after
shape_back none v h p r = refl
shape_back one x h p r = rw (of_bits-to_bits binary32 x h)
shape_back two v h p r = rw (of_bits-to_bits binary32 v.0 h.0, of_bits-to_bits binary32 v.1 h.1)
shape_back list l h p r = numbers_back l h.1 p r

halves : (n : ℕ) → n % 4294967296 + 4294967296 * (n / 4294967296) ≡ n
halves n = omega arith

field_back : (f : Field) (v : Value f) → FitField f v → (p : ℕ) (r : List ℕ) → read_field f (laid p (write_field f v ++ r)) ≡ got v (laid (after p (write_field f v)) r)
unfolding read_field write_field laid after
field_back number n h p r = refl
field_back (up_to m) k h p r = rw (le-ltb m k (let z = h.0 in omega arith))
field_back float x h p r = rw (of_bits-to_bits binary32 x h)
field_back double x h p r = rw (halves (to_bits binary64 x), of_bits-to_bits binary64 x h)
field_back seed s h p r = rw (seed_back s h)
field_back numbers l h p r = numbers_back l h.1 p r
field_back (choice shapes) v h p r =
    rw (lt-ltb v.0 (length shapes) h.0.0, shape_back (shape_of shapes v.0) v.1 h.1 (p + length (number_bytes v.0)) r)

pub read_back : (fs : List Field) (v : Values fs) → Fit fs v → (p : ℕ) (r : List ℕ) → read fs (laid p (write fs v ++ r)) ≡ got v (laid (after p (write fs v)) r)
unfolding read write after laid
read_back [] v h p r = refl
read_back (f ∷ fs) v h p r =
    rw (
      append_assoc (write_field f v.0) (write fs v.1) r,
      field_back f v.0 h.0 p (write fs v.1 ++ r),
      read_back fs v.1 h.1 (after p (write_field f v.0)) r,
      after_append (write_field f v.0) (write fs v.1) p,
    )

-- ---- what is written are numbers below 2^32
floats_small : (l : List Float) → EachOf typed.float l → Small (map bits l)
floats_small [] h = tt
floats_small (x ∷ l) h = (to_bits-lt binary32 x h.0, floats_small l h.1)

numbers_small : (l : List Float) → EachNumbers typed Known l → Small (write_numbers l)
unfolding write_numbers
numbers_small l h = (h.0, floats_small l h.1)

shape_small : (s : Shape) (v : Payload s) → FitShape s v → Small (write_shape s v)
unfolding write_shape
shape_small none v h = tt
shape_small one x h = (to_bits-lt binary32 x h, tt)
shape_small two v h = (to_bits-lt binary32 v.0 h.0, (to_bits-lt binary32 v.1 h.1, tt))
shape_small list l h = numbers_small l h

field_small : (f : Field) (v : Value f) → FitField f v → Small (write_field f v)
unfolding write_field
field_small number n h = (h, tt)
field_small (up_to m) k h = (h.1, tt)
field_small float x h = (to_bits-lt binary32 x h, tt)
field_small double x h = let z = to_bits-lt binary64 x h in (omega arith, (omega arith, tt))
field_small seed s h = (seed_small s h, tt)
field_small numbers l h = numbers_small l h
field_small (choice shapes) v h = (h.0.1, shape_small (shape_of shapes v.0) v.1 h.1)

pub write_small : (fs : List Field) (v : Values fs) → Fit fs v → Small (write fs v)
unfolding write
write_small [] v h = tt
write_small (f ∷ fs) v h = small_append (write_field f v.0) (write fs v.1) (field_small f v.0 h.0) (write_small fs v.1 h.1)

-- Fields: what the numbers of a step stand for. One description is read and written.
use Rattle.std.specs.Prelude.{ℕ, zero, suc, ◌+◌, ◌*◌, ◌/◌, ◌%◌, cond, List, [], ◌∷◌, ◌++◌, map, length, get_or, ℤ, ltb, Float}
use Rattle.std.specs.Float.{binary32, binary64}
use Rattle.std.specs.Float.Ieee.{of_bits, to_bits}
use Rattle.number.specs.Words.{Words, Got, got, wrong, and_then, next}
use Rattle.number.specs.Values.{seed_of, seed_bits}

-- ---- what a kind calls for: nothing, an f32, two, or a count and so many
pub data Shape : Type 0 where
  none : Shape
  one : Shape
  two : Shape
  list : Shape

abbrev pub Payload : Shape → Type 0
Payload none = Unit
Payload one = Float
Payload two = Float × Float
Payload list = List Float

abbrev pub shape_of : List Shape → ℕ → Shape
shape_of shapes k = get_or shapes k none

-- ---- a number; a code from 0 to a largest one; an f32 by its bits; an f64 by its bits, low half first; a seed by its bits;
-- a count and so many f32; a kind, of which there is one for each shape, and what it calls for
pub data Field : Type 0 where
  number : Field
  up_to : ℕ → Field
  float : Field
  double : Field
  seed : Field
  numbers : Field
  choice : List Shape → Field

abbrev pub Value : Field → Type 0
Value number = ℕ
Value (up_to m) = ℕ
Value float = Float
Value double = Float
Value seed = ℤ
Value numbers = List Float
Value (choice shapes) = (k : ℕ) × Payload (shape_of shapes k)

abbrev pub Values : List Field → Type 0
Values [] = Unit
Values (f ∷ fs) = Value f × Values fs

-- ---- writing
abbrev pub bits : Float → ℕ
bits x = to_bits binary32 x

unfoldable pub write_numbers : List Float → List ℕ
write_numbers l = length l ∷ map bits l

unfoldable pub write_shape : (s : Shape) → Payload s → List ℕ
write_shape none v = []
write_shape one x = bits x ∷ []
write_shape two v = bits v.0 ∷ bits v.1 ∷ []
write_shape list l = write_numbers l

unfoldable pub write_field : (f : Field) → Value f → List ℕ
write_field number n = n ∷ []
write_field (up_to m) k = k ∷ []
write_field float x = bits x ∷ []
write_field double x = to_bits binary64 x % 4294967296 ∷ to_bits binary64 x / 4294967296 ∷ []
write_field seed s = seed_bits s ∷ []
write_field numbers l = write_numbers l
write_field (choice shapes) v = v.0 ∷ write_shape (shape_of shapes v.0) v.1

unfoldable pub write : (fs : List Field) → Values fs → List ℕ
write [] v = []
write (f ∷ fs) v = write_field f v.0 ++ write fs v.1

-- ---- reading
-- the next number as an f32
abbrev pub next_float : {A : Type 0} → Words → (Float → Words → Got A) → Got A
next_float ws f = next ws (λ p n rest. f (of_bits binary32 n) rest)

unfoldable pub read_floats : ℕ → Words → Got (List Float)
read_floats zero ws = got [] ws
read_floats (suc n) ws = next_float ws (λ x rest. and_then (read_floats n rest) (λ l rest'. got (x ∷ l) rest'))

unfoldable pub read_numbers : Words → Got (List Float)
read_numbers ws = next ws (λ p n rest. read_floats n rest)

unfoldable pub read_shape : (s : Shape) → Words → Got (Payload s)
read_shape none ws = got tt ws
read_shape one ws = next_float ws (λ x rest. got x rest)
read_shape two ws = next_float ws (λ x rest. next_float rest (λ y rest'. got (x, y) rest'))
read_shape list ws = read_numbers ws

unfoldable pub read_field : (f : Field) → Words → Got (Value f)
read_field number ws = next ws (λ p n rest. got n rest)
read_field (up_to m) ws = next ws (λ p k rest. cond (ltb m k) (wrong p) (got k rest))
read_field float ws = next_float ws (λ x rest. got x rest)
read_field double ws = next ws (λ p low rest. next rest (λ q high rest'. got (of_bits binary64 (low + 4294967296 * high)) rest'))
read_field seed ws = next ws (λ p n rest. got (seed_of n) rest)
read_field numbers ws = read_numbers ws
read_field (choice shapes) ws =
    next ws (λ p k rest.
    cond (ltb k (length shapes)) (and_then (read_shape (shape_of shapes k) rest) (λ v rest'. got (k, v) rest')) (wrong p))

unfoldable pub read : (fs : List Field) → Words → Got (Values fs)
read [] ws = got tt ws
read (f ∷ fs) ws = and_then (read_field f ws) (λ v rest. and_then (read fs rest) (λ vs rest'. got (v, vs) rest'))

-- ---- the numbers that go to the pool
abbrev pub pooled_shape : (s : Shape) → Payload s → List Float
pooled_shape none v = []
pooled_shape one x = []
pooled_shape two v = []
pooled_shape list l = l

abbrev pub pooled_by : (f : Field) → Value f → List Float
pooled_by number n = []
pooled_by (up_to m) k = []
pooled_by float x = []
pooled_by double x = []
pooled_by seed s = []
pooled_by numbers l = l
pooled_by (choice shapes) v = pooled_shape (shape_of shapes v.0) v.1

unfoldable pub pooled : (fs : List Field) → Values fs → List Float
pooled [] v = []
pooled (f ∷ fs) v = pooled_by f v.0 ++ pooled fs v.1

-- ---- a function of the values of fields
abbrev pub Of : List Field → Type 0 → Type 0
Of [] A = A
Of (f ∷ fs) A = Value f → Of fs A

abbrev pub apply : {A : Type 0} (fs : List Field) → Of fs A → Values fs → A
apply [] a v = a
apply (f ∷ fs) g v = apply fs (g v.0) v.1

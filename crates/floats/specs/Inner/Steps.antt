-- Words of the private functions' contracts: what each step keeps of the value that it is handed. No public contract cites them.
use Rattle.std.specs.Prelude.{◌≡◌, ℕ, ◌*◌, ◌^◌, ◌<◌, min, max, Bool, true, false, cond, T, ℤ, pos, neg_ℤ, nat_le, Float}
use Rattle.std.specs.Float.{nan, inf, fin, binary64}
use Rattle.std.specs.Float.Ieee.{up, down, lt}
use Rattle.std.specs.Float.Ieee.Positive.{num, den}
use Rattle.floats.specs.Round.{away, round_to}
use Rattle.floats.specs.Unit.{in_units}
use Rattle.floats.specs.Constants.{c0}

-- finite, and not negative (nor -0)
abbrev pub plain : Float → Bool
plain nan = false
plain (inf s) = false
plain (fin true m e) = false
plain (fin false m e) = true

-- plain, and at most n
abbrev pub up_to : ℕ → Float → Bool
up_to n nan = false
up_to n (inf s) = false
up_to n (fin true m e) = false
up_to n (fin false m e) = nat_le (m * up e) (n * down e)

-- x brought to 0 to top; a NaN gives 0
abbrev pub clamped : Float → Float → Float
clamped x top = cond (lt c0 x) (cond (lt x top) x top) c0

-- the `i32` of the size n, negative where s is true, to the end of the range where it is out of it
unfoldable pub signed_by : Bool → ℕ → ℤ
signed_by s n = cond s (neg_ℤ (pos (min n 2147483648))) (pos (min n 2147483647))

-- r is |x|, cut to 2 ^ 31, so far as `round_to 31` can tell; s is x's sign
pub record Magnitude (s : Bool) (x r : Float) : Type 0 where
  pub inside : T (up_to 2147483648 r)
  pub same : signed_by s (away (num r) (den r)) ≡ round_to 31 x

-- plain, with 48 binary digits at most
pub record FewDigits (r : Float) : Type 0 where
  pub flat : T (plain r)
  pub q : ℕ
  pub j : ℕ
  pub few : q < 2 ^ 48
  pub at : in_units binary64 r ≡ q * 2 ^ j

-- a and b in falling order
pub record Falling (a b hi lo : Float) : Type 0 where
  pub hi_few : FewDigits hi
  pub lo_few : FewDigits lo
  pub hi_is : in_units binary64 hi ≡ max (in_units binary64 a) (in_units binary64 b)
  pub lo_is : in_units binary64 lo ≡ min (in_units binary64 a) (in_units binary64 b)

-- r is n units of 2 ^ -298, exactly, and has few digits
pub record ExactSquare (n : ℕ) (r : Float) : Type 0 where
  pub digits : FewDigits r
  pub is : in_units binary64 r ≡ n * 2 ^ 776

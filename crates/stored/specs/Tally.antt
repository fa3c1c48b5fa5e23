-- Counting, in numbers of 64 bits.
use Rattle.std.specs.Prelude.{ℕ, ◌+◌, ◌%◌, ◌^◌, Bool, false, cond}
use Rattle.stored.specs.declared.tally.Tally.{Tally}

abbrev pub one_more : ℕ → ℕ
one_more n = (n + 1) % 2 ^ 64

abbrev pub none : Tally
none = record { cases = 0; differences = 0; unnamed = 0 }

abbrev pub counted : Tally → Bool → Tally
counted t same = record {
  cases = one_more t.cases;
  differences = cond same t.differences (one_more t.differences);
  unnamed = t.unnamed;
}

abbrev pub unnamed : Tally → Tally
unnamed t = record { cases = t.cases; differences = t.differences; unnamed = one_more t.unnamed }

abbrev pub whole : Tally → Bool → Tally
whole t ended = cond ended t (counted t false)

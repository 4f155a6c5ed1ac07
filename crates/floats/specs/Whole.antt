-- Whole numbers, in which every operation is exact, as numbers that the rules can be written over. Definitions only.
use Rattle.std.specs.Prelude.{Bool, true, false, zero, suc, ℤ, pos, negsuc, neg_ℤ, ◌-ℤ◌, ◌*ℤ◌}
use Rattle.floats.specs.Numbers.{Numbers}

abbrev pub is_not_negative : ℤ → Bool
is_not_negative (pos n) = true
is_not_negative (negsuc n) = false

abbrev pub is_negative : ℤ → Bool
is_negative (pos n) = false
is_negative (negsuc n) = true

abbrev pub is_nought : ℤ → Bool
is_nought (pos zero) = true
is_nought (pos (suc n)) = false
is_nought (negsuc n) = false

abbrev pub is_not_positive : ℤ → Bool
is_not_positive (pos zero) = true
is_not_positive (pos (suc n)) = false
is_not_positive (negsuc n) = true

abbrev pub whole : Numbers
whole = record {
  N = ℤ;
  minus = ◌-ℤ◌;
  times = ◌*ℤ◌;
  negate = neg_ℤ;
  is_at_least_zero = is_not_negative;
  is_at_most_zero = is_not_positive;
  is_below_zero = is_negative;
  is_zero = is_nought;
}

-- Zero is plus, and negative zero too; what is below zero is minus, and so is what is no number. (`to_bits` is opened so that a sign taken from
-- the sign bit would compute here as well, and be seen to differ.) Assumes nothing.
use mathlib.Core.Path.{◌≡◌, refl}
use mathlib.Core.Bool.{true, false}
use lib.Ieee.{nan, binary64, of_bits, to_bits, neg, le, lt, eq}
use Rattle.floats.specs.Finite.{nought}
use Rattle.floats.specs.Way.{given, f64}

pub zero_plus : f64.is_at_least_zero (given nought) ≡ true
unfolding le of_bits to_bits
zero_plus = refl

pub negative_zero_plus : f64.is_at_least_zero (given (neg nought)) ≡ true
unfolding le neg of_bits to_bits
negative_zero_plus = refl

-- the smallest value below zero
pub below_zero_minus : f64.is_at_least_zero (given (of_bits binary64 0x8000_0000_0000_0001)) ≡ false
unfolding le of_bits to_bits
below_zero_minus = refl

pub no_number_minus : f64.is_at_least_zero (given nan) ≡ false
unfolding le of_bits to_bits
no_number_minus = refl

-- both zeros are zero, and neither is below zero
pub zeros : (f64.is_zero (given nought) ≡ true) × (f64.is_zero (given (neg nought)) ≡ true) × (f64.is_below_zero (given (neg nought)) ≡ false)
unfolding eq lt neg of_bits
zeros = (refl, refl, refl)

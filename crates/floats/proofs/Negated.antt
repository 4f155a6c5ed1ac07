-- To negate is to turn the sign: zero becomes negative zero, which a difference from zero would not. Assumes nothing.
use mathlib.Core.Path.{◌≡◌, refl}
use lib.Ieee.{binary64, of_bits, neg, add, sub}
use Rattle.floats.specs.Finite.{nought}
use Rattle.floats.specs.Way.{given, negated}

pub negated_zero : (negated (given nought)).value ≡ of_bits binary64 0x8000_0000_0000_0000
unfolding neg of_bits sub add
negated_zero = refl

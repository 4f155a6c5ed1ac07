-- What the code takes from 32 bits: a number's sign by itself, points, and triangles. Definitions only.
use Rattle.std.specs.Prelude.{ℕ, ◌+◌, ◌*◌, ◌/◌, ◌%◌, List, [], ◌∷◌, ℤ, pos, negsuc}
use Rattle.floats.specs.Numbers.{Point}
use Rattle.text.specs.Decimal.{digit}
use Rattle.layout.specs.Bytes.{signed}
use Rattle.chart.specs.Numbers.{minus}

-- the last two digits of a number as one of two bytes, the byte of the tens being the lower
abbrev pub pair_of : ℕ → ℕ
pair_of w = digit (w / 10 % 10) + 256 * digit (w % 10)

-- the minus sign of a number below zero, of any other no byte
unfoldable pub sign_text : ℤ → List ℕ
sign_text (pos n) = []
sign_text (negsuc n) = minus ∷ []

abbrev pub point_of : ℕ → ℕ → Point ℤ
point_of x y = record { x = signed x; y = signed y }

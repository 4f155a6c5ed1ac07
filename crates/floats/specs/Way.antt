-- 01, "Numbers and lines": f64 operations, each rounded once, with the result of each kept as a value on the way. Definitions only.
use Rattle.std.specs.Prelude.{Bool, List, [], ◌∷◌, ◌++◌, Float}
use Rattle.std.specs.Float.{binary64}
use Rattle.std.specs.Float.Ieee.{add, sub, mul, div, neg, lt, le, eq}
use Rattle.floats.specs.Lists.{all}
use Rattle.floats.specs.Finite.{finite, nought}
use Rattle.floats.specs.Numbers.{Numbers, Point}
use Rattle.floats.specs.declared.Position.{Position}

infixl 65 ◌⊕◌
infixl 65 ◌⊖◌
infixl 70 ◌⊗◌
infixl 70 ◌⊘◌
-- a value, and the results of all operations on the way to it, its own the last
pub record Way : Type 0 where
  pub value : Float
  pub way : List Float

-- a value that no operation made, or whose own way was judged before
abbrev pub given : Float → Way
given v = record { value = v; way = [] }

-- one more operation, with the result v
abbrev pub step : Float → List Float → Way
step v before = record { value = v; way = before ++ (v ∷ []) }

abbrev pub ◌⊕◌ : Way → Way → Way
a ⊕ b = step (add binary64 a.value b.value) (a.way ++ b.way)

abbrev pub ◌⊖◌ : Way → Way → Way
a ⊖ b = step (sub binary64 a.value b.value) (a.way ++ b.way)

abbrev pub ◌⊗◌ : Way → Way → Way
a ⊗ b = step (mul binary64 a.value b.value) (a.way ++ b.way)

abbrev pub ◌⊘◌ : Way → Way → Way
a ⊘ b = step (div binary64 a.value b.value) (a.way ++ b.way)

abbrev pub negated : Way → Way
negated a = step (neg a.value) a.way

-- every value on the way is finite
abbrev pub fine : Way → Bool
fine a = all finite a.way

-- f64, with every value on the way. Its ≥ holds of both zeros, so either zero is plus
abbrev pub f64 : Numbers
f64 = record {
  N = Way;
  minus = ◌⊖◌;
  times = ◌⊗◌;
  negate = negated;
  is_at_least_zero = λ a. le nought a.value;
  is_at_most_zero = λ a. le a.value nought;
  is_below_zero = λ a. lt a.value nought;
  is_zero = λ a. eq a.value nought;
}

abbrev pub given_point : Float → Float → Point Way
given_point x y = record { x = given x; y = given y }

-- a position as the code has it
abbrev pub at : Position → Point Way
at p = given_point p.x p.y

-- b − a of two positions, each component by itself
abbrev pub difference : Position → Position → Position
difference b a = record { x = sub binary64 b.x a.x; y = sub binary64 b.y a.y }

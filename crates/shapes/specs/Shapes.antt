-- A triangle made ready once for every pair that it stands in: what its shape holds, and the twelve values of two. Definitions only.
use Rattle.std.specs.Prelude.{◌≡◌, List, [], ◌∷◌, Float}
use Rattle.std.specs.Float.{binary64}
use Rattle.std.specs.Float.Ieee.{sub}
use Rattle.floats.specs.Numbers.{cross_from}
use Rattle.floats.specs.Way.{f64, given_point}
use Rattle.floats.specs.declared.Position.{Position}
use Rattle.shapes.specs.declared.Shape.{Shape}

-- of three vertices: themselves, the sides from the first to the second and to the third, and their cross, which is d of a V and e of a U
abbrev pub shape_of : Float → Float → Float → Float → Float → Float → Shape
shape_of x0 y0 x1 y1 x2 y2 = record {
  v0 = record { x = x0; y = y0 };
  v1 = record { x = x1; y = y1 };
  v2 = record { x = x2; y = y2 };
  a = record { x = sub binary64 x1 x0; y = sub binary64 y1 y0 };
  b = record { x = sub binary64 x2 x0; y = sub binary64 y2 y0 };
  cross = (cross_from f64 (given_point x0 y0) (given_point x1 y1) (given_point x2 y2)).value;
}

-- a shape that is that of its own vertices
abbrev pub Made : Shape → Type 0
Made s = s ≡ shape_of s.v0.x s.v0.y s.v1.x s.v1.y s.v2.x s.v2.y

-- a shape's vertices
abbrev pub first : Shape → Position
first s = s.v0

abbrev pub second : Shape → Position
second s = s.v1

abbrev pub third : Shape → Position
third s = s.v2

-- its sides, from the first vertex to the second and to the third
abbrev pub side_a : Shape → Position
side_a s = s.a

abbrev pub side_b : Shape → Position
side_b s = s.b

-- its coordinates
abbrev pub six_of : Shape → List Float
six_of s = s.v0.x ∷ s.v0.y ∷ s.v1.x ∷ s.v1.y ∷ s.v2.x ∷ s.v2.y ∷ []

-- U0x, U0y, .. V2y
abbrev pub twelve : Shape → Shape → List Float
twelve u v = u.v0.x ∷ u.v0.y ∷ u.v1.x ∷ u.v1.y ∷ u.v2.x ∷ u.v2.y ∷ v.v0.x ∷ v.v0.y ∷ v.v1.x ∷ v.v1.y ∷ v.v2.x ∷ v.v2.y ∷ []

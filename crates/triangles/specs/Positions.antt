-- 01, "Flags, ring and area", and 02, No. 4: what the ring's corners are, where they stand, and their area. Definitions only.
use Rattle.std.proofs.Math.Bool.{cond}
use mathlib.Core.List.{List, [], ◌∷◌, map}
use Rattle.std.specs.Prelude.{ℕ, zero, suc, ◌+◌, ◌-◌, get_or, length, Float}
use Rattle.std.specs.Float.{nan, binary64}
use Rattle.std.specs.Float.Ieee.{of_bits}
use Rattle.floats.specs.Finite.{nought}
use Rattle.floats.specs.Numbers.{Point, cross_from}
use Rattle.floats.specs.Way.{Way, given, ◌⊕◌, ◌⊖◌, ◌⊗◌, ◌⊘◌, negated, f64, given_point}
use Rattle.lines.specs.Lines.{start, finish}
use Rattle.lines.specs.Parameters.{parameter}
use Rattle.ring.specs.Places.{Place, vertex, corner, crossing}
use Rattle.triangles.specs.declared.Kind.{Kind}
use Rattle.triangles.specs.declared.Kind.TheVariants.{Vertex, Reference, Crossing}
use Rattle.triangles.specs.Pair.{vertex_of, corner_of, params_of, carried_by, vertex_signs, signs_by, ring_of}

-- how far the crossing lies from P towards Q, by its line's parameter at either: a_P / (a_P − a_Q)
abbrev pub fraction : Way → Way → Way
fraction a_p a_q = a_p ⊘ (a_p ⊖ a_q)

-- P + t·(Q − P), each component by itself
abbrev pub between : Way → Point Way → Point Way → Point Way
between t P Q = record { x = P.x ⊕ (t ⊗ (Q.x ⊖ P.x)); y = P.y ⊕ (t ⊗ (Q.y ⊖ P.y)) }

-- a corner of the ring: what it is, and its position with every value on the way
pub record Placed : Type 0 where
  pub kind : Kind
  pub position : Point Way

module _ (l : List Float) where
  -- the crossing of edge e with line a, from vertex i, which is plus on the line, towards vertex j: it carries the very t by which it is placed
  unfoldable pub crossing_from : ℕ → ℕ → ℕ → ℕ → Placed
  unfolding params_of
  crossing_from e a i j =
      let t = fraction (parameter (carried_by l i) a) (parameter (carried_by l j) a) in
      record { kind = Crossing e a t.value; position = between t (vertex_of l i) (vertex_of l j) }

  -- the corner at a place: a vertex and a corner of V stand where the input has them; a crossing is reckoned from the end of its edge that is plus on its line
  unfoldable pub placed_at : Place → Placed
  unfolding vertex_signs crossing_from
  placed_at (vertex i) = record { kind = Vertex i; position = vertex_of l i }
  placed_at (corner k) = record { kind = Reference k; position = corner_of l k }
  placed_at (crossing e a) = cond (signs_by l (start e) a) (crossing_from e a (start e) (finish e)) (crossing_from e a (finish e) (start e))

  -- its position
  abbrev pub position_of : Place → Point Way
  position_of p = (placed_at p).position

  -- the positions of the ring's places, and of no other crossing
  unfoldable pub ring_positions : List (Point Way)
  unfolding ring_of placed_at
  ring_positions = map position_of (ring_of l)

-- the 2n values of n corners
unfoldable pub values_of_corners : List (Point Way) → List Float
values_of_corners [] = []
values_of_corners (c ∷ cs) = c.x.value ∷ c.y.value ∷ values_of_corners cs

-- corner k of these; its way was judged by the positions' row and is not kept
abbrev pub corner_at : List (Point Way) → ℕ → Point Way
corner_at cs k = let c = get_or cs k (given_point nan nan) in given_point c.x.value c.y.value

-- the sum of m crosses, each of the next two corners seen from corner 0, added one by one to 0.0
unfoldable pub sum_to : List (Point Way) → ℕ → Way
sum_to cs zero = given nought
sum_to cs (suc m) = sum_to cs m ⊕ cross_from f64 (corner_at cs 0) (corner_at cs (m + 1)) (corner_at cs (m + 2))

abbrev pub half : Float
half = of_bits binary64 0x3fe0_0000_0000_0000

-- n corners have n − 2 such crosses; the area is half their sum, or half of it with its sign turned where it is below zero. Without corners it
-- is 0.0
unfoldable pub area_of : List (Point Way) → Way
unfolding sum_to
area_of [] = given nought
area_of (c ∷ cs) =
    let sum = sum_to (c ∷ cs) (length (c ∷ cs) - 2) in
    given half ⊗ cond (f64.is_below_zero sum) (negated sum) sum

-- 01, "Lent memory and refusals, triangles": the whole answer of a list of values and a room. Definitions only.
use Rattle.std.specs.Prelude.{Bool, false, cond, List, [], ◌∷◌, ◌++◌, ℕ, eqb, length, drop, Float}
use Rattle.floats.specs.Finite.{nought}
use Rattle.ring.specs.Places.{Place}
use Rattle.ring.specs.Flags.{vertices_in, corners_in, neighbours}
use Rattle.triangles.specs.declared.Answer.{Answer}
use Rattle.triangles.specs.Pair.{vertex_signs, edge_orders, signs_by, orders_by, ring_of, tests_of}
use Rattle.triangles.specs.Positions.{ring_positions, values_of_corners, area_of}
use Rattle.triangles.specs.Refusals.{refusal_of}

-- what is answered, the room afterwards and, for stating things, the ring's places and the pair tests computed, each with its edge
pub record Whole : Type 0 where
  pub answer : Answer
  pub room : List Float
  pub ring : List Place
  pub tests : List (ℕ × (ℕ × ℕ))

abbrev pub no_flags : List Bool
no_flags = false ∷ false ∷ false ∷ []

-- a refusal: its number, and zeros
abbrev pub refusal : ℕ → Answer
refusal k = record { number = k; n = 0; area = nought; u_in_v = no_flags; v_in_u = no_flags; neighbour = no_flags }

-- with the room as it was lent
abbrev pub refused : ℕ → List Float → Whole
refused k room = record { answer = refusal k; room = room; ring = []; tests = [] }

-- number 0, n, the area and the nine flags
unfoldable pub answer_of : List Float → Answer
unfolding vertex_signs edge_orders ring_of ring_positions area_of vertices_in corners_in neighbours
answer_of l = record {
  number = 0;
  n = length (ring_of l);
  area = (area_of (ring_positions l)).value;
  u_in_v = vertices_in (signs_by l) (orders_by l);
  v_in_u = corners_in (signs_by l) (orders_by l);
  neighbour = neighbours (signs_by l) (orders_by l);
}

-- the corners' values stand at the front of the room, and what lies beyond them is as it was
unfoldable pub written : List Float → List Float → List Float
written values room = values ++ drop (length values) room

unfoldable pub answered : List Float → List Float → Whole
unfolding answer_of written ring_positions values_of_corners ring_of tests_of
answered l room = record { answer = answer_of l; room = written (values_of_corners (ring_positions l)) room; ring = ring_of l; tests = tests_of l }

-- the whole answer
unfoldable pub whole_of : List Float → List Float → Whole
unfolding refusal_of answered
whole_of l room = let k = refusal_of l room in let a = answered l room in cond (eqb k 0) a (refused k room)

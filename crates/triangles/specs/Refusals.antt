-- 01, "Lent memory and refusals, triangles": the table, row by row, and its tests in their order. Definitions only.
use Rattle.std.specs.Prelude.{Bool, not, ◌||◌, cond, List, [], ◌∷◌, ◌++◌, ℕ, eqb, ltb, length, Float}
use Rattle.floats.specs.Lists.{all}
use Rattle.floats.specs.Finite.{finite}
use Rattle.floats.specs.Numbers.{Point}
use Rattle.floats.specs.Way.{Way, f64}
use Rattle.lines.specs.Parameters.{Parameters}
use Rattle.triangles.specs.Pair.{d_of_v, e_of_u, parameters_of, tests_of, pair_d_of}
use Rattle.triangles.specs.Positions.{ring_positions, area_of}

-- the rows of the table, the last one's four stages as rows of their own
pub data Row : Type 0 where
  lengths coordinates way_to_d d_zero way_to_e e_zero way_to_parameter way_to_pair_test way_to_position way_to_area : Row

-- from top to bottom
abbrev pub table : List Row
table = lengths ∷ coordinates ∷ way_to_d ∷ d_zero ∷ way_to_e ∷ e_zero ∷ way_to_parameter ∷ way_to_pair_test ∷ way_to_position ∷ way_to_area ∷ []

abbrev pub number_of : Row → ℕ
number_of lengths = 1
number_of coordinates = 2
number_of way_to_d = 4
number_of d_zero = 3
number_of way_to_e = 4
number_of e_zero = 5
number_of way_to_parameter = 4
number_of way_to_pair_test = 4
number_of way_to_position = 4
number_of way_to_area = 4

-- the values on the way to three parameters, to pair tests and to positions
abbrev pub parameters_way : Parameters Way → List Float
parameters_way p = p.x.way ++ (p.y.way ++ p.w.way)

unfoldable pub tests_way : List Float → List (ℕ × (ℕ × ℕ)) → List Float
unfolding pair_d_of
tests_way l [] = []
tests_way l (t ∷ ts) = (pair_d_of l t).way ++ tests_way l ts

unfoldable pub positions_way : List (Point Way) → List Float
positions_way [] = []
positions_way (c ∷ cs) = (c.x.way ++ c.y.way) ++ positions_way cs

-- the values that a row looks at: of the parameters those of all three vertices, of the pair tests those that are computed, of the positions those
-- of the ring
unfoldable pub way_of : Row → List Float → List Float
unfolding d_of_v e_of_u parameters_of tests_of tests_way ring_positions positions_way area_of
way_of lengths l = []
way_of coordinates l = l
way_of way_to_d l = (d_of_v l).way
way_of d_zero l = []
way_of way_to_e l = (e_of_u l).way
way_of e_zero l = []
way_of way_to_parameter l = parameters_way (parameters_of l 0) ++ (parameters_way (parameters_of l 1) ++ parameters_way (parameters_of l 2))
way_of way_to_pair_test l = tests_way l (tests_of l)
way_of way_to_position l = positions_way (ring_positions l)
way_of way_to_area l = (area_of (ring_positions l)).way

abbrev pub not_all_finite : List Float → Bool
not_all_finite vs = not (all finite vs)

-- the row's test, of the input and the room
unfoldable pub row_test : Row → List Float → List Float → Bool
unfolding all way_of d_of_v e_of_u
row_test lengths l room = not (eqb (length l) 12) || ltb (length room) 12
row_test coordinates l room = not_all_finite (way_of coordinates l)
row_test way_to_d l room = not_all_finite (way_of way_to_d l)
row_test d_zero l room = f64.is_zero (d_of_v l)
row_test way_to_e l room = not_all_finite (way_of way_to_e l)
row_test e_zero l room = f64.is_zero (e_of_u l)
row_test way_to_parameter l room = not_all_finite (way_of way_to_parameter l)
row_test way_to_pair_test l room = not_all_finite (way_of way_to_pair_test l)
row_test way_to_position l room = not_all_finite (way_of way_to_position l)
row_test way_to_area l room = not_all_finite (way_of way_to_area l)

-- the number of the first of these rows that holds, or 0
unfoldable pub first_of : List Row → List Float → List Float → ℕ
unfolding row_test
first_of [] l room = 0
first_of (row ∷ rows) l room = let rest = first_of rows l room in cond (row_test row l room) (number_of row) rest

-- the table's answer: 0 where no row holds
unfoldable pub refusal_of : List Float → List Float → ℕ
unfolding first_of
refusal_of l room = first_of table l room

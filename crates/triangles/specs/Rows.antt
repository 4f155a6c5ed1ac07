-- The rows of the refusal table as predicates, apart from the tests and their cascade, and when an answer has a number. Statements only.
use Rattle.std.specs.Prelude.{◌≡◌, ◌⊎◌, ◌↔◌, true, false, ℕ, ◌<◌, length, Float}
use mathlib.Core.List.{List, [], ◌∷◌, Memᴰ}
use Rattle.std.specs.Float.Ieee.{eq, of_bits}
use Rattle.std.specs.Float.{binary64}
use Rattle.floats.specs.Finite.{finite, nought}
use Rattle.triangles.specs.Pair.{d_of_v, e_of_u}
use Rattle.triangles.specs.Refusals.{Row, lengths, coordinates, way_to_d, d_zero, way_to_e, e_zero, way_to_parameter, way_to_pair_test, way_to_position, way_to_area, number_of, way_of}
use Rattle.triangles.specs.declared.Answer.{Answer}
use Rattle.triangles.specs.Answers.{whole_of}

-- one of these values is not finite
abbrev pub NotFinite : List Float → Type 0
NotFinite vs = (v : Float) × Memᴰ v vs × (finite v ≡ false)

-- the row applies to the input l and the room
abbrev pub Applies : Row → List Float → List Float → Type 0
Applies lengths l room = (length l ≡ 12 → ⊥) ⊎ (length room < 12)
Applies coordinates l room = NotFinite l
Applies way_to_d l room = NotFinite (way_of way_to_d l)
Applies d_zero l room = eq (d_of_v l).value nought ≡ true
Applies way_to_e l room = NotFinite (way_of way_to_e l)
Applies e_zero l room = eq (e_of_u l).value nought ≡ true
Applies way_to_parameter l room = NotFinite (way_of way_to_parameter l)
Applies way_to_pair_test l room = NotFinite (way_of way_to_pair_test l)
Applies way_to_position l room = NotFinite (way_of way_to_position l)
Applies way_to_area l room = NotFinite (way_of way_to_area l)

-- the row's rank, from 0: the table's order, said once more so that the cascade can be held against it
abbrev pub rank_of : Row → ℕ
rank_of lengths = 0
rank_of coordinates = 1
rank_of way_to_d = 2
rank_of d_zero = 3
rank_of way_to_e = 4
rank_of e_zero = 5
rank_of way_to_parameter = 6
rank_of way_to_pair_test = 7
rank_of way_to_position = 8
rank_of way_to_area = 9

-- the row applies and no earlier row does
pub record First (row : Row) (l room : List Float) : Type 0 where
  pub applies : Applies row l room
  pub none_before : (earlier : Row) → rank_of earlier < rank_of row → Applies earlier l room → ⊥

-- a row with this number is the first that applies
abbrev pub RefusedBy : ℕ → List Float → List Float → Type 0
RefusedBy k l room = (row : Row) × First row l room × (number_of row ≡ k)

-- no row applies
abbrev pub NoRow : List Float → List Float → Type 0
NoRow l room = (row : Row) → Applies row l room → ⊥

-- zeros beside the number, and the room as it was lent
pub record Untouched (answer : Answer) (after room : List Float) : Type 0 where
  pub n : answer.n ≡ 0
  pub area : answer.area ≡ of_bits binary64 0
  pub no_vertex : answer.u_in_v ≡ false ∷ false ∷ false ∷ []
  pub no_corner : answer.v_in_u ≡ false ∷ false ∷ false ∷ []
  pub no_neighbour : answer.neighbour ≡ false ∷ false ∷ false ∷ []
  pub room_is : after ≡ room

pub record ExactlyWhen (l room : List Float) : Type 0 where
  -- the answer has the refusal's number k exactly if a row with that number applies and no earlier row does
  pub refused_by : (k : ℕ) → (k ≡ 0 → ⊥) → ((whole_of l room).answer.number ≡ k) ↔ RefusedBy k l room
  -- and number 0 exactly if no row applies
  pub answered : ((whole_of l room).answer.number ≡ 0) ↔ NoRow l room
  -- and with a refusal's number come zeros, and the room as it was
  pub nothing_else : ((whole_of l room).answer.number ≡ 0 → ⊥) → Untouched (whole_of l room).answer (whole_of l room).room room

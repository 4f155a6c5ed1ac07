-- What is promised of a corner that is asked for, for all inputs and all places, and what follows from it for a reader. Statements, and definitions that only they use.
use Rattle.std.specs.Prelude.{◌≡◌, ◌↔◌, true, false, cond, List, [], ◌∷◌, map, ℕ, ◌+◌, ◌*◌, ◌<◌, ◌≤◌, eqb, length, get_or, take, Float}
use Rattle.std.specs.Float.Ieee.{lt, le}
use Rattle.floats.specs.Finite.{nought, one}
use Rattle.floats.specs.OneAnswer.{NoSecond}
use Rattle.lines.specs.Lines.{up_from, start, finish}
use Rattle.lines.specs.Crossings.{crosses}
use Rattle.ring.specs.Places.{Place, vertex, corner, crossing}
use Rattle.triangles.specs.Pair.{signs_by}
use Rattle.triangles.specs.Placing.{plus_end, other_end, parameter_at, fraction_at, part_way, x_at, y_at}
use Rattle.triangles.specs.Answers.{whole_of}
use Rattle.triangles.specs.Rows.{RefusedBy, NoRow}
use Rattle.triangles.specs.Decision.{enough, answer_to}
use Rattle.corners.specs.declared.Told.{Told}
use Rattle.corners.specs.Corners.{told_at}

-- ---- the promise, of the values, the place asked for and the result
pub record CornerPromise (values : List Float) (place : ℕ) (result : Told) : Type 0 where
  pub result_is : result ≡ told_at values place

-- no second result meets it
abbrev pub NoSecondCorner : Type 0
NoSecondCorner = (values : List Float) (place : ℕ) → NoSecond Told (CornerPromise values place)

-- ---- how a result is read
-- the place of the ring that it names
abbrev pub place_told : Told → Place
place_told r = cond (eqb r.kind 0) (vertex r.which) (cond (eqb r.kind 1) (corner r.which) (crossing r.edge r.line))

-- it stands at position k of these values: of the input's, U0, U1, U2, V0, V1, V2 are 0 to 5
pub record Stands (values : List Float) (k : ℕ) (result : Told) : Type 0 where
  pub x : result.x ≡ x_at values k
  pub y : result.y ≡ y_at values k

-- ---- what holds of a crossing
pub record CrossingTold (values : List Float) (result : Told) (P Q : ℕ) : Type 0 where
  -- the ends of its edge have different signs on its line: P is plus there, and Q is not
  pub differ : crosses (signs_by values (start result.edge)) (signs_by values (finish result.edge)) result.line ≡ true
  pub plus : signs_by values P result.line ≡ true
  pub minus : signs_by values Q result.line ≡ false
  -- so its parameter at P is at least zero, also where w counts as plus unseen, and at Q it is below zero: the values tell which end is P
  pub at_least : le nought (parameter_at values P result.line) ≡ true
  pub below : lt (parameter_at values Q result.line) nought ≡ true
  -- t is a_P / (a_P − a_Q), from 0 to 1, both included, whatever rounding did
  pub t : result.t ≡ fraction_at values P Q result.line
  pub from : le nought result.t ≡ true
  pub to : le result.t one ≡ true
  -- and it stands at P + t·(Q − P), of that very t
  pub x : result.x ≡ part_way result.t (x_at values P) (x_at values Q)
  pub y : result.y ≡ part_way result.t (y_at values P) (y_at values Q)

-- ---- what holds of a corner that is told, of the place p of the ring
pub record PlaceTold (values : List Float) (p : Place) (result : Told) : Type 0 where
  -- it names that place
  pub is_place : place_told result ≡ p
  pub kinds : result.kind ≤ 2
  pub numbers : (result.which < 3) × (result.edge < 3) × (result.line < 3)
  -- what its kind does not have is zero
  pub no_crossing : (result.kind ≡ 2 → ⊥) → (result.edge ≡ 0) × (result.line ≡ 0) × (result.t ≡ nought)
  pub no_number : result.kind ≡ 2 → result.which ≡ 0
  -- a vertex of U and a corner of V stand where the input has them
  pub of_u : result.kind ≡ 0 → Stands values result.which result
  pub of_v : result.kind ≡ 1 → Stands values (3 + result.which) result
  pub crossed : result.kind ≡ 2 → CrossingTold values result (plus_end values result.edge result.line) (other_end values result.edge result.line)

-- zeros beside the number
pub record Zeros (result : Told) : Type 0 where
  pub kind : result.kind ≡ 0
  pub which : result.which ≡ 0
  pub edge : result.edge ≡ 0
  pub line : result.line ≡ 0
  pub t : result.t ≡ nought
  pub x : result.x ≡ nought
  pub y : result.y ≡ nought

-- ---- of the very result that was returned
pub record CornerDemand (values : List Float) (place : ℕ) (result : Told) : Type 0 where
  -- 01's refusals come first, each exactly when an answer in a room of twelve values has it
  pub refused_by : (k : ℕ) → (k ≡ 0 → ⊥) → (k ≡ 6 → ⊥) → (result.number ≡ k) ↔ RefusedBy k values enough
  -- then 6, exactly for a place that is not below n
  pub six : (result.number ≡ 6) ↔ (NoRow values enough × ((answer_to values).n ≤ place))
  pub answered : (result.number ≡ 0) ↔ (NoRow values enough × (place < (answer_to values).n))
  -- beside a refusal's number there are zeros
  pub zeros : (result.number ≡ 0 → ⊥) → Zeros result
  -- what is told is a corner of the ring, at the values that an answer writes for it, whatever room it is lent
  pub corner : result.number ≡ 0 → PlaceTold values (get_or (whole_of values enough).ring place (vertex 0)) result
  pub written : result.number ≡ 0 → (room : List Float) → 12 ≤ length room → Stands (whole_of values room).room place result

abbrev pub CornerReturned : Type 0
CornerReturned = (values : List Float) (place : ℕ) (result : Told) → CornerPromise values place result → CornerDemand values place result

-- ---- of all of them together: asked for from 0 to n − 1, they are the ring, in its order, and their positions are the values that are written
unfoldable pub positions_told : List Told → List Float
positions_told [] = []
positions_told (r ∷ rs) = r.x ∷ r.y ∷ positions_told rs

pub record AllTold (values : List Float) : Type 0 where
  pub places : map place_told (map (told_at values) (up_from 0 (answer_to values).n)) ≡ (whole_of values enough).ring
  pub positions : (room : List Float) → 12 ≤ length room → positions_told (map (told_at values) (up_from 0 (answer_to values).n)) ≡ take (2 * (answer_to values).n) (whole_of values room).room

abbrev pub InOrder : Type 0
InOrder = (values : List Float) → NoRow values enough → AllTold values

-- Demands 1 and 3 of a routine, read off its promise: of the very result that it returned and of the room as it left it. Statements only.
use Rattle.std.specs.Prelude.{◌≡◌, ◌↔◌, true, List, ℕ, ◌*◌, length, take, drop, Float}
use Rattle.floats.specs.Lists.{all}
use Rattle.floats.specs.Finite.{finite}
use Rattle.triangles.specs.declared.Answer.{Answer}
use Rattle.triangles.specs.Answers.{whole_of}
use Rattle.triangles.specs.Rows.{RefusedBy, NoRow, Untouched}
use Rattle.triangles.specs.Promise.{PairPromise}
use Rattle.triangles.specs.Demand.{PairDemand3}

pub record PairDemand1 (values room : List Float) (result : Answer) (after : List Float) : Type 0 where
  -- refused with the number k exactly if a row with that number is the first that applies, and answered exactly if no row does
  pub refused_by : (k : ℕ) → (k ≡ 0 → ⊥) → (result.number ≡ k) ↔ RefusedBy k values room
  pub answered : (result.number ≡ 0) ↔ NoRow values room
  -- beside a refusal's number there are zeros, and the room is as it was lent
  pub nothing_else : (result.number ≡ 0 → ⊥) → Untouched result after room
  -- refused or not: the room keeps its length, and what lies beyond the first 2n values
  pub same_length : length after ≡ length room
  pub rest : drop (2 * result.n) after ≡ drop (2 * result.n) room
  -- what an answer holds is finite
  pub corners : result.number ≡ 0 → all finite (take (2 * result.n) after) ≡ true
  pub area : result.number ≡ 0 → finite result.area ≡ true

abbrev pub PairReturnedOne : Type 0
PairReturnedOne = (values room : List Float) (result : Answer) (after : List Float) → PairPromise values room result after → PairDemand1 values room result after

abbrev pub PairReturnedThree : Type 0
PairReturnedThree = (values room : List Float) (result : Answer) (after : List Float) → PairPromise values room result after → result.number ≡ 0 → PairDemand3 values (whole_of values room).ring result after

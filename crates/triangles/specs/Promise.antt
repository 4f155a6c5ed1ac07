-- What the entry point promises of its result and of the lent room, for all inputs. Statements only.
use Rattle.std.specs.Prelude.{◌≡◌, true, List, ◌*◌, length, take, drop, Float}
use Rattle.floats.specs.Lists.{all}
use Rattle.floats.specs.Finite.{finite}
use Rattle.triangles.specs.declared.Answer.{Answer}
use Rattle.triangles.specs.Answers.{whole_of}

-- of the values and the room lent, the result and the room afterwards
pub record PairPromise (values room : List Float) (result : Answer) (after : List Float) : Type 0 where
  pub result_is : result ≡ (whole_of values room).answer
  pub after_is : after ≡ (whole_of values room).room

-- no second result and no second room meets it
abbrev pub NoSecondPair : Type 0
NoSecondPair = (values room : List Float) (r s : Answer) (a b : List Float) → PairPromise values room r a → PairPromise values room s b → (r ≡ s) × (a ≡ b)

-- of any input, refused or not: the room keeps its length, and its values beyond the first 2n are as they were lent
pub record RestKept (values room : List Float) : Type 0 where
  pub same_length : length (whole_of values room).room ≡ length room
  pub rest : drop (2 * (whole_of values room).answer.n) (whole_of values room).room ≡ drop (2 * (whole_of values room).answer.n) room

-- of an answer that is no refusal: its area and all values that it writes are finite
pub record FiniteAnswer (values room : List Float) : Type 0 where
  pub corners : all finite (take (2 * (whole_of values room).answer.n) (whole_of values room).room) ≡ true
  pub area : finite (whole_of values room).answer.area ≡ true

abbrev pub AnswersFinite : Type 0
AnswersFinite = (values room : List Float) → (whole_of values room).answer.number ≡ 0 → FiniteAnswer values room

-- What the promise says of the definition's answer and room it says of those that were returned. Assumes nothing.
use mathlib.Core.Path.{◌≡◌, sym, subst}
use mathlib.Core.List.{List}
use lib.Ieee.{Float}
use Rattle.triangles.specs.declared.Answer.{Answer}
use Rattle.triangles.specs.Answers.{whole_of}
use Rattle.triangles.specs.Promise.{PairPromise}
use Rattle.triangles.specs.Demand.{PairDemand3}
use Rattle.triangles.specs.Returned.{PairDemand1, PairReturnedOne, PairReturnedThree}
use Rattle.triangles.proofs.Rows.{exactly_when}
use Rattle.triangles.proofs.Rest.{rest_kept}
use Rattle.triangles.proofs.FiniteAnswer.{finite_answer}
use Rattle.triangles.proofs.Demand.{demand3}

module _ (values room : List Float) where
  abbrev answer : Answer
  answer = (whole_of values room).answer

  abbrev after : List Float
  after = (whole_of values room).room

  -- from the definition's answer and room to any others that are the same
  carried : (P : Answer → List Float → Type 0) → P answer after → (result : Answer) (room' : List Float) → PairPromise values room result room' → P result room'
  carried P p result room' k = subst (P result) (sym k.after_is) (subst (λ a. P a after) (sym k.result_is) p)

  of_definition : PairDemand1 values room answer after
  of_definition = record {
    refused_by = (exactly_when values room).refused_by;
    answered = (exactly_when values room).answered;
    nothing_else = (exactly_when values room).nothing_else;
    same_length = (rest_kept values room).same_length;
    rest = (rest_kept values room).rest;
    corners = λ h. (finite_answer values room h).corners;
    area = λ h. (finite_answer values room h).area;
  }

pub returned_one : PairReturnedOne
returned_one values room result after k = carried values room (PairDemand1 values room) (of_definition values room) result after k

pub returned_three : PairReturnedThree
returned_three values room result after k =
    carried values room (λ a r. a.number ≡ 0 → PairDemand3 values (whole_of values room).ring a r) (demand3 values room) result after k

-- A pair that is far is apart; of any other the answer is the decision.
use mathlib.Core.Path.{refl}
use native.Mathlib.Omega.{arith}
use Rattle.triangles.specs.Decision.{enough}
use Rattle.routine.proofs.Kept.{told_Keeps}
use Rattle.routine.proofs.Decisions.{decision_far, decision_short, decision_is}
use Rattle.routine.proofs.decision.Goals as goal

pub returns-then-is_far : goal.returns-then-is_far
returns-then-is_far c = decision_far c.args.values.now c.is_far.ensures c.if-is_far.true

pub returns-in_default : goal.returns-in_default
returns-in_default c = decision_short c.args.values.now c.is_far.ensures c.if-is_far.false c.in_default.ensures.cases c.number.ensures

pub returns : goal.returns
returns c =
    let l = c.args.values.now in
    decision_is l c.is_far.ensures c.if-is_far.false (told_Keeps l enough c.in-Some.ensures.cases (omega arith) c.start_of.ensures refl).promise c.decided.ensures

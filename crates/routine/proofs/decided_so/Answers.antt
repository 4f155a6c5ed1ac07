-- A refusal's number, or what was found.
use mathlib.Core.Path.{ap, ◌∙◌}
use Rattle.triangles.specs.Decision.{decided}
use Rattle.routine.proofs.Decisions.{refused_is}
use Rattle.routine.proofs.decided_so.Goals as goal

pub returns-in-Some : goal.returns-in-Some
returns-in-Some c = c.decision_from.ensures ∙ ap (λ o. decided o.answer) (rw c.in-Some.is at c.in-Ok.ensures)

pub returns-in-None : goal.returns-in-None
unfolding decided
returns-in-None c = ap (λ o. decided o.answer) (rw c.in-None.is at c.in-Ok.ensures)

pub returns-in-Err : goal.returns-in-Err
returns-in-Err c = refused_is c.in-Err.k c.number.ensures ∙ ap (λ o. decided o.answer) c.in-Err.ensures

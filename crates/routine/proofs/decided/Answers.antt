-- Where all of U lies beyond a line nothing is found, and nothing found is apart.
use mathlib.Core.Path.{sym, ap, ◌∙◌}
use mathlib.Core.Bool.{cond}
use Rattle.triangles.specs.Decision.{decided}
use Rattle.routine.specs.Code.{outcome_refused, settled_by, found_by}
use Rattle.routine.proofs.decided.Goals as goal

pub returns-then-beyond : goal.returns-then-beyond
unfolding found_by decided
returns-then-beyond c =
    let s = c.args.start in
    sym (ap (λ b. decided (cond b (outcome_refused 0) (settled_by c.args.values.now s.d s.e s.p s.q s.r)).answer) (sym c.beyond.ensures ∙ c.if-beyond.true))

pub returns : goal.returns
unfolding found_by
returns c =
    let s = c.args.start in
    c.decided_so.ensures ∙ sym (ap (λ b. decided (cond b (outcome_refused 0) (settled_by c.args.values.now s.d s.e s.p s.q s.r)).answer) (sym c.beyond.ensures ∙ c.if-beyond.false))

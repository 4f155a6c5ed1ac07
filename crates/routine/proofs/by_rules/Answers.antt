-- The steps of the code are those of `rules_by`.
use mathlib.Core.Path.{sym, ◌∙◌}
use Rattle.routine.proofs.Decisions.{decides_by, decides_apart}
use Rattle.routine.proofs.by_rules.Goals as goal

pub returns-then-beyond : goal.returns-then-beyond
returns-then-beyond c = decides_apart c.args.u c.args.v c.start_by-start.ensures (sym c.beyond.ensures ∙ c.if-beyond.true)

pub returns : goal.returns
returns c = decides_by c.args.u c.args.v c.start_by-start.ensures (sym c.beyond.ensures ∙ c.if-beyond.false) c.decided_so.ensures

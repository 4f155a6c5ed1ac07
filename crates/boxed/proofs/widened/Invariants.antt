-- Each turn widens the box by one more.
use mathlib.Core.Path.{◌≡◌}
use Rattle.boxed.specs.Tables.{around_from}
use Rattle.boxed.proofs.widened.Given as goal

abbrev pub invariant-loop-b : goal.invariant-loop-b
invariant-loop-b g l = l.sum ≡ around_from (g.B.Boxes.at l.table) l.j l.b

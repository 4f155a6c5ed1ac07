-- Each turn adds one more absolute cross.
use mathlib.Core.Path.{◌≡◌}
use Rattle.leaklist.specs.Code.{sum_in}
use Rattle.leaklist.proofs.areas.area_of.Given as goal

abbrev pub invariant-loop-s : goal.invariant-loop-s
invariant-loop-s l = l.sum ≡ sum_in l.table l.i l.s-index

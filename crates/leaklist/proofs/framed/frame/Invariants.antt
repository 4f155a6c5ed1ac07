-- Each turn puts the box of one more triangle.
use lib.ListN.{length}
use mathlib.Core.Path.{◌≡◌}
use Rattle.leaklist.specs.Code.{Framed}
use Rattle.leaklist.proofs.framed.frame.Given as goal

abbrev pub invariant-loop-k : goal.invariant-loop-k
invariant-loop-k l = (length l.bounds ≡ length l.table) × Framed l.table l.k l.bounds

-- Each turn adds one more cross.
use mathlib.Core.Path.{◌≡◌}
use Prim.Native.Nat.{◌-◌, ◌≤◌}
use lib.ListN.{length}
use Rattle.routine.specs.Code.{sum_of_crosses}
use Rattle.routine.proofs.spots.area_of.Given as goal

abbrev pub invariant-loop-k : goal.invariant-loop-k
invariant-loop-k l = (l.k - 2 ≤ length l.corners - 2) × (l.sum ≡ sum_of_crosses l.corners (l.k - 2))

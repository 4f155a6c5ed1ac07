-- Each turn writes one more position.
use mathlib.Core.Path.{◌≡◌}
use mathlib.Core.List.{◌++◌}
use Prim.Native.Nat.{◌*◌}
use lib.ListN.{length, take, drop}
use Rattle.routine.specs.Code.{values_of}
use Rattle.routine.proofs.finding.Found.write.Given as goal

abbrev pub invariant-loop-i : goal.invariant-loop-i
invariant-loop-i l = record {
  same_length : length l.room ≡ length l.fn.room;
  so_far : l.room ≡ values_of (take l.i l.corners) ++ drop (2 * l.i) l.fn.room;
}

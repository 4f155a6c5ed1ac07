-- Each turn lays one more position.
use mathlib.Core.Path.{◌≡◌}
use lib.ListN.{length, take}
use Rattle.routine.specs.Code.{corners_of, all_fine}
use Rattle.routine.proofs.spots.corners_of.Given as goal

abbrev pub invariant-loop-i : goal.invariant-loop-i
invariant-loop-i l = record {
  six : length l.at ≡ 6;
  laid : take l.i l.at ≡ corners_of l.values l.params l.signs (take l.i (take l.fn.n l.fn.places));
  is_fine : l.fine ≡ all_fine l.values l.params l.signs (take l.i (take l.fn.n l.fn.places));
}

-- Each turn adds one more line.
use Prim.Native.Nat.{◌≤◌, ◌*◌}
use lib.ListN.{length, take}
use mathlib.Core.Path.{◌≡◌}
use Rattle.writing.proofs.Lines.{lines}
use Rattle.writing.proofs.lines_length.Given as goal

abbrev pub invariant-loop-test : goal.invariant-loop-test
invariant-loop-test l = (l.sum ≡ length (lines (take l.test-index l.triples))) × (l.sum ≤ 20000000000 * l.test-index)

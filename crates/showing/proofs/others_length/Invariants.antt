-- With those that are left it is the whole.
use Prim.Native.Nat.{◌+◌, ◌*◌, ◌≤◌}
use Rattle.chart.specs.Words.{others}
use Rattle.showing.specs.Code.{texts_of}
use lib.ListN.{length, drop}
use mathlib.Core.Path.{◌≡◌}
use Rattle.showing.proofs.others_length.Given as goal

abbrev pub invariant-loop-bytes : goal.invariant-loop-bytes
invariant-loop-bytes l = (l.sum + length (others (texts_of (drop l.bytes-index l.triangles))) ≡ length (others (texts_of l.triangles))) × (l.sum ≤ 120 * l.bytes-index)

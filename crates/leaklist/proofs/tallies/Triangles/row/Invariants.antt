-- Each turn counts one more pair that is near.
use Prim.Native.Nat.{◌≤◌, ◌+◌, ◌-◌}
use mathlib.Core.Path.{◌≡◌}
use Rattle.listing.specs.Pairs.{tallied}
use Rattle.listing.specs.Turns.{folded}
use Rattle.leaklist.specs.Code.{row_in}
use Rattle.leaklist.proofs.tallies.Triangles.row.Given as goal

abbrev pub invariant-loop-k : goal.invariant-loop-k
invariant-loop-k l = (l.j ≤ l.from) × (l.from ≤ l.j + l.n) × (l.sum ≡ folded tallied l.initial.sum (row_in l.self.shapes.now l.i l.j (l.from - l.j))) × (l.sum.overlapping ≤ l.initial.sum.overlapping + (l.from - l.j)) × (l.sum.touching ≤ l.initial.sum.touching + (l.from - l.j)) × (l.sum.tested ≤ l.initial.sum.tested + (l.from - l.j))

abbrev pub decreases-loop-k : goal.decreases-loop-k
decreases-loop-k l = l.j + l.n - l.from

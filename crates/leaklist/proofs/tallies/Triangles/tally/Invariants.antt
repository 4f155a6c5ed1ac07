-- Each turn counts one more row.
use Prim.Native.Nat.{◌≤◌, ◌+◌, ◌-◌, ◌*◌}
use mathlib.Core.Path.{◌≡◌}
use Rattle.leaklist.specs.Code.{tally_in}
use Rattle.leaklist.proofs.tallies.Triangles.tally.Given as goal

abbrev pub invariant-loop-a : goal.invariant-loop-a
invariant-loop-a l = (l.i ≤ l.from) × (l.from ≤ l.i + l.fn.e.count) × (l.sum ≡ tally_in l.self.shapes.now l.i (l.from - l.i) l.j l.fn.f.count) × (l.sum.overlapping ≤ 2730 * (l.from - l.i)) × (l.sum.touching ≤ 2730 * (l.from - l.i)) × (l.sum.tested ≤ 2730 * (l.from - l.i))

abbrev pub decreases-loop-a : goal.decreases-loop-a
decreases-loop-a l = l.i + l.fn.e.count - l.from

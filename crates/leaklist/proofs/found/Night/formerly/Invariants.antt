-- Each turn looks at the set of one more entry of the table.
use Prim.Native.Nat.{◌≤◌}
use mathlib.Core.Path.{◌≡◌}
use Rattle.leaklist.specs.Code.{formerly_to}
use Rattle.leaklist.proofs.found.Night.formerly.Given as goal

abbrev pub invariant-loop-k : goal.invariant-loop-k
invariant-loop-k l = (l.sum ≤ l.k) × (l.sum ≡ formerly_to l.self.file.now l.k)

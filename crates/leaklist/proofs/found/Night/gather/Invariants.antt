-- Each turn adds what is found of one more recording.
use Prim.Native.Nat.{◌≤◌, ◌*◌}
use mathlib.Core.Path.{◌≡◌}
use Rattle.leaklist.specs.Code.{found_in, list_to}
use Rattle.leaklist.proofs.found.Night.gather.Given as goal

abbrev pub invariant-loop-i : goal.invariant-loop-i
invariant-loop-i l = (found_in l.found.triples l.found.counts ≡ list_to l.self.file.now l.i) × (l.found.counts.leaks ≤ 64 * l.i) × (l.found.counts.touching ≤ 64 * l.i)

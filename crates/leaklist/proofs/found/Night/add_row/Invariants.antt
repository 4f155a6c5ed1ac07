-- Each turn adds what is found with one more recording.
use Prim.Native.Nat.{◌≤◌, ◌+◌}
use mathlib.Core.Path.{◌≡◌}
use Rattle.leaklist.specs.Code.{found_in, together, row_to}
use Rattle.leaklist.proofs.found.Night.add_row.Given as goal

abbrev pub invariant-loop-j : goal.invariant-loop-j
invariant-loop-j l = (found_in l.found.triples l.found.counts ≡ together (found_in l.initial.found.triples l.initial.found.counts) (row_to l.self.file.now l.test.number l.j)) × (l.found.counts.leaks ≤ l.initial.found.counts.leaks + l.j) × (l.found.counts.touching ≤ l.initial.found.counts.touching + l.j)

-- Each turn prepares one more triangle.
use lib.ListN.{length}
use mathlib.Core.Path.{◌≡◌}
use Rattle.leaklist.specs.Code.{Prepared}
use Rattle.leaklist.proofs.prepared.prepare.Given as goal

abbrev pub invariant-loop-k : goal.invariant-loop-k
invariant-loop-k l = (length l.table ≡ length l.initial.table) × Prepared l.file l.k l.table

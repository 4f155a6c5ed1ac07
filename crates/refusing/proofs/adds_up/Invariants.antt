-- What is left and the sum so far are the triangles.
use Prim.Native.Nat.{◌+◌, ◌/◌}
use lib.ListN.{length}
use mathlib.Core.Path.{◌≡◌}
use Rattle.filing.specs.Given.{sum_of}
use Rattle.refusing.proofs.adds_up.Given as goal

abbrev pub invariant-loop-count : goal.invariant-loop-count
invariant-loop-count l = l.left + sum_of l.lists.counts.now l.count-index ≡ length l.lists.numbers.now / 6

-- Each turn's bytes are a piece of the run so far, and they are some, so that the count grows; or the turn is the last.
use Prim.Native.Nat.{◌≤◌, ◌-◌}
use mathlib.Core.Path.{◌≡◌}
use lib.ListN.{length}
use Rattle.arrival.specs.Whole.{SoFar}
use Rattle.input.proofs.read_all.Given as goal

abbrev pub invariant-loop-arrived : goal.invariant-loop-arrived
invariant-loop-arrived g l = SoFar l.initial.buffer l.arrived l.buffer × (length l.part ≡ 65536) × (l.arrived ≤ 65537)

abbrev pub decreases-loop-arrived : goal.decreases-loop-arrived
decreases-loop-arrived g l = 65537 - l.arrived

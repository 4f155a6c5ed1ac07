-- Each turn passes over one box that shares no point.
use Prim.Native.Nat.{◌-◌, ◌≤◌, max}
use mathlib.Core.Path.{◌≡◌}
use Rattle.boxed.specs.Tables.{near_from}
use Rattle.boxed.proofs.search.Given as goal

abbrev pub invariant-loop-k : goal.invariant-loop-k
invariant-loop-k g l = (l.k ≤ max l.stop l.from) × (near_from (g.B.Boxes.at l.table) l.b (l.to - l.from) l.from ≡ near_from (g.B.Boxes.at l.table) l.b (l.to - l.k) l.k)

-- Before each turn the triangles that are left say what all say.
use Prim.Native.Nat.{◌-◌, ◌/◌}
use mathlib.Core.Path.{◌≡◌}
use mathlib.Core.List.{[], ◌++◌}
use Rattle.floats.specs.Turns.{in_turn}
use Rattle.layout.specs.Verdict.{out_of_range, flat, first_of}
use Rattle.layout.specs.Stages.{triangle_rows}
use Rattle.footprint.proofs.stages.triangles.Given as goal

abbrev pub invariant-loop-k : goal.invariant-loop-k
invariant-loop-k l = first_of l.file (triangle_rows l.file) ≡ first_of l.file (in_turn out_of_range flat (l.fn.table.place / 24 - l.k) l.k ++ [])

-- Where those that are left are put, all are.
use Prim.Native.Nat.{ℕ, ◌+◌, ◌≤◌}
use Rattle.chart.specs.Words.{others}
use Rattle.showing.specs.Code.{texts_of}
use Rattle.text.specs.Room.{Put}
use lib.ListN.{length, drop}
use mathlib.Core.List.{List}
use Rattle.showing.proofs.put_others.Given as goal

abbrev pub invariant-loop-bytes : goal.invariant-loop-bytes
invariant-loop-bytes l =
    (l.next + length (others (texts_of (drop l.bytes-index l.triangles))) ≤ length l.room)
    × ((after : List ℕ) (q : ℕ) → Put l.room l.next (others (texts_of (drop l.bytes-index l.triangles))) after q → Put l.initial.room l.to (others (texts_of l.triangles)) after q)

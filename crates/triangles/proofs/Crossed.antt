-- A crossing in a ring lies on an edge of U whose ends have different signs on its line. One computed test over all walks. Assumes nothing.
use Prim.Native.Nat.{ℕ}
use mathlib.Core.Bool.{Bool, true}
use mathlib.Core.List.{List, Memᴰ}
use lib.Dec.{T}
use lib.Ieee.{Float}
use Rattle.floats.specs.Lists.{all}
use Rattle.floats.specs.Way.{f64}
use Rattle.floats.proofs.Lists.{all_at}
use Rattle.lines.specs.Lines.{start, finish, signs_at}
use Rattle.lines.specs.Parameters.{signs}
use Rattle.lines.specs.Crossings.{crosses}
use Rattle.order.specs.PairTest.{signs_of_u, outcomes_on}
use Rattle.order.specs.Order.{order_at}
use Rattle.order.proofs.Every.{in_seven, in_eight}
use Rattle.ring.specs.Places.{Place, vertex, corner, crossing}
use Rattle.ring.specs.Ring.{ring}
use Rattle.ring.proofs.Walks.{Test, all_walks, every_walk}
use Rattle.triangles.specs.Pair.{vertex_signs, outcomes_of, edge_orders, signs_by, carried_by, ring_of}

-- a place that is no crossing, or a crossing whose edge crosses its line
is_crossed : List (List Bool) → Place → Bool
is_crossed ss (vertex i) = true
is_crossed ss (corner k) = true
is_crossed ss (crossing e a) = crosses (signs_at ss (start e)) (signs_at ss (finish e)) a

all_crossed : Test
all_crossed ss os = all (is_crossed ss) (ring (signs_at ss) (order_at os))

every_crossed : T (all_walks all_crossed)
unfolding all_walks all_crossed is_crossed all ring
every_crossed = tt

pub crossed : (l : List Float) (e a : ℕ) → Memᴰ (crossing e a) (ring_of l) → T (crosses (signs_by l (start e)) (signs_by l (finish e)) a)
unfolding ring_of vertex_signs edge_orders outcomes_of signs_of_u outcomes_on signs all_crossed is_crossed
crossed l e a m =
    all_at (is_crossed (vertex_signs l)) (ring_of l)
    (every_walk all_crossed every_crossed (signs f64 (carried_by l 0)) (signs f64 (carried_by l 1)) (signs f64 (carried_by l 2)) (in_seven _ _ _) (in_seven _ _ _) (in_seven _ _ _) (outcomes_of l) (λ k. in_eight _ _ _)) m

-- 01, "Flags, ring and area": the flags. u i are the signs of vertex i; edge e meets its lines in the order o e. Definitions only.
use Rattle.std.specs.Prelude.{Bool, ◌&&◌, ◌||◌, ℕ}
use mathlib.Core.List.{List, map}
use Rattle.std.proofs.Math.Dec.{eqb}
use Rattle.floats.specs.Lists.{all, any}
use Rattle.lines.specs.Lines.{lines, three, lower_line, upper_line}
use Rattle.lines.specs.Crossings.{on_edge}
use Rattle.lines.specs.Round.{crossings_of, corner_by}
use Rattle.ring.specs.Places.{Place, vertex, corner, crossing, on_line}

-- vertex i is in V: plus on all three lines
unfoldable pub vertex_in : (ℕ → ℕ → Bool) → ℕ → Bool
unfolding all lines
vertex_in u i = all (u i) (lines 3)

module _ (u : ℕ → ℕ → Bool) (o : ℕ → List ℕ) where
  -- corner k is in U, as its lower line says; that its upper line says the same is a theorem (`Agrees`) and no test
  unfoldable pub corner_in : ℕ → Bool
  unfolding corner_by
  corner_in k = corner_by u o (lower_line k) (upper_line k)

  -- edge e has a crossing on V's edge a
  unfoldable pub crossing_on : ℕ → ℕ → Bool
  unfolding any crossings_of on_edge
  crossing_on e a = any (λ c. eqb a c.line && on_edge 3 c) (crossings_of u o e)

  -- the neighbour flag of V's edge a: it has a crossing on it, or a corner at one of its ends is in U
  unfoldable pub neighbour : ℕ → Bool
  unfolding any crossing_on corner_in
  neighbour a = any (λ e. crossing_on e a) three || any (λ k. on_line a k && corner_in k) three

  -- found inside, or found on an edge: what has to stand in the ring
  unfoldable pub found : Place → Bool
  unfolding vertex_in corner_in crossing_on
  found (vertex i) = vertex_in u i
  found (corner k) = corner_in k
  found (crossing e a) = crossing_on e a

  -- the nine flags, by kind
  unfoldable pub vertices_in : List Bool
  unfolding vertex_in
  vertices_in = map (vertex_in u) three

  unfoldable pub corners_in : List Bool
  unfolding corner_in
  corners_in = map corner_in three

  unfoldable pub neighbours : List Bool
  unfolding neighbour
  neighbours = map neighbour three
